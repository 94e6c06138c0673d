-- What an end and its devices are after it has heard what came, and written what is due.
use Rattle.std.specs.Prelude.{◌≡◌, ℕ, ◌≤◌, ◌<◌, Bool, true, false, List, [], ◌∷◌, ◌++◌, length, take, Option, Some, Result, Ok, Err, ◌⊎◌}
use Rattle.std.specs.Io.KnownBytes.{Appends}
use Rattle.bx_devices.specs.declared.watched.Watched.{Watched}
use Rattle.bx_devices.specs.Watching.{device_of, is_faulted, reads_of}
use Rattle.bx_events.specs.Events.{Event}
use Rattle.bx_frames.specs.Courses.{after, told, ticks_of, ticks_last}
use Rattle.bx_frames.specs.Talks.{Talk, turn_in}
use Rattle.bx_frames.specs.Frames.{is_far}
use Rattle.bx_frames.specs.Reading.{IsRead, FailsToRead}
use Rattle.bx_frames.specs.declared.fault.LinkFault.{LinkFault}
use Rattle.bx_frames.specs.declared.fault.LinkFault.TheVariants.{ReadFailed, WriteFailed, EndedInFrame}
use Rattle.bx_frames.specs.declared.frame.Receiver.{Receiver}
use Rattle.bx_frames.specs.declared.turn.TheConstants.{MAX_MESSAGES}

-- ---- what was heard of a text

-- all of it happened, it ended so, and this is left
pub record IsWholeTalk (talk : Talk) (events : List Event) (result : Result Bool LinkFault) (left : Option (List ℕ)) : Type 0 where
  pub all : events ≡ talk.events
  pub ending : result ≡ talk.ending
  pub rest : left ≡ Some talk.rest

-- what was read holds just these events, and breaks off inside a frame
pub record IsTornTalk (finds : List ℕ → Talk) (text : List ℕ) (events : List Event) (left : Option (List ℕ)) : Type 0 where
  pub read : List ℕ
  pub is_read : IsRead text read left
  pub all : events ≡ (finds read).events
  pub cut : (finds read).ending ≡ Err EndedInFrame

-- octets broke off inside a frame; or they ended with an end of turn, after which a far end has its tick
abbrev pub BreaksOff : Receiver → Result Bool LinkFault → List Event → Type 0
BreaksOff receiver ending events = (ending ≡ Err EndedInFrame) ⊎ ((ending ≡ Ok true) × (ticks_last false events ≡ true) × (is_far receiver ≡ true))

-- what was read holds just these events, and ends after the last frame of them: before the next, or after an end of
-- turn with whose tick the events of a far end end
pub record IsTalkLeft (receiver : Receiver) (finds : List ℕ → Talk) (text : List ℕ) (events : List Event) (left : Option (List ℕ)) : Type 0 where
  pub read : List ℕ
  pub is_read : IsRead text read left
  pub all : events ≡ (finds read).events
  pub following : (finds read).following ≡ []
  pub rest : (finds read).rest ≡ []
  pub cut : BreaksOff receiver (finds read).ending events

-- all was heard up to the ending; or a read failed inside the frame after these events; or a write failed, and nothing
-- was read after them
abbrev pub IsHeard : Receiver → (List ℕ → Talk) → List ℕ → List Event → Result Bool LinkFault → Option (List ℕ) → Type 0
IsHeard receiver finds text events result left = IsWholeTalk (finds text) events result left ⊎ (((result ≡ Err ReadFailed) × IsTornTalk finds text events left) ⊎ ((result ≡ Err WriteFailed) × IsTalkLeft receiver finds text events left))

-- ---- what was written for events

-- a write of what the last of them has written failed: all before it was written, and a prefix of it, which is not the
-- whole
pub record IsCutShort {D : Type 0} (next : D → Event → D) (text : D → Event → List ℕ) (old new : Option (List ℕ)) (d : D) (events : List Event) : Type 0 where
  pub before : List Event
  pub last : Event
  pub all : events ≡ before ++ last ∷ []
  pub count : ℕ
  pub least : length (told next text before d) ≤ count
  pub most : count < length (told next text events d)
  pub written : Appends old new (take count (told next text events d))

-- all was written; or a write of the last of it failed
pub record Tells {D W : Type 0} (next : D → Event → D) (text : D → Event → List ℕ) (contents : W → Option (List ℕ)) (w w' : Watched W) (d : D) (events : List Event) (result : Result Bool LinkFault) : Type 0 where
  pub whole : (result ≡ Err WriteFailed) ⊎ Appends (contents (device_of w)) (contents (device_of w')) (told next text events d)
  pub part : result ≡ Err WriteFailed → IsCutShort next text (contents (device_of w)) (contents (device_of w')) d events
  pub faulted : result ≡ Err WriteFailed → is_faulted w' ≡ true
  pub unfaulted : (is_faulted w' ≡ is_faulted w) ⊎ (result ≡ Err WriteFailed)

-- ---- both

-- an end has gone through these events, which are what a definition finds in what was read
pub record TalksThrough {D R W : Type 0} (receiver : Receiver) (next : D → Event → D) (text : D → Event → List ℕ) (finds : List ℕ → Talk) (remaining : R → Option (List ℕ)) (contents : W → Option (List ℕ))
    (r r' : Watched R) (w w' : Watched W) (d d' : D) (events : List Event) (result : Result Bool LinkFault) : Type 0 where
  pub day : d' ≡ after next events d
  pub talk : (known : List ℕ) → remaining (device_of r) ≡ Some known → IsHeard receiver finds known events result (remaining (device_of r'))
  pub written : Tells next text contents w w' d events result
  pub faulted : result ≡ Err ReadFailed → FailsToRead r r'
  pub counted : reads_of r ≤ reads_of r'
  pub unfaulted : (is_faulted r' ≡ is_faulted r) ⊎ (result ≡ Err ReadFailed)

-- an end has gone through events with so many ticks among them
pub record Went {D R W : Type 0} (receiver : Receiver) (next : D → Event → D) (text : D → Event → List ℕ) (finds : List ℕ → Talk) (ticking : Result Bool LinkFault → ℕ → Type 0) (remaining : R → Option (List ℕ))
    (contents : W → Option (List ℕ)) (r r' : Watched R) (w w' : Watched W) (d d' : D) (result : Result Bool LinkFault) : Type 0 where
  pub events : List Event
  pub goes : TalksThrough receiver next text finds remaining contents r r' w w' d d' events result
  pub ticks : ticking result (ticks_of events)

-- while an end hears, it does not tick
abbrev pub no_tick : Result Bool LinkFault → ℕ → Type 0
no_tick result n = n ≡ 0

-- an end heard the messages of a turn, and kept the events that it went through
abbrev pub HearsTurnKept : {D E R W : Type 0} →
    (E → D) → (E → List Event → E → Type 0) →
    (D → Event → D) → (D → Event → List ℕ) →
    Receiver → ℕ →
    (R → Option (List ℕ)) → (W → Option (List ℕ)) →
    E → E → Watched R → Watched R → Watched W → Watched W → Result Bool LinkFault → Type 0
HearsTurnKept day kept next text receiver moment remaining contents e e' r r' w w' result =
    (went : Went receiver next text (turn_in receiver moment MAX_MESSAGES) no_tick remaining contents r r' w w' (day e) (day e') result) ×
    kept e went.events e'
