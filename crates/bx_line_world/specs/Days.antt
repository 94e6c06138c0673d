-- A live day over a data link: what each act does to its link, its clock and its journal.
use Rattle.std.specs.Prelude.{◌≡◌, ◌⊎◌, ℕ, ◌+◌, ◌-◌, length, ◌≤◌, ◌<◌, min, zero, ◌&&◌, not, Bool, true, false, List, [], ◌∷◌, ◌++◌, Option, Some, None, Result, Ok, Err}
use Rattle.arrayvec.specs.ArrayVec.{ArrayVec}
use Rattle.bx_frames.specs.Frames.{frames_of, turn_frame}
use Rattle.bx_frames.specs.declared.fault.LinkFault.{LinkFault}
use Rattle.bx_frames.specs.declared.frame.Frame.{Frame}
use Rattle.bx_frames.specs.declared.frame.Frame.TheVariants as frames
use Rattle.bx_lapd.specs.Table.{takes_data}
use Rattle.bx_live.specs.declared.world.Begin.{Begin}
use Rattle.bx_live.specs.declared.world.Begin.TheVariants.{Late, Alone, Joined, Ended}
use Rattle.bx_live.specs.Acts.{Act, Began, Dropped, Logged, Synced, Wrote, Read, Took, EndedDay}
use Rattle.bx_live.specs.Chains.{Chain}
use Rattle.bx_live.specs.Logs.{OnLog}
use Rattle.bx_live.specs.Schedules.{instant_of_second}
use Rattle.bx_live.specs.declared.schedule.TheConstants.{SECOND}
use Rattle.bx_line_world.specs.Wires.{WireAct}
use Rattle.bx_line_world.specs.Posts.{with_messages, begun_by, dropped_by, is_lost, IsNoneWithin}
use Rattle.bx_line_world.specs.Seeing.{is_seen, is_on_the_second, asked_anew, look_until, Sees}
use Rattle.bx_line_world.specs.Serving.{Served, Polled, AsksLink, GivesMessage, is_idle}
use Rattle.bx_line_world.specs.declared.line.Line.{Line}
use Rattle.bx_line_world.specs.declared.line_world.LineWorld.{LineWorld}

-- the other end is seen, and nothing was lost that the day is not told of
abbrev pub is_here : {W : Type 0} → Line W → Bool
is_here s = is_seen s && not (is_lost s.post.lost)

-- the other end is looked for, by half a second of the clock after the instant, anew in each second of the clock
abbrev pub LooksOut : {W : Type 0} → (W → List WireAct → W → Type 0) → ℕ → Line W → Line W → Type 0
LooksOut did instant waited seen = Sees did (look_until instant waited.shown) (asked_anew (is_on_the_second instant) waited) seen

-- How a second begins whose instant was waited for. Late is more than a second after the instant, by the last reading of the clock; else
-- the other end is looked for, and the second has a link where it is seen. It is never said that none begins any more
abbrev pub IsSecondBegun : {W : Type 0} → (W → List WireAct → W → Type 0) → Begin → ℕ → Line W → Line W → Type 0
IsSecondBegun did Late instant waited seen = (instant + SECOND < waited.shown) × (seen ≡ waited)
IsSecondBegun did Alone instant waited seen = (waited.shown ≤ instant + SECOND) × LooksOut did instant waited seen × (is_here seen ≡ false)
IsSecondBegun did Joined instant waited seen = (waited.shown ≤ instant + SECOND) × LooksOut did instant waited seen × (is_here seen ≡ true)
IsSecondBegun did Ended instant waited seen = ⊥

-- the instant of a second is waited for: first a link is asked for, where there is none; then it is served; then the other end is looked for
pub record Begins {W : Type 0} (did : W → List WireAct → W → Type 0) (instant : ℕ) (begin : Begin) (old new : Line W) : Type 0 where
  pub asked : Line W
  pub asks : AsksLink did (is_idle old.end.link) old asked
  pub waited : Line W
  pub served : Served did instant false asked waited
  pub seen : Line W
  pub begun : IsSecondBegun did begin instant waited seen
  pub line : new ≡ record seen { post = begun_by seen.post begin }

-- the octets of messages, alone or with an end of turn
abbrev pub IsTextOfMessages : List (ArrayVec ℕ) → List ℕ → Type 0
IsTextOfMessages messages octets = (octets ≡ frames_of messages) ⊎ ((moment : ℕ) × (octets ≡ frames_of messages ++ turn_frame moment))

-- messages are given to the link, in their order: all, or those up to the first that it does not take
pub record GivesAll {W : Type 0} (did : W → List WireAct → W → Type 0) (messages : List (ArrayVec ℕ)) (done : Bool) (old new : Line W) : Type 0 where
  pub given : List (ArrayVec ℕ)
  pub rest : List (ArrayVec ℕ)
  pub all : messages ≡ given ++ rest
  pub run : Chain (GivesMessage did) old given new
  pub whole : done ≡ true → rest ≡ []
  pub refused : done ≡ false → takes_data new.end.link.state new.end.link ≡ false

pub record WritesMessages {W : Type 0} (did : W → List WireAct → W → Type 0) (octets : List ℕ) (done : Bool) (old new : Line W) : Type 0 where
  pub messages : List (ArrayVec ℕ)
  pub text : IsTextOfMessages messages octets
  pub gives : GivesAll did messages done old new

-- what is answered after a wait: a loss, else the first message, else the end of the turn, which this world makes itself
-- A message that has more octets than are left in the second waits for the next
abbrev pub AnswersWait : {W : Type 0} → ℕ → ℕ → Line W → Result Frame LinkFault → Line W → Type 0
AnswersWait second left waited (Err fault) new = (waited.post.lost ≡ Some fault) × (new ≡ waited)
AnswersWait second left waited (Ok (frames.Message m)) new = (waited.post.lost ≡ None) × (rest : List (ArrayVec ℕ)) × (waited.post.messages.items ≡ m ∷ rest) × (length m.items ≤ left) × (new ≡ record waited { post = with_messages waited.post rest })
AnswersWait second left waited (Ok (frames.EndOfTurn said)) new = (waited.post.lost ≡ None) × IsNoneWithin left waited.post × (said ≡ second) × (new ≡ waited)
AnswersWait second left waited (Ok frames.EndOfDay) new = ⊥

-- the turn lasts until the next second begins
pub record ReadsTurn {W : Type 0} (did : W → List WireAct → W → Type 0) (until second left : ℕ) (answer : Result Frame LinkFault) (old new : Line W) : Type 0 where
  pub waited : Line W
  pub served : Served did until true old waited
  pub answers : AnswersWait second left waited answer new

-- where no message may come any more, the turn ends at once
abbrev pub ReadsFor : {W : Type 0} → (W → List WireAct → W → Type 0) → ℕ → ℕ → ℕ → ℕ → Result Frame LinkFault → Line W → Line W → Type 0
ReadsFor did zero until second left answer old new = (answer ≡ Ok (frames.EndOfTurn second)) × (new ≡ old)
ReadsFor did room until second left answer old new = ReadsTurn did until second left answer old new

-- the first message, where nothing was lost and the second has octets left for it
abbrev pub TakesWaiting : {W : Type 0} → ℕ → Line W → Option (ArrayVec ℕ) → Line W → Type 0
TakesWaiting left polled (Some m) new = (polled.post.lost ≡ None) × (rest : List (ArrayVec ℕ)) × (polled.post.messages.items ≡ m ∷ rest) × (length m.items ≤ left) × (new ≡ record polled { post = with_messages polled.post rest })
TakesWaiting left polled None new = ((is_lost polled.post.lost ≡ true) ⊎ IsNoneWithin left polled.post) × (new ≡ polled)

-- what is there already is heard, up to a message
pub record TakesMessage {W : Type 0} (did : W → List WireAct → W → Type 0) (left : ℕ) (message : Option (ArrayVec ℕ)) (old new : Line W) : Type 0 where
  pub polled : Line W
  pub polls : Polled did old polled
  pub takes : TakesWaiting left polled message new

-- the octets of messages that a second takes at most: what a line of 64 kbit/s carries in it
abbrev pub most_octets : ℕ
most_octets = 8000

-- the octets of a message that was read
abbrev pub octets_of_message : Result Frame LinkFault → ℕ
octets_of_message (Ok (frames.Message m)) = length m.items
octets_of_message answer = 0

abbrev pub octets_taken : Option (ArrayVec ℕ) → ℕ
octets_taken (Some m) = length m.items
octets_taken None = 0

-- what a second has taken, and which it is
abbrev pub OnLineSecond : {W D : Type 0} → LineWorld W D → Act → LineWorld W D → Type 0
OnLineSecond old (Began second begin) new = (new.second ≡ second) × (new.taken ≡ 0)
OnLineSecond old (Read room answer) new = (new.second ≡ old.second) × (new.taken ≡ min (old.taken + octets_of_message answer) 4294967295)
OnLineSecond old (Took message) new = (new.second ≡ old.second) × (new.taken ≡ min (old.taken + octets_taken message) 4294967295)
OnLineSecond old act new = (new.second ≡ old.second) × (new.taken ≡ old.taken)

abbrev pub OnLine : {W D : Type 0} → (W → List WireAct → W → Type 0) → LineWorld W D → Act → LineWorld W D → Type 0
OnLine did old (Began second begin) new = Begins did (instant_of_second old.schedule second) begin old.line new.line
OnLine did old (Dropped loss) new = (new.line ≡ record old.line { post = dropped_by old.line.post loss })
OnLine did old (Wrote octets done) new = WritesMessages did octets done old.line new.line
OnLine did old (Read room answer) new = ReadsFor did room (instant_of_second old.schedule (min (old.second + 1) 4294967295)) old.second (most_octets - old.taken) answer old.line new.line
OnLine did old (Took message) new = TakesMessage did (most_octets - old.taken) message old.line new.line
OnLine did old (Logged event done) new = new.line ≡ old.line
OnLine did old (Synced done) new = new.line ≡ old.line
OnLine did old EndedDay new = new.line ≡ old.line

-- one act
pub record GoesByLine {W D : Type 0} (did : W → List WireAct → W → Type 0) (holds may_leave : D → List ℕ → Type 0) (moment : D → ℕ) (left_since : D → ℕ → List ℕ → Type 0) (has_failed : D → Bool) (old : LineWorld W D) (act : Act) (new : LineWorld W D) : Type 0 where
  pub logged : OnLog holds may_leave moment left_since has_failed old.log.disk act new.log.disk
  pub schedule : new.schedule ≡ old.schedule
  pub line : OnLine did old act new
  pub second : OnLineSecond old act new

-- the octets of the messages that were read
abbrev pub octets_read : List Act → ℕ
octets_read [] = 0
octets_read (Read room answer ∷ acts) = octets_of_message answer + octets_read acts
octets_read (Took message ∷ acts) = octets_taken message + octets_read acts
octets_read (act ∷ acts) = octets_read acts
