-- What both ends and their devices are after several turns, and after a day.
use Rattle.std.specs.Prelude.{◌≡◌, ℕ, ◌≤◌, ◌<◌, Bool, true, List, Option, Result, Ok, Err, ◌⊎◌}
use Rattle.std.proofs.Common.{inl, inr}
use Rattle.std.specs.Io.KnownBytes.{Appends}
use Rattle.bx_devices.specs.declared.watched.Watched.{Watched}
use Rattle.bx_devices.specs.Watching.{device_of, is_faulted}
use Rattle.bx_day.specs.Day.{Day}
use Rattle.bx_events.specs.Events.{Event}
use Rattle.bx_day.specs.Course.{exchange_next, exchange_text}
use Rattle.bx_frames.specs.Frames.{day_frame}
use Rattle.bx_devices.specs.Octets.{AppendsPart}
use Rattle.bx_sessions.specs.Talking.{talk_in}
use Rattle.bx_frames.specs.Heard.{Went}
use Rattle.bx_frames.specs.declared.fault.LinkFault.{LinkFault}
use Rattle.bx_frames.specs.declared.fault.LinkFault.TheVariants.{WriteFailed}
use Rattle.bx_frames.specs.declared.frame.Receiver.TheVariants.{Exchange}

-- ---- several turns of the exchange

-- of so many turns each was opened; or at a fault the one in which it was, and none after it
abbrev pub opened : ℕ → Result Bool LinkFault → ℕ → Type 0
opened turns (Ok b) n = n ≡ turns
opened turns (Err fault) n = (0 < n) × (n ≤ turns)

-- an exchange went through so many turns
abbrev pub Talks : {R W : Type 0} → (R → Option (List ℕ)) → (W → Option (List ℕ)) → ℕ → Watched R → Watched R → Watched W → Watched W → Day → Day → Result Bool LinkFault → Type 0
Talks remaining contents turns r r' w w' d d' result = Went Exchange exchange_next exchange_text (talk_in turns d) (opened turns) remaining contents r r' w w' d d' result

-- the end of the day was written; or a write failed, and a prefix of it was written, which is not the whole
pub record EndsDay {W : Type 0} (contents : W → Option (List ℕ)) (w w' : Watched W) (result : Result Bool LinkFault) : Type 0 where
  pub whole : (result ≡ Err WriteFailed) ⊎ ((result ≡ Ok true) × Appends (contents (device_of w)) (contents (device_of w')) day_frame)
  pub part : result ≡ Err WriteFailed → AppendsPart (contents (device_of w)) (contents (device_of w')) day_frame
  pub faulted : result ≡ Err WriteFailed → is_faulted w' ≡ true
  pub unfaulted : (is_faulted w' ≡ is_faulted w) ⊎ (result ≡ Err WriteFailed)

-- after its last turn an exchange wrote the end of the day
pub record TalksToEnd {R W : Type 0} (remaining : R → Option (List ℕ)) (contents : W → Option (List ℕ)) (turns : ℕ) (r r' : Watched R) (w w' : Watched W) (d d' : Day) (result : Result Bool LinkFault) : Type 0 where
  pub last : Watched W
  pub talks : Talks remaining contents turns r r' w last d d' (Ok true)
  pub ends : EndsDay contents last w' result

-- an exchange went through a day of so many turns; or it stopped in one of them
abbrev pub RunsDay : {R W : Type 0} → (R → Option (List ℕ)) → (W → Option (List ℕ)) → ℕ → Watched R → Watched R → Watched W → Watched W → Day → Day → Result Bool LinkFault → Type 0
RunsDay remaining contents turns r r' w w' d d' result =
    TalksToEnd remaining contents turns r r' w w' d d' result ⊎ (¬ (result ≡ Ok true) × Talks remaining contents turns r r' w w' d d' result)

-- the events by which it went on
abbrev pub events_of_day : {R W : Type 0} {remaining : R → Option (List ℕ)} {contents : W → Option (List ℕ)} {turns : ℕ} {r r' : Watched R} {w w' : Watched W} {d d' : Day} {result : Result Bool LinkFault}
    → RunsDay remaining contents turns r r' w w' d d' result → List Event
events_of_day (inl ended) = ended.talks.events
events_of_day (inr (stopped, talks)) = talks.events
