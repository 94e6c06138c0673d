-- What both ends and their connections are after a day of both.
use Rattle.std.specs.Prelude.{◌≡◌, ℕ, ◌+◌, Bool, true, false, List, Option, Some, Result, Ok, Err, ◌⊎◌}
use Rattle.std.proofs.Common.{inl, inr}
use Rattle.std.specs.Io.KnownBytes.{Appends}
use Rattle.bx_devices.specs.Watching.{device_of, is_faulted}
use Rattle.bx_day.specs.Day.{Day}
use Rattle.bx_events.specs.Events.{Event}
use Rattle.bx_far.specs.FarDay.{FarDay}
use Rattle.bx_frames.specs.Courses.{after, told, ticks_of, ticks_last}
use Rattle.bx_day.specs.Course.{exchange_next, exchange_text}
use Rattle.bx_sessions.specs.Talking.{talk_in}
use Rattle.bx_frames.specs.Heard.{IsTalkLeft}
use Rattle.bx_link.specs.Days.{FarTalks}
use Rattle.bx_sessions.specs.Days.{Talks, TalksToEnd}
use Rattle.bx_link.specs.declared.connection.Connection.{Connection}
use Rattle.bx_frames.specs.declared.fault.LinkFault.{LinkFault}
use Rattle.bx_frames.specs.declared.fault.LinkFault.TheVariants.{WriteFailed, Closed}
use Rattle.bx_frames.specs.declared.frame.Receiver.TheVariants.{Exchange}

-- an end before and after: its connection, with what that tells, and its day
pub record Passage (D R W : Type 0) : Type 0 where
  pub remaining : R → Option (List ℕ)
  pub contents : W → Option (List ℕ)
  pub old : Connection R W
  pub new : Connection R W
  pub opened : D
  pub reached : D

abbrev pub passage : {D R W : Type 0} → (R → Option (List ℕ)) → (W → Option (List ℕ)) → Connection R W → Connection R W → D → D → Passage D R W
passage remaining contents old new opened reached = record { remaining = remaining; contents = contents; old = old; new = new; opened = opened; reached = reached }

-- ---- one of the ends

-- so many turns of the far end's session ended so
abbrev pub FarSide : {S T : Type 0} → Passage FarDay S T → ℕ → Result Bool LinkFault → Type 0
FarSide p n ending = FarTalks p.remaining p.contents n p.old.reader p.new.reader p.old.writer p.new.writer p.opened p.reached ending

-- the turns of the exchange ended so
abbrev pub NearSide : {R W : Type 0} → ℕ → Passage Day R W → Result Bool LinkFault → Type 0
NearSide turns p ending = Talks p.remaining p.contents turns p.old.reader p.new.reader p.old.writer p.new.writer p.opened p.reached ending

-- the exchange went through all turns, and then wrote the end of the day, or failed to
abbrev pub NearEnded : {R W : Type 0} → ℕ → Passage Day R W → Result Bool LinkFault → Type 0
NearEnded turns p ending = TalksToEnd p.remaining p.contents turns p.old.reader p.new.reader p.old.writer p.new.writer p.opened p.reached ending

-- the exchange has opened so many turns, and has heard nothing of the last of them
pub record NearWaits {R W : Type 0} (turns opened : ℕ) (p : Passage Day R W) : Type 0 where
  pub events : List Event
  pub day : p.reached ≡ after exchange_next events p.opened
  pub talk : (known : List ℕ) → p.remaining (device_of p.old.reader) ≡ Some known → IsTalkLeft Exchange (talk_in turns p.opened) known events (p.remaining (device_of p.new.reader))
  pub written : Appends (p.contents (device_of p.old.writer)) (p.contents (device_of p.new.writer)) (told exchange_next exchange_text events p.opened)
  pub reader : is_faulted p.new.reader ≡ is_faulted p.old.reader
  pub writer : is_faulted p.new.writer ≡ is_faulted p.old.writer
  pub ticks : ticks_of events ≡ opened
  pub last : ticks_last false events ≡ true

-- the number of turns that were opened whole: of each that was begun, but for one whose opening was not written
abbrev pub AreOpened : Result Bool LinkFault → List Event → ℕ → Type 0
AreOpened result events n =
    (((result ≡ Err WriteFailed) × (ticks_last false events ≡ true)) × (n + 1 ≡ ticks_of events)) ⊎ (¬ ((result ≡ Err WriteFailed) × (ticks_last false events ≡ true)) × (n ≡ ticks_of events))

-- ---- both

-- each turn was taken by both ends, and then the far end heard the end of the day
pub record BothDone {R W S T : Type 0} (turns : ℕ) (near : Passage Day R W) (far : Passage FarDay S T) (result : Result Bool LinkFault) : Type 0 where
  pub done : result ≡ Ok true
  pub near_side : NearEnded turns near (Ok true)
  pub far_side : FarSide far (turns + 1) (Ok false)

-- a turn of the exchange had a fault; the far end took each turn that was opened whole
pub record NearFailed {R W S T : Type 0} (turns : ℕ) (near : Passage Day R W) (far : Passage FarDay S T) (result : Result Bool LinkFault) : Type 0 where
  pub fault : LinkFault
  pub failed : result ≡ Err fault
  pub near_side : NearSide turns near result
  pub taken : ℕ
  pub opened : AreOpened result near_side.events taken
  pub goes_on : Bool
  pub far_side : FarSide far taken (Ok goes_on)

-- the end of the day could not be written
pub record EndFailed {R W S T : Type 0} (turns : ℕ) (near : Passage Day R W) (far : Passage FarDay S T) (result : Result Bool LinkFault) : Type 0 where
  pub failed : result ≡ Err WriteFailed
  pub near_side : NearEnded turns near result
  pub goes_on : Bool
  pub far_side : FarSide far turns (Ok goes_on)

-- the far end's session had a fault, in a turn that the exchange had opened
pub record FarFailed {R W S T : Type 0} (turns : ℕ) (near : Passage Day R W) (far : Passage FarDay S T) (result : Result Bool LinkFault) : Type 0 where
  pub fault : LinkFault
  pub failed : result ≡ Err fault
  pub taken : ℕ
  pub near_side : NearWaits turns taken near
  pub far_side : FarSide far taken result

-- or after the last; or the end of a turn came to it there, which the exchange's session, closed by the end of the
-- day, does not close
pub record FarFailedAtEnd {R W S T : Type 0} (turns : ℕ) (near : Passage Day R W) (far : Passage FarDay S T) (result : Result Bool LinkFault) : Type 0 where
  pub fault : LinkFault
  pub failed : result ≡ Err fault
  pub near_side : NearEnded turns near (Ok true)
  pub far_side : FarSide far (turns + 1) result ⊎ (FarSide far (turns + 1) (Ok true) × (fault ≡ Closed))

-- a day of both ends
abbrev pub RunsBoth : {R W S T : Type 0} → ℕ → Passage Day R W → Passage FarDay S T → Result Bool LinkFault → Type 0
RunsBoth turns near far result =
    BothDone turns near far result ⊎ (NearFailed turns near far result ⊎ (EndFailed turns near far result ⊎ (FarFailed turns near far result ⊎ FarFailedAtEnd turns near far result)))

-- the events by which the exchange's day went on
abbrev pub events_of_near : {R W S T : Type 0} {turns : ℕ} {near : Passage Day R W} {far : Passage FarDay S T} {result : Result Bool LinkFault} → RunsBoth turns near far result → List Event
events_of_near (inl done) = done.near_side.talks.events
events_of_near (inr (inl failed)) = failed.near_side.events
events_of_near (inr (inr (inl failed))) = failed.near_side.talks.events
events_of_near (inr (inr (inr (inl failed)))) = failed.near_side.events
events_of_near (inr (inr (inr (inr failed)))) = failed.near_side.talks.events
