-- A day of both ends in one process: what each act does to the exchange's link, and to the far end.
use Rattle.std.specs.Prelude.{◌≡◌, ◌⊎◌, ℕ, not, Bool, true, false, List, Option, Some, None, Result, Ok, Err}
use Rattle.bx_devices.specs.declared.watched.Watched.{Watched}
use Rattle.bx_frames.specs.Frames.{message_frame, day_frame, frame_in}
use Rattle.bx_frames.specs.Reading.{Reads}
use Rattle.bx_frames.specs.declared.frame.Frame.{Frame}
use Rattle.bx_frames.specs.declared.frame.Receiver.TheVariants.{Exchange}
use Rattle.bx_frames.specs.declared.fault.LinkFault.{LinkFault}
use Rattle.bx_frames.specs.declared.fault.LinkFault.TheVariants.{WriteFailed, Closed}
use Rattle.bx_link.specs.Hearing.{TakesTurn, session_goes_on}
use Rattle.bx_link.specs.Sessions.{is_far_over}
use Rattle.bx_far.specs.FarDay.{FarDay}
use Rattle.bx_link.specs.declared.connection.Connection.{Connection}
use Rattle.bx_world.specs.Peers.{Puts}
use Rattle.bx_world.specs.declared.both_ends.FarEnd.{FarEnd}
use Rattle.bx_world.specs.declared.both_ends.BothEnds.{BothEnds}

-- the far end took a turn, and its session goes on where the day does; or its session is over, and nothing was done
pub record FarTurn {S T : Type 0} (remaining : S → Option (List ℕ)) (contents : T → Option (List ℕ)) (old new : FarEnd S T) (answer : Result Bool LinkFault) : Type 0 where
  pub took : is_far_over old.session ≡ false → TakesTurn remaining contents old.connection.reader new.connection.reader old.connection.writer new.connection.writer old.far new.far answer
  pub refused : is_far_over old.session ≡ true → (answer ≡ Err Closed) × (new.far ≡ old.far)
  pub over : is_far_over new.session ≡ not (session_goes_on answer)

-- where its turn is due, the far end takes it before the exchange reads; at a fault of it nothing is read
abbrev pub ReadsAfter : {R : Type 0} → (R → Option (List ℕ)) → Watched R → Watched R → Result Frame LinkFault → ℕ → Result Bool LinkFault → Type 0
ReadsAfter remaining old new answer room (Ok true) = Reads remaining old new answer (frame_in Exchange room)
ReadsAfter remaining old new answer room (Ok false) = (new ≡ old) × (answer ≡ Err Closed)
ReadsAfter remaining old new answer room (Err fault) = (new ≡ old) × (answer ≡ Err fault)

-- the far end's day is over with the end of the day
abbrev pub far_lost_by : Result Bool LinkFault → Option LinkFault
far_lost_by (Ok false) = None
far_lost_by (Ok true) = Some Closed
far_lost_by (Err fault) = Some fault

-- both ends at these connections, before the first turn
pub record IsOpening {R W S T : Type 0} (near : Connection R W) (far : FarDay) (distant : Connection S T) (both : BothEnds R W S T) : Type 0 where
  pub near_is : both.near ≡ near
  pub far_is : both.distant.far ≡ far
  pub distant_is : both.distant.connection ≡ distant
  pub fresh : is_far_over both.distant.session ≡ false
  pub due : both.is_due ≡ false

-- the far end's turn is due after what is written, which may leave it as it was where that is a message alone
abbrev pub IsTurnDue : Bool → List ℕ → Bool → Type 0
IsTurnDue was octets due = (due ≡ true) ⊎ ((message : List ℕ) × (octets ≡ message_frame message) × (due ≡ was))

-- octets were written to the exchange's connection
pub record WroteNear {R W S T : Type 0} (contents : W → Option (List ℕ)) (old : BothEnds R W S T) (octets : List ℕ) (done : Bool) (new : BothEnds R W S T) : Type 0 where
  pub written : Puts contents old.near.writer new.near.writer octets done
  pub unread : new.near.reader ≡ old.near.reader
  pub distant : new.distant ≡ old.distant
  pub opened : IsTurnDue old.is_due octets new.is_due

-- a frame was read for the exchange
pub record GaveBoth {R W S T : Type 0} (remaining : R → Option (List ℕ)) (far_remaining : S → Option (List ℕ)) (far_contents : T → Option (List ℕ)) (old : BothEnds R W S T) (room : ℕ) (answer : Result Frame LinkFault) (new : BothEnds R W S T) : Type 0 where
  pub at_once : old.is_due ≡ false → (new.distant ≡ old.distant) × Reads remaining old.near.reader new.near.reader answer (frame_in Exchange room)
  pub following : old.is_due ≡ true → (turned : Result Bool LinkFault) × FarTurn far_remaining far_contents old.distant new.distant turned × ReadsAfter remaining old.near.reader new.near.reader answer room turned
  pub due : new.is_due ≡ false
  pub unwritten : new.near.writer ≡ old.near.writer

-- the end of the day was written, and the far end heard it; or one of the two failed
abbrev pub PartedBoth : {R W S T : Type 0} → (W → Option (List ℕ)) → (S → Option (List ℕ)) → (T → Option (List ℕ)) → BothEnds R W S T → Option LinkFault → BothEnds R W S T → Type 0
PartedBoth contents far_remaining far_contents old lost new =
    (new.near.reader ≡ old.near.reader)
    × ((Puts contents old.near.writer new.near.writer day_frame false × (new.distant ≡ old.distant) × (lost ≡ Some WriteFailed))
    ⊎ (Puts contents old.near.writer new.near.writer day_frame true × ((turned : Result Bool LinkFault) × FarTurn far_remaining far_contents old.distant new.distant turned × (lost ≡ far_lost_by turned))))
