-- A rehearsal of a day: towards one peer, and as fast as it goes.
use Rattle.std.specs.Prelude.{◌≡◌, ℕ, Bool, List, Option, Some, None, Result}
use Rattle.bx_frames.specs.declared.fault.LinkFault.{LinkFault}
use Rattle.bx_frames.specs.declared.fault.LinkFault.TheVariants.{Closed}
use Rattle.bx_frames.specs.declared.frame.Frame.{Frame}
use Rattle.bx_live.specs.declared.world.Begin.{Begin}
use Rattle.bx_live.specs.declared.world.Begin.TheVariants.{Joined, Ended}
use Rattle.bx_live.specs.declared.world.Loss.{Loss}
use Rattle.bx_live.specs.declared.world.Loss.TheVariants.{Late, Fault}
use Rattle.bx_live.specs.Acts.{Act, Began, Dropped, Wrote, Read, Took, EndedDay}
use Rattle.bx_live.specs.Logs.{OnLog}
use Rattle.bx_world.specs.declared.rehearsal.Rehearsal.{Rehearsal}

-- what an act does to the peer, of which no message is taken but where one is waited for; one that was lost is not told of the end of the day
abbrev pub OnPeer : {P : Type 0} → (P → List ℕ → Bool → P → Type 0) → (P → ℕ → Result Frame LinkFault → P → Type 0) → (P → Option LinkFault → P → Type 0) → P → Option LinkFault → Act → P → Option LinkFault → Type 0
OnPeer wrote gave parted old was (Wrote octets done) new lost = wrote old octets done new
OnPeer wrote gave parted old was (Read room answer) new lost = gave old room answer new
OnPeer wrote gave parted old was (Took message) new lost = (message ≡ None) × (new ≡ old)
OnPeer wrote gave parted old None EndedDay new lost = parted old lost new
OnPeer wrote gave parted old was act new lost = new ≡ old

-- why it was dropped
abbrev pub fault_of : Loss → LinkFault
fault_of Late = Closed
fault_of (Fault fault) = fault

-- a second begins while the peer is there, and none once it was lost
abbrev pub begins_by : Option LinkFault → Begin
begins_by None = Joined
begins_by (Some fault) = Ended

abbrev pub OnLost : Option LinkFault → Act → Option LinkFault → Type 0
OnLost was (Began second begin) lost = (lost ≡ was) × (begin ≡ begins_by was)
OnLost was (Dropped loss) lost = lost ≡ Some (fault_of loss)
OnLost None EndedDay lost = Unit {0}
OnLost (Some was) EndedDay lost = lost ≡ Some was
OnLost was act lost = lost ≡ was

-- one act of it
pub record Rehearses {P D : Type 0} (wrote : P → List ℕ → Bool → P → Type 0) (gave : P → ℕ → Result Frame LinkFault → P → Type 0) (parted : P → Option LinkFault → P → Type 0) (holds may_leave : D → List ℕ → Type 0) (moment : D → ℕ) (left_since : D → ℕ → List ℕ → Type 0) (has_failed : D → Bool) (old : Rehearsal P D) (act : Act) (new : Rehearsal P D) : Type 0 where
  pub logged : OnLog holds may_leave moment left_since has_failed old.log.disk act new.log.disk
  pub peer : OnPeer wrote gave parted old.peer old.lost act new.peer new.lost
  pub lost : OnLost old.lost act new.lost
