-- What each refusal of a check says of the octets that were read, and of what was written.
use Rattle.std.specs.Prelude.{◌≡◌, ℕ, ◌+◌, true, Bool, List, Option, Some, Err, codes, ◌⊎◌}
use Rattle.bx_base.specs.Bookings.{Row}
use Rattle.bx_devices.specs.Devices.{Reading, Writing, KeepsOutput}
use Rattle.bx_devices.specs.Octets.{AppendsPrefix, ReadsPrefix, ReadsWithin, RunsOutOfReads}
use Rattle.bx_devices.specs.declared.octets.TheConstants.{MAX_OCTETS}
use Rattle.bx_base.specs.PlanParts.{Parts}
use Rattle.bx_planfile.specs.Reading.{read_all}
use Rattle.bx_planfile.specs.declared.fault.PlanTextFault.{PlanTextFault}
use Rattle.bx_check.specs.Check.{IsOutcome}
use Rattle.bx_check_commands.specs.Proved.{IsPlanRead, IsProvedText, IsProvedAgainst, proved_line}
use Rattle.bx_check.specs.declared.checker.CheckFault.{CheckFault}
use Rattle.bx_check_commands.specs.declared.fault.CommandFault.{CommandFault}
use Rattle.bx_check_commands.specs.declared.fault.CommandFault.TheVariants.{CannotRead, CannotWrite, Plan, Check, Memory}

-- an input of this name was not read to its end: it failed, or `MAX_READS` reads did not reach the end though each gave an
-- octet, or it is too long
abbrev pub IsUnread : List ℕ → Reading → List ℕ → Type 0
IsUnread name input said = (said ≡ name) × ((input.is_faulted ≡ true) ⊎ RunsOutOfReads input.before input.after input.reads_before ⊎ ReadsPrefix input.before input.after (MAX_OCTETS + 1))

-- memory ran out while an input was read or its plan built: no read had failed, and no octet too many had come
abbrev pub IsRefusedGrowth : Reading → Type 0
IsRefusedGrowth input = (input.is_faulted ≡ input.was_faulted) × ReadsWithin input.before input.after MAX_OCTETS

-- this text, which is what there was to read where the input tells it, is no plan text, with this first fault
pub record IsNoPlanText (before : Option (List ℕ)) (fault : PlanTextFault) : Type 0 where
  pub text : List ℕ
  pub told : (known : List ℕ) → before ≡ Some known → text ≡ known
  pub first : read_all text ≡ Err fault

-- why there is no plan of an input
abbrev pub IsNoPlan : List ℕ → Reading → CommandFault → Type 0
IsNoPlan name input (CannotRead n) = IsUnread name input n.now
IsNoPlan name input (Plan fault) = IsNoPlanText input.before fault
IsNoPlan name input Memory = IsRefusedGrowth input
IsNoPlan name input _ = ⊥

-- this fault is the first that the check finds in a plan that was read
pub record IsFaultyText (before : Option (List ℕ)) (fault : CheckFault) : Type 0 where
  pub plan : Parts
  pub read : IsPlanRead before plan
  pub outcome : IsOutcome plan.rows plan.channels plan (Err fault)

-- why there is no plan of an input that is proved for its own bookings and channels
abbrev pub IsUnproved : List ℕ → Reading → CommandFault → Type 0
IsUnproved name input (Check fault) = IsFaultyText input.before fault
IsUnproved name input fault = IsNoPlan name input fault

-- or against these bookings and channels
pub record IsFaultyAgainst (rows : List Row) (channels : List Bool) (before : Option (List ℕ)) (fault : CheckFault) : Type 0 where
  pub plan : Parts
  pub read : IsPlanRead before plan
  pub outcome : IsOutcome rows channels plan (Err fault)

-- a refusal says what went wrong, and that nothing was written, or a prefix of what was to be written
abbrev pub IsRefusal : Reading → Writing → CommandFault → Type 0
IsRefusal input output CannotWrite = (output.is_faulted ≡ true) × ((total : ℕ) × IsProvedText input.before total × AppendsPrefix output.before output.after (proved_line total))
IsRefusal input output fault = IsUnproved (codes "-") input fault × KeepsOutput output

-- why a plan of an input is not proved against these bookings and channels
abbrev pub IsUnprovedAgainst : List Row → List Bool → List ℕ → Reading → CommandFault → Type 0
IsUnprovedAgainst rows channels name input (Check fault) = IsFaultyAgainst rows channels input.before fault
IsUnprovedAgainst rows channels name input fault = IsNoPlan name input fault

-- the same for a plan of an input of this name, against these bookings and channels
abbrev pub IsRefusalAgainst : List Row → List Bool → List ℕ → Reading → Writing → CommandFault → Type 0
IsRefusalAgainst rows channels name input output CannotWrite = (output.is_faulted ≡ true) × ((total : ℕ) × IsProvedAgainst rows channels input.before total × AppendsPrefix output.before output.after (proved_line total))
IsRefusalAgainst rows channels name input output fault = IsUnprovedAgainst rows channels name input fault × KeepsOutput output
