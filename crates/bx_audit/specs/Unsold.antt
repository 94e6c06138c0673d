-- Why the last plan of a day is not written, and what was written then.
use Rattle.std.specs.Prelude.{◌≡◌, ℕ, true, List, Option}
use Rattle.bx_base.specs.PlanParts.{Parts}
use Rattle.bx_check_commands.specs.declared.fault.CommandFault.TheVariants.{CannotWrite, Memory}
use Rattle.bx_day_openings.specs.declared.fault.DayCommandFault.{DayCommandFault}
use Rattle.bx_day_openings.specs.declared.fault.DayCommandFault.TheVariants.{Command}
use Rattle.bx_devices.specs.Devices.{Writing, writing_of}
use Rattle.bx_devices.specs.Octets.{AppendsPrefix}
use Rattle.bx_devices.specs.declared.watched.Watched.{Watched}
use Rattle.bx_planfile.specs.Text.{plan_text}
use Rattle.bx_planfile.specs.declared.version.Version.TheVariants.{Three}
use Rattle.bx_request.specs.declared.request.SoldRequest.{SoldRequest}
use Rattle.bx_audit.specs.LastPlans.{IsLastPlan}
use Rattle.bx_audit.specs.Unrecorded.{IsDayUntold}

-- a prefix of the text of such a plan was written
pub record IsSoldCut (gives : List ℕ → Option (List ℕ) → Type 0) (request : SoldRequest) (output : Writing) : Type 0 where
  pub last : Parts
  pub is : IsLastPlan gives request.plan.now request.journal.now last
  pub faulted : output.is_faulted ≡ true
  pub written : AppendsPrefix output.before output.after (plan_text Three last)

-- the day is not told, or memory ran out
abbrev pub IsNoLastPlan : (List ℕ → Option (List ℕ) → Type 0) → SoldRequest → DayCommandFault → Type 0
IsNoLastPlan gives request (Command Memory) = Unit {0}
IsNoLastPlan gives request fault = IsDayUntold gives request.plan.now request.journal.now fault

-- nothing was written, or a prefix of it where the output failed
abbrev pub IsSoldRefusal : {W : Type 0} → (List ℕ → Option (List ℕ) → Type 0) → SoldRequest → (W → Option (List ℕ)) → Watched W → Watched W → DayCommandFault → Type 0
IsSoldRefusal gives request contents old new (Command CannotWrite) = IsSoldCut gives request (writing_of contents old new)
IsSoldRefusal gives request contents old new fault = IsNoLastPlan gives request fault × (new ≡ old)
