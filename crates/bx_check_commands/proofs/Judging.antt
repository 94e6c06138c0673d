-- Why a plan that was read is not proved, or its proof not written, as the commands say it.
use Rattle.std.proofs.Common.{ℕ, List, Result, Ok, Err}
use Rattle.std.specs.Prelude.{IfErr}
use Rattle.bx_devices.specs.Devices.{Reading, Writing}
use Rattle.bx_base.specs.PlanParts.{Parts}
use Rattle.bx_check_commands.specs.Inside.{IsFaulty, IsPlanJudged}
use Rattle.bx_check_commands.specs.Proved.{IsPlanRead}
use Rattle.bx_check_commands.specs.Refusals.{IsUnproved, IsRefusal}
use Rattle.bx_check_commands.specs.declared.fault.CommandFault.{CommandFault}
use Rattle.bx_check_commands.specs.declared.fault.CommandFault.TheVariants.{CannotWrite, Check}

pub unproved : (name : List ℕ) (input : Reading) (plan : Parts) → IsPlanRead input.before plan → (fault : CommandFault) → IsFaulty plan.rows plan.channels plan fault → IsUnproved name input fault
unproved name input plan read (Check fault) found = record { plan = plan; read = read; outcome = found }
unproved name input plan read fault found = absurd found

judged : (input : Reading) (output : Writing) (plan : Parts) → IsPlanRead input.before plan → (fault : CommandFault) → IsPlanJudged plan.rows plan.channels plan output fault → IsRefusal input output fault
judged input output plan read (Check fault) found = (record { plan = plan; read = read; outcome = found.0 }, found.1)
judged input output plan read CannotWrite found = (found.0, (found.1.0, record { plan = plan; read = read; proved = found.1.1 }, found.1.2))
judged input output plan read fault found = absurd found

pub unjudged : {T : Type 0} (input : Reading) (output : Writing) (plan : Parts) → IsPlanRead input.before plan → (r : Result T CommandFault) → IfErr r (IsPlanJudged plan.rows plan.channels plan output) → IfErr r (IsRefusal input output)
unjudged input output plan read (Ok value) found = tt
unjudged input output plan read (Err fault) found = judged input output plan read fault found
