-- What each command on files does, and why it is refused.
use Rattle.std.specs.Prelude.{ℕ, List, Option}
use Rattle.bx_devices.specs.Devices.{Writing, KeepsOutput}
use Rattle.bx_devices.specs.declared.watched.Watched.{Watched}
use Rattle.bx_plan_commands.specs.Answers.{IsExplained, IsQuoted}
use Rattle.bx_plan_commands.specs.FilePlans.{IsPlanned, IsChecked, IsHeld, IsPlanNoted, IsHeldNoted}
use Rattle.bx_plan_commands.specs.FileRefusals.{IsPlanRefusal, IsCheckRefusal, IsNotAmended}
use Rattle.bx_plan_commands.specs.Pictures.{IsPictured, IsNotPictured}
use Rattle.bx_plan_commands.specs.PlanRefusals.{IsNotExplained, IsNotQuoted}
use Rattle.bx_plan_commands.specs.Tables.{IsTableWritten, IsTableRefusal}
use Rattle.bx_plan_commands.specs.declared.fault.FileFault.{FileFault}
use Rattle.bx_request.specs.declared.request.FileRequest.{FileRequest}
use Rattle.bx_request.specs.declared.request.FileRequest.TheVariants.{Plan, Check, Amend, Capacity, Explain, Quote, Chart}

-- what it wrote, of what the inputs that its words name have given
abbrev pub IsDone : (List ℕ → Option (List ℕ) → Type 0) → FileRequest → Writing → Type 0
IsDone gives (Plan terms bookings) output = IsPlanned gives terms bookings.now output
IsDone gives (Check terms bookings plan) output = IsChecked gives terms bookings.now plan.now output
IsDone gives (Amend date zone plan bookings) output = IsHeld gives date.now zone.now plan.now bookings.now output
IsDone gives (Capacity date zone bookings) output = IsTableWritten gives date.now zone.now bookings.now output
IsDone gives (Explain plan row) output = IsExplained gives row plan.now output
IsDone gives (Quote plan call) output = IsQuoted gives call plan.now output
IsDone gives (Chart plan day) output = IsPictured gives day plan.now output

-- and what on standard error: a note of `plan` and `amend`, and else nothing
abbrev pub IsAmendmentTold : (List ℕ → Option (List ℕ) → Type 0) → FileRequest → Writing → Writing → Type 0
IsAmendmentTold gives (Plan terms bookings) output errors = IsPlanNoted gives terms bookings.now output errors
IsAmendmentTold gives (Amend date zone plan bookings) output errors = IsHeldNoted gives date.now zone.now plan.now bookings.now output errors
IsAmendmentTold gives (Check terms bookings plan) output errors = KeepsOutput errors
IsAmendmentTold gives (Capacity date zone bookings) output errors = KeepsOutput errors
IsAmendmentTold gives (Explain plan row) output errors = KeepsOutput errors
IsAmendmentTold gives (Quote plan call) output errors = KeepsOutput errors
IsAmendmentTold gives (Chart plan day) output errors = KeepsOutput errors

-- why it did not, and what it did to its output then
abbrev pub IsFileRefused : {W : Type 0} → (List ℕ → Option (List ℕ) → Type 0) → FileRequest → (W → Option (List ℕ)) → Watched W → Watched W → FileFault → Type 0
IsFileRefused gives (Plan terms bookings) contents old new fault = IsPlanRefusal gives terms bookings.now contents old new fault
IsFileRefused gives (Check terms bookings plan) contents old new fault = IsCheckRefusal gives terms bookings.now plan.now contents old new fault
IsFileRefused gives (Amend date zone plan bookings) contents old new fault = IsNotAmended gives date.now zone.now plan.now bookings.now contents old new fault
IsFileRefused gives (Capacity date zone bookings) contents old new fault = IsTableRefusal gives date.now zone.now bookings.now contents old new fault
IsFileRefused gives (Explain plan row) contents old new fault = IsNotExplained gives row plan.now contents old new fault
IsFileRefused gives (Quote plan call) contents old new fault = IsNotQuoted gives call plan.now contents old new fault
IsFileRefused gives (Chart plan day) contents old new fault = IsNotPictured gives day plan.now contents old new fault
