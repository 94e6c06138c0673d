-- What is told of a file without a plan, which does not tell its octets.
use Rattle.std.proofs.Common.{ℕ, List, Option, None, Result, Ok, Err, inl, inr}
use Rattle.std.specs.Prelude.{IfErr}
use Rattle.bx_devices.specs.Devices.{Reading}
use Rattle.bx_planfile.specs.declared.fault.PlanTextFault.{PlanTextFault}
use Rattle.bx_check_commands.specs.Inputs.{IsNoProvedOf}
use Rattle.bx_check_commands.specs.PlanFiles.{HasNoPlan, HasNoProvedPlan}
use Rattle.bx_check_commands.specs.Refusals.{IsNoPlanText, IsNoPlan, IsUnproved}
use Rattle.bx_check_commands.specs.declared.fault.CommandFault.{CommandFault}
use Rattle.bx_check_commands.specs.declared.fault.CommandFault.TheVariants.{CannotRead, CannotWrite, Plan, Check, NotHex, Message, Memory}

pub unread_text : (before : Option (List ℕ)) (fault : PlanTextFault) → IsNoPlanText before fault → IsNoPlanText None fault
unread_text before fault none = record { text = none.text; told = λ known is. cc; first = none.first }

no_plan : (name : List ℕ) (input : Reading) (fault : CommandFault) → IsNoPlan name input fault → HasNoPlan name fault
no_plan name input (CannotRead n) (same, why) = same
no_plan name input (Plan fault) none = unread_text input.before fault none
no_plan name input Memory why = tt
no_plan name input fault why = absurd why

no_proved_plan : (name : List ℕ) (input : Reading) (fault : CommandFault) → IsUnproved name input fault → HasNoProvedPlan name fault
no_proved_plan name input (Check fault) found =
    let read = found.read in
    record { plan = found.plan; read = record { text = read.text; told = λ known is. cc; limits = read.limits; text_of = read.text_of }; outcome = found.outcome }
no_proved_plan name input (CannotRead n) why = no_plan name input (CannotRead n) why
no_proved_plan name input (Plan fault) why = no_plan name input (Plan fault) why
no_proved_plan name input Memory why = tt
no_proved_plan name input fault why = absurd why

pub none_proved : {T : Type 0} (name : List ℕ) (input : Reading) (r : Result T CommandFault) → IfErr r (IsUnproved name input) → IfErr r (HasNoProvedPlan name)
none_proved name input (Ok value) why = tt
none_proved name input (Err fault) why = no_proved_plan name input fault why

-- of an input of a name, what of a file can be told
no_proved_named : (gives : List ℕ → Option (List ℕ) → Type 0) (name : List ℕ) (fault : CommandFault) → IsNoProvedOf gives name fault → HasNoProvedPlan name fault
no_proved_named gives name (CannotRead n) (inl same) = same
no_proved_named gives name CannotWrite (inl why) = absurd why
no_proved_named gives name (Plan fault) (inl why) = absurd why
no_proved_named gives name (Check fault) (inl why) = absurd why
no_proved_named gives name NotHex (inl why) = absurd why
no_proved_named gives name (Message fault) (inl why) = absurd why
no_proved_named gives name Memory (inl why) = absurd why
no_proved_named gives name fault (inr (input, of_name, why)) = no_proved_plan name input fault why

pub none_named : {T : Type 0} (gives : List ℕ → Option (List ℕ) → Type 0) (name : List ℕ) (r : Result T CommandFault) → IfErr r (IsNoProvedOf gives name) → IfErr r (HasNoProvedPlan name)
none_named gives name (Ok value) why = tt
none_named gives name (Err fault) why = no_proved_named gives name fault why
