-- The plan that an input of a name gave.
use Rattle.std.proofs.Common.{ℕ, List, Option, Result, Ok, Err}
use Rattle.std.specs.Prelude.{IfOk, OnOk}
use Rattle.std.specs.Io.KnownBytes.{IsAtEnd}
use Rattle.bx_base.specs.PlanParts.{Parts}
use Rattle.bx_devices.specs.Devices.{Reading}
use Rattle.bx_check_commands.specs.Inputs.{IsReadOf, IsPlanOf, IsProvedOf}
use Rattle.bx_check_commands.specs.Proved.{IsPlanRead, IsProvedFor}
use Rattle.bx_check_commands.specs.declared.fault.CommandFault.{CommandFault}

pub named : {T : Type 0} (gives : List ℕ → Option (List ℕ) → Type 0) (name : List ℕ) (input : Reading) (parts : T → Parts) (r : Result T CommandFault) → IsReadOf gives name input
    → IfOk r (λ plan. IsPlanRead input.before (parts plan)) → OnOk r (IsAtEnd input.after) → IfOk r (λ plan. IsPlanOf gives name (parts plan))
named gives name input parts (Ok plan) of_name read ended = record { input = input; of_name = of_name; read = read; ended = ended }
named gives name input parts (Err fault) of_name read ended = tt

pub proved_named : {T : Type 0} (gives : List ℕ → Option (List ℕ) → Type 0) (name : List ℕ) (parts : T → Parts) (r : Result T CommandFault)
    → IfOk r (λ plan. IsPlanOf gives name (parts plan)) → IfOk r (λ plan. (total : ℕ) × IsProvedFor (parts plan).rows (parts plan).channels (parts plan) total) → IfOk r (λ plan. IsProvedOf gives name (parts plan))
proved_named gives name parts (Ok plan) of (total, proved) = record { plan_of = of; total = total; proved = proved }
proved_named gives name parts (Err fault) of proved = tt
