-- What is told of a file of a script, which does not tell its octets.
use Rattle.std.proofs.Common.{ℕ, List, Option, None}
use Rattle.bx_devices.specs.Devices.{Reading}
use Rattle.bx_far.specs.declared.row.ScriptRow.{ScriptRow}
use Rattle.bx_check_commands.specs.declared.fault.CommandFault.TheVariants.{CannotRead, Memory}
use Rattle.bx_day_openings.specs.Openings.{IsScriptRead}
use Rattle.bx_day_openings.specs.Inside.{IsNoScript}
use Rattle.bx_day_openings.specs.OpeningRefusals.{IsNoFarEnd}
use Rattle.bx_day_openings.specs.declared.fault.DayCommandFault.{DayCommandFault}
use Rattle.bx_day_openings.specs.declared.fault.DayCommandFault.TheVariants as faults

pub untold_script : (before : Option (List ℕ)) (script : List ScriptRow) → IsScriptRead before script → IsScriptRead None script
untold_script before script read = record { text = read.text; told = λ known is. cc; script_of = read.script_of }

pub no_far_end : (name : List ℕ) (input : Reading) (fault : DayCommandFault) → IsNoScript name input fault → IsNoFarEnd name fault
no_far_end name input (faults.Command (CannotRead n)) (same, why) = same
no_far_end name input (faults.Command Memory) why = tt
no_far_end name input (faults.Script fault) (other, none) = (other, record { text = none.text; told = λ known is. cc; first = none.first })
no_far_end name input fault why = absurd why
