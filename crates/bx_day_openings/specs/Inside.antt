-- Private: what its functions promise one another.
use Rattle.std.specs.Prelude.{◌≡◌, ℕ, List}
use Rattle.bx_check_commands.specs.Refusals.{IsUnread, IsRefusedGrowth}
use Rattle.bx_check_commands.specs.declared.fault.CommandFault.TheVariants.{CannotRead, Memory}
use Rattle.bx_devices.specs.Devices.{Reading}
use Rattle.bx_far.specs.declared.fault.ScriptFault.TheVariants as scripts
use Rattle.bx_day_openings.specs.OpeningRefusals.{IsNoScriptText}
use Rattle.bx_day_openings.specs.declared.fault.DayCommandFault.{DayCommandFault}
use Rattle.bx_day_openings.specs.declared.fault.DayCommandFault.TheVariants.{Command, Script}

-- why there is no script of an input of this name
abbrev pub IsNoScript : List ℕ → Reading → DayCommandFault → Type 0
IsNoScript name input (Command (CannotRead n)) = IsUnread name input n.now
IsNoScript name input (Command Memory) = IsRefusedGrowth input
IsNoScript name input (Script fault) = (¬ (fault ≡ scripts.Memory)) × IsNoScriptText input.before fault
IsNoScript name input _ = ⊥
