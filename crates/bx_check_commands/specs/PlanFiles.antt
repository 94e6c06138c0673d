-- Why there is no plan of a file.
use Rattle.std.specs.Prelude.{◌≡◌, ℕ, List, None}
use Rattle.bx_check_commands.specs.Refusals.{IsNoPlanText, IsFaultyText}
use Rattle.bx_check_commands.specs.declared.fault.CommandFault.{CommandFault}
use Rattle.bx_check_commands.specs.declared.fault.CommandFault.TheVariants.{CannotRead, Plan, Check, Memory}

-- a file of this name cannot be opened
abbrev pub IsUnopened : List ℕ → CommandFault → Type 0
IsUnopened name (CannotRead n) = n.now ≡ name
IsUnopened name _ = ⊥

-- a file of this name is not read, or holds a text that is no plan's, with just this first fault, or memory runs out
abbrev pub HasNoPlan : List ℕ → CommandFault → Type 0
HasNoPlan name (CannotRead n) = n.now ≡ name
HasNoPlan name (Plan fault) = IsNoPlanText None fault
HasNoPlan name Memory = Unit {0}
HasNoPlan name _ = ⊥

-- or it holds a plan that is not proved for its own bookings and channels, by just this first fault
abbrev pub HasNoProvedPlan : List ℕ → CommandFault → Type 0
HasNoProvedPlan name (Check fault) = IsFaultyText None fault
HasNoProvedPlan name fault = HasNoPlan name fault
