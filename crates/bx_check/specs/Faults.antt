-- What the bound of a plan that is not proved says.
use Rattle.std.specs.Prelude.{ℕ, ◌<◌}
use Rattle.bx_check.specs.declared.checker.CheckFault.{CheckFault}
use Rattle.bx_check.specs.declared.checker.CheckFault.TheVariants.{NotProved}

-- where the fault is a bound, that is above the total and below 16 * 10 ^ 18
abbrev pub IsBoundAbove : ℕ → CheckFault → Type 0
IsBoundAbove total (NotProved bound) = (total < bound) × (bound < 16000000000000000000)
IsBoundAbove total _ = Unit {0}
