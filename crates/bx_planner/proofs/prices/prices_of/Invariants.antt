use Rattle.std.proofs.Common.{◌≡◌}
use Rattle.bx_planner.specs.Prices.{charges}
use Rattle.bx_planner.proofs.prices.prices_of.Given as goal

abbrev pub invariant-loop-gap : goal.invariant-loop-gap
invariant-loop-gap l = l.prices.items ≡ charges l.fn.line.moments l.potentials l.gap
