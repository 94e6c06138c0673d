use Rattle.std.proofs.Common.{◌≡◌}
use Rattle.bx_base.specs.Plans.{is_accepted}
use Rattle.bx_planner.specs.Named.{picked}
use Rattle.bx_planner.specs.QuotesInside.{is_apart}
use Rattle.bx_planner.proofs.naming.apart.Given as goal

abbrev pub invariant-loop-index : goal.invariant-loop-index
invariant-loop-index l = l.named.items ≡ picked (is_apart (is_accepted l.one) (is_accepted l.other) l.except) l.index
