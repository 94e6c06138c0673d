use Rattle.std.proofs.Common.{◌≡◌, map, take}
use Rattle.bx_sales.specs.GoingOn.{own_at}
use Rattle.bx_sales.proofs.going_on.own_of.Given as goal

abbrev pub invariant-loop-index : goal.invariant-loop-index
invariant-loop-index l = l.own.items ≡ map (own_at l.moment) (take l.index l.entries)
