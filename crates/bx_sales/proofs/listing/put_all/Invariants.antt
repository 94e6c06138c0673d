use Rattle.std.proofs.Common.{◌≡◌, ◌++◌, take}
use Rattle.bx_sales.proofs.listing.put_all.Given as goal

abbrev pub invariant-loop-index : goal.invariant-loop-index
invariant-loop-index l = l.all ≡ l.fn.all ++ take l.index l.rows
