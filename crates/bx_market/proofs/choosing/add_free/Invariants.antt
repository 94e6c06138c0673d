use Rattle.std.proofs.Common.{◌≡◌, ◌++◌, drop}
use Rattle.bx_market.specs.Choosing.{free_rows}
use Rattle.bx_market.proofs.choosing.add_free.Given as goal

abbrev pub invariant-loop-index : goal.invariant-loop-index
invariant-loop-index l = l.rows ++ free_rows (drop l.index l.batch) (drop l.index l.eligible) ≡ l.fn.rows ++ free_rows l.batch l.eligible
