use Rattle.std.proofs.Common.{◌≡◌, ◌++◌, drop}
use Rattle.bx_market.specs.Choosing.{chosen_rows}
use Rattle.bx_market.proofs.choosing.chosen_rows.Given as goal

abbrev pub invariant-loop-index : goal.invariant-loop-index
invariant-loop-index l = l.rows ++ chosen_rows (drop l.index l.batch) (drop l.index l.choice.chosen.items) ≡ chosen_rows l.batch l.choice.chosen.items
