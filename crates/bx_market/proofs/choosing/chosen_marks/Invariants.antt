use Rattle.std.proofs.Common.{◌≡◌, ◌≤◌, ◌+◌, ◌++◌, drop}
use Rattle.bx_market.specs.Choosing.{chosen_marks}
use Rattle.bx_market.proofs.choosing.chosen_marks.Given as goal

abbrev pub invariant-loop-index : goal.invariant-loop-index
invariant-loop-index l = record {
  chosen : l.chosen.items ++ chosen_marks (drop l.index l.eligible) l.assigned l.place ≡ chosen_marks l.eligible l.assigned l.fn.place;
  place : l.place ≤ l.fn.place + l.index;
}
