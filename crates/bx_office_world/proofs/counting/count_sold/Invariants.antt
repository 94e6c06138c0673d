use Rattle.std.proofs.Common.{◌≡◌, drop}
use Rattle.bx_office_world.specs.Counting.{sold_in_batch}
use Rattle.bx_office_world.proofs.counting.count_sold.Given as goal

abbrev pub invariant-loop-answer : goal.invariant-loop-answer
invariant-loop-answer l = record {
  sold : sold_in_batch l.figures.sold (drop l.answer-index l.answers) ≡ sold_in_batch l.fn.figures.sold l.answers;
  rest : l.figures ≡ record l.fn.figures { sold = l.figures.sold };
}
