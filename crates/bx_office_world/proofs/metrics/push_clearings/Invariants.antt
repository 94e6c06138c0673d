use Rattle.std.proofs.Common.{◌≡◌, ◌++◌, drop}
use Rattle.bx_office_world.specs.Metrics.{clearing_lines, clearings_text}
use Rattle.bx_office_world.proofs.metrics.push_clearings.Given as goal

abbrev pub invariant-loop-count : goal.invariant-loop-count
invariant-loop-count l = record {
  text : l.text.items ++ clearing_lines l.cause (drop l.count-index l.clearings) ≡ l.fn.text.items ++ clearings_text l.clearings;
  cause : l.cause ≡ l.count-index;
}
