use Rattle.std.proofs.Common.{◌≡◌, ◌+◌, ◌≤◌, ◌++◌, drop}
use Rattle.bx_office_world.specs.Sold.{sold_lines, sold_text}
use Rattle.bx_office_world.proofs.sold.sold_text.Given as goal

abbrev pub invariant-loop-index : goal.invariant-loop-index
invariant-loop-index l = record {
  text : l.text.items ++ sold_lines l.terms (l.index + 1) l.place (drop l.index l.wanted) (drop l.told l.answers) ≡ sold_text l.terms l.rows l.wanted l.answers;
  place : l.place ≤ l.rows + l.index + 1;
  told : l.told ≤ l.index;
}
