use Rattle.std.proofs.Common.{◌≡◌, ◌++◌, drop}
use Rattle.bx_plan_commands.specs.EarningLines.{earning_lines}
use Rattle.bx_plan_commands.proofs.lines.earning_lines.Given as goal

abbrev pub invariant-loop-earning : goal.invariant-loop-earning
invariant-loop-earning l = record { counted : l.count ≡ l.earning-index; lines : l.text.items ++ earning_lines l.earning-index (drop l.earning-index l.earnings) ≡ earning_lines 0 l.earnings }
