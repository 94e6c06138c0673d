use Rattle.std.proofs.Common.{◌≡◌, ◌++◌}
use Rattle.std.specs.List.{flat_map}
use Rattle.bx_check_commands.specs.MessageLines.{element_line, message_lines}
use Rattle.bx_check_commands.proofs.message_lines.lines_of.Given as goal

abbrev pub invariant-loop-element : goal.invariant-loop-element
invariant-loop-element l = l.lines.items ++ flat_map element_line l.element-iterator ≡ message_lines l.message
