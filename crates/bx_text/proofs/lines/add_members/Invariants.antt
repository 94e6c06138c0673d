use Rattle.std.proofs.Common.{◌≡◌, ◌+◌, ◌*◌, ◌≤◌, ◌++◌, take}
use Rattle.arrayvec.specs.ArrayVec.{array_vec_len}
use Rattle.bx_text.specs.Lines.{members_from, spaced}
use Rattle.bx_text.proofs.lines.add_members.Given as goal

abbrev pub invariant-loop-number : goal.invariant-loop-number
invariant-loop-number l = record {
  room : array_vec_len l.line ≤ array_vec_len l.fn.line + 3 * l.number;
  text : l.line.items ≡ l.fn.line.items ++ spaced (members_from 0 (take l.number l.channels));
}
