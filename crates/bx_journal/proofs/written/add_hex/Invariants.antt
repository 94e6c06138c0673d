use Rattle.std.proofs.Common.{◌≡◌, ◌+◌, ◌*◌, ◌++◌, drop}
use Rattle.arrayvec.specs.ArrayVec.{array_vec_len}
use Rattle.bx_journal.specs.Hex.{hex_of}
use Rattle.bx_journal.proofs.written.add_hex.Given as goal

abbrev pub invariant-loop-octet : goal.invariant-loop-octet
invariant-loop-octet l = record {
  items : l.line.items ++ hex_of l.ten (drop l.octet-index l.octets) ≡ l.fn.line.items ++ hex_of l.ten l.octets;
  len : array_vec_len l.line ≡ array_vec_len l.fn.line + 2 * l.octet-index;
}
