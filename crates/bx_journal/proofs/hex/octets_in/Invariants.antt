use Rattle.std.proofs.Common.{◌≡◌, ◌+◌, ◌≤◌, ◌-◌, length, drop}
use Rattle.arrayvec.specs.ArrayVec.{array_vec_len}
use Rattle.bx_journal.specs.Hex.{octets_of_digits, following}
use Rattle.bx_journal.proofs.hex.octets_in.Given as goal

abbrev pub invariant-loop-at : goal.invariant-loop-at
invariant-loop-at l = record {
  so_far : octets_of_digits 65 l.digits ≡ following l.octets.items (octets_of_digits 65 (drop l.at l.digits));
  room : array_vec_len l.octets + array_vec_len l.octets ≡ l.at;
  within : l.at ≤ length l.digits;
}

abbrev pub decreases-loop-at : goal.decreases-loop-at
decreases-loop-at l = length l.digits - l.at
