use Rattle.std.proofs.Common.{◌≡◌, ◌-◌, ◌<◌}
use Rattle.bx_lapd.specs.Codec.{fcs_bits}
use Rattle.bx_lapd.proofs.check_sequence.after_eight.Given as goal

abbrev pub invariant-loop-bit : goal.invariant-loop-bit
invariant-loop-bit l = record {
  small : l.rest < 65536;
  left : fcs_bits (8 - l._bit) l.rest ≡ fcs_bits 8 l.initial.rest;
}
