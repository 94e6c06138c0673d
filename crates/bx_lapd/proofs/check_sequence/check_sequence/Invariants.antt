use Rattle.std.proofs.Common.{◌≡◌, ◌<◌, drop}
use Rattle.bx_lapd.specs.Codec.{fcs_rest}
use Rattle.bx_lapd.proofs.check_sequence.check_sequence.Given as goal

abbrev pub invariant-loop-octet : goal.invariant-loop-octet
invariant-loop-octet l = record {
  small : l.rest < 65536;
  left : fcs_rest l.rest (drop l.octet-index l.octets) ≡ fcs_rest 65535 l.octets;
}
