use Rattle.std.proofs.Common.{◌≡◌, drop}
use Rattle.bx_office.specs.Keys.{are_key_octets}
use Rattle.bx_office.proofs.keys.are_key_octets.Given as goal

abbrev pub invariant-loop-octet : goal.invariant-loop-octet
invariant-loop-octet l = are_key_octets (drop l.octet-index l.octets) ≡ are_key_octets l.octets
