use Rattle.std.proofs.Common.{◌≡◌, drop}
use Rattle.bx_office.specs.Gate.{ends_type}
use Rattle.bx_office.proofs.gate.ends_type.Given as goal

abbrev pub invariant-loop-octet : goal.invariant-loop-octet
invariant-loop-octet l = ends_type (drop l.octet-index l.rest) ≡ ends_type l.rest
