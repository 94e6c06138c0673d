use Rattle.std.proofs.Common.{◌≡◌, drop}
use Rattle.bx_office.specs.Refusals.{is_blank}
use Rattle.bx_office.proofs.refusals.is_blank.Given as goal

abbrev pub invariant-loop-octet : goal.invariant-loop-octet
invariant-loop-octet l = is_blank (drop l.octet-index l.input) ≡ is_blank l.input
