use Rattle.std.proofs.Common.{◌≡◌, take}
use Rattle.bx_text.specs.Digits.{decimal_value, capped}
use Rattle.bx_text.proofs.digits.digits_value.Given as goal

abbrev pub invariant-loop-digit : goal.invariant-loop-digit
invariant-loop-digit l = l.value ≡ capped (decimal_value (take l.digit-index l.digits))
