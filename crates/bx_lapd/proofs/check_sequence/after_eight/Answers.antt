use Rattle.std.proofs.Common.{◌≡◌, ◌∙◌, suc, ◌+◌, ◌-◌, sym, ap, rules, arith}
use Rattle.bx_lapd.specs.Codec.{fcs_bits}
use Rattle.bx_lapd.proofs.Check.{bits_next, bits_none}
use Rattle.bx_lapd.proofs.check_sequence.after_eight.Goals as goal

pub loop-bit-preserved : goal.loop-bit-preserved
loop-bit-preserved c =
    let bit = c.loop-bit._bit in
    let rest = c.loop-bit.rest in
    let one : suc (8 - (bit + 1)) ≡ 8 - bit = omega arith in
    record {
      small = search rules;
      left = ap (fcs_bits (8 - (bit + 1))) c.after_bit-rest.ensures ∙ sym (bits_next (8 - (bit + 1)) rest) ∙ ap (λ n. fcs_bits n rest) one ∙ c.loop-bit.invariant.left;
    }

pub returns : goal.returns
returns c =
    let none : 0 ≡ 8 - c.loop-bit._bit = omega arith in
    sym (bits_none c.loop-bit.rest) ∙ ap (λ n. fcs_bits n c.loop-bit.rest) none ∙ c.loop-bit.invariant.left
