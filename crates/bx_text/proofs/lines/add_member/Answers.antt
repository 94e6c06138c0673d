use Rattle.std.proofs.Common.{◌≡◌, ◌≤◌, length, arith, ap, refl, ◌∙◌}
use Rattle.std.specs.Prelude.{decimal}
use Rattle.std.proofs.lemmas.Fmt.{length-decimal-le}
use Rattle.bx_text.proofs.lines.add_member.Goals as goal

pub returns-then-has-clause-len : goal.returns-then-has-clause-len
returns-then-has-clause-len c =
    let channel = c.in-Some.ensures.exactly.0 refl in
    let text : length c.as_bytes.result.now ≡ length (decimal c.args.number) = ap length (c.as_bytes.ensures.value ∙ c.format.ensures.text) in
    let short : length (decimal c.args.number) ≤ 2 = length-decimal-le 2 c.args.number (omega arith) (omega (arith, channel.1)) (omega (arith, channel.1)) in
    omega (arith, c.append.ensures.len, c.push.ensures.len, text, short)
