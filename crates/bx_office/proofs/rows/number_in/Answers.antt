use Rattle.std.proofs.Common.{subst, sym, ap, ◌∙◌, decimal, arith}
use Rattle.std.specs.Result.{result_ok}
use Rattle.std.specs.Str.{IsUtf8}
use Rattle.std.proofs.lemmas.Str.{IsUtf8-from_ascii}
use Rattle.std.proofs.lemmas.Fmt.{IsAscii-decimal, parse-decimal}
use Rattle.bx_office.proofs.rows.number_in.Goals as goal

pub returns-in-Ok : goal.returns-in-Ok
returns-in-Ok c number small e =
    let read = parse-decimal 16 number c.in-Ok.text.now c.parse.result (omega (arith, small)) (omega (arith, small)) (c.in-Ok.ensures.cases.0 ∙ e) c.parse.ensures.value.0 in
    c.ok.ensures.value ∙ ap result_ok read

pub returns-in-Err : goal.returns-in-Err
returns-in-Err c number small e = absurd (c.in-Err.ensures.cases.0 (subst IsUtf8 (sym e) (IsUtf8-from_ascii (decimal number) (IsAscii-decimal number (omega (arith, small))))))
