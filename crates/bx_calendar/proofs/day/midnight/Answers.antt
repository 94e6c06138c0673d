use Rattle.std.proofs.Common.{◌∙◌, rules, refl, ap, FitsSigned, w64, pos, int_div}
use Rattle.std.proofs.Math.Facts.{to_z-of_z}
use Rattle.jiff.specs.Words.{epoch_day}
use Rattle.bx_calendar.proofs.day.midnight.Goals as goal

pub returns-in-Ok-clause-some : goal.returns-in-Ok-clause-some
returns-in-Ok-clause-some c = let h = c.in-Ok.ensures in
    let fits : FitsSigned w64 c.as_second.result = search rules in
    (_, (h.0, ap epoch_day h.1, h.2, refl), h.3.succeeds.0 refl, to_z-of_z {w = w64} fits ∙ c.as_second.ensures ∙ ap (λ t. int_div t.nanosecond (pos 1_000_000_000)) c.timestamp.ensures ∙ ap (λ n. int_div n (pos 1_000_000_000)) h.3.value)

pub returns-in-Err-clause-none : goal.returns-in-Err-clause-none
returns-in-Err-clause-none c = let h = c.in-Err.ensures in (_, (h.0, ap epoch_day h.1, h.2, refl), λ t. let bad = h.3.succeeds.1 t in cc)
