use Rattle.std.proofs.Common.{Option, Err, rules, refl, sym, subst}
use Rattle.std.proofs.lemmas.Result.{err_from_is_err_and}
use Rattle.bx_calendar.specs.NamedDays.{IsDayFault}
use Rattle.bx_day_openings.specs.CaptureOpenings.{IsFirstOf}
use Rattle.bx_day_openings.specs.OpeningRefusals.{IsNoCaptureDay, IsUnnameable}
use Rattle.bx_check_commands.proofs.Options.{at_some}
use Rattle.bx_request.specs.declared.request.CaptureWords.{CaptureWords}
use Rattle.bx_day_openings.proofs.DayFaults.{day_fault}
use Rattle.bx_day_openings.proofs.capturing.first_of.Goals as goal

pub returns-clause-first : goal.returns-clause-first
returns-clause-first c =
    subst (λ (k : Option CaptureWords). IsFirstOf k c.in_ok-first_second.field-0) (sym c.in-Some.is)
    (at_some c.in-Some.field-0.day (c.in-Some-day.date, c.in-Some-day.zone) _ _ (search rules steps 1000000) (c.in_ok-day.day, c.in_ok-day.ensures.day, c.in_ok-first_second.ensures.first.0))

pub returns-in_err-first_second-clause-refused : goal.returns-in_err-first_second-clause-refused
returns-in_err-first_second-clause-refused c =
    let p = err_from_is_err_and c.from_residual-in_err-first_second.result c.from_residual-in_err-first_second.ensures.1 in
    rw (p.1, p.2)
    (subst IsUnnameable (sym c.in-Some.is) (at_some c.in-Some.field-0.day (c.in-Some-day.date, c.in-Some-day.zone) _ _ (search rules steps 1000000) (c.in_ok-day.day, c.in_ok-day.ensures.day, c.in_err-first_second.ensures.refused refl)))

pub returns-in_err-day-clause-refused : goal.returns-in_err-day-clause-refused
returns-in_err-day-clause-refused c =
    let p = err_from_is_err_and c.from_residual.result c.from_residual.ensures.1 in
    let fault = c.in_err-day.field-0.0 in
    rw (p.1, p.2)
    (subst (λ (k : Option CaptureWords). IsNoCaptureDay k fault) (sym c.in-Some.is)
    (at_some c.in-Some.field-0.day (c.in-Some-day.date, c.in-Some-day.zone) ⊥ (λ words. IsDayFault words.0.now words.1.now fault) (search rules steps 1000000)
    (day_fault c.in-Some-day.date.now c.in-Some-day.zone.now (Err fault) fault refl c.in_err-day.ensures.bad_date c.in_err-day.ensures.bad_zone c.in_err-day.ensures.out c.in_err-day.ensures.odd)))
