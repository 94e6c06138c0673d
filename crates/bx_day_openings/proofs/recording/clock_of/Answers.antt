use Rattle.std.proofs.Common.{Option, Some, Err, Bor, List, ℕ, refl, sym, subst}
use Rattle.std.proofs.lemmas.Result.{err_from_is_err_and}
use Rattle.bx_day_openings.specs.Recording.{IsClockOf, IsNoNamedDay}
use Rattle.bx_day_openings.proofs.DayFaults.{day_fault}
use Rattle.bx_day_openings.proofs.recording.clock_of.Goals as goal

pub returns-clause-clock : goal.returns-clause-clock
returns-clause-clock c = subst (λ (d : Option (Bor (List ℕ) × Bor (List ℕ))). IsClockOf d (Some c.in_ok-new.field-0)) (sym c.in-Some.is) c.in_ok-new.ensures.clock

pub returns-in_err-new-clause-none : goal.returns-in_err-new-clause-none
returns-in_err-new-clause-none c =
    let p = err_from_is_err_and c.from_residual.result c.from_residual.ensures.1 in
    let fault = c.in_err-new.field-0.0 in
    rw (p.1, p.2)
    (subst (λ (d : Option (Bor (List ℕ) × Bor (List ℕ))). IsNoNamedDay d fault) (sym c.in-Some.is)
    (day_fault c.in-Some.date.now c.in-Some.zone.now (Err fault) fault refl c.in_err-new.ensures.bad_date c.in_err-new.ensures.bad_zone c.in_err-new.ensures.out c.in_err-new.ensures.odd))
