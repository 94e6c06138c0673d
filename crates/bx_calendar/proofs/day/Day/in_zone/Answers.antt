use Rattle.std.proofs.Common.{rules, subst, inr, sym, ◌-ℤ◌, FitsSigned, w64}
use Rattle.std.proofs.lemmas.Int.{to_z-of_z}
use Rattle.bx_calendar.specs.Days.{NoMidnight, IsDay}
use Rattle.bx_calendar.proofs.Midnights.{is_day}
use Rattle.bx_calendar.proofs.day.Day.in_zone.Goals as goal

pub returns-in_default-midnight-2-clause-out : goal.returns-in_default-midnight-2-clause-out
returns-in_default-midnight-2-clause-out c = λ _. inr (inr (subst (NoMidnight _) c.in-Ok.ensures.value c.in_default-midnight-2.ensures.none))

pub returns-in-None-clause-odd : goal.returns-in-None-clause-odd
returns-in-None-clause-odd c = λ _.
    let a : FitsSigned w64 c.in-Some.start = search rules steps 1000000 in
    let b : FitsSigned w64 c.in-Some-midnight.end = search rules steps 1000000 in
    (c.in-Some.start, c.in-Some-midnight.end -ℤ c.in-Some.start, is_day _ _ _ _ _ c.in-Ok.ensures.value c.in-Some.ensures.some c.in-Some-midnight.ensures.some, simp to_z-of_z at c.in-None.ensures.none)

pub returns-in-Some-length_between-clause-day : goal.returns-in-Some-length_between-clause-day
returns-in-Some-length_between-clause-day c =
    let a : FitsSigned w64 c.in-Some.start = search rules steps 1000000 in
    let b : FitsSigned w64 c.in-Some-midnight.end = search rules steps 1000000 in
    let e = simp to_z-of_z at c.in-Some-length_between.ensures.some.0 in
    simp to_z-of_z (subst (IsDay _ _ c.in-Some.start) (sym e) (is_day _ _ _ _ _ c.in-Ok.ensures.value c.in-Some.ensures.some c.in-Some-midnight.ensures.some))
