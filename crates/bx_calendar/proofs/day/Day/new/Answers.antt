use Rattle.std.proofs.Common.{rules, subst, ◌∙◌, ap}
use Rattle.jiff.specs.Words.{plain_zone}
use Rattle.bx_calendar.specs.Dates.{StartsWithDate, day_number}
use Rattle.bx_calendar.specs.Days.{IsOut}
use Rattle.bx_calendar.proofs.day.Day.new.Goals as goal

pub returns-clause-out : goal.returns-clause-out
returns-clause-out c = λ e.
    let same = c.as_bytes.ensures.value in
    let start = subst StartsWithDate same c.in-Some.ensures.0 in
    (record { whole = search rules steps 1000000; date = start }, (plain_zone c.in-Ok.zone, c.in-Ok.ensures.value, subst (IsOut (plain_zone c.in-Ok.zone)) (c.in-Some.ensures.1 ∙ ap day_number same) (c.in_zone.ensures.out e)))

pub returns-in_default-posix-clause-bad_date : goal.returns-in_default-posix-clause-bad_date
returns-in_default-posix-clause-bad_date c = search rules steps 2000000
