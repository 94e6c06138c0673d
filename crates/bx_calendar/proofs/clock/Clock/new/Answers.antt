use Rattle.std.proofs.Common.{rules}
use Rattle.bx_calendar.proofs.clock.Clock.new.Goals as goal

pub returns-in-Ok-clause-clock : goal.returns-in-Ok-clause-clock
returns-in-Ok-clause-clock c =
    let day = c.in_ok-day.ensures.day in
    record { is_date = day.0; is_day = day.1; is_zone = c.in-Ok.ensures.value }

pub returns-in-Err-clause-bad_zone : goal.returns-in-Err-clause-bad_zone
returns-in-Err-clause-bad_zone c = λ _. (c.in_ok-day.ensures.day.0, search rules steps 2000000)

pub returns-in_err-day-clause-bad_date : goal.returns-in_err-day-clause-bad_date
returns-in_err-day-clause-bad_date c = search rules steps 400000
