use Rattle.std.proofs.Common.{Err, refl}
use Rattle.std.proofs.lemmas.Result.{err_from_is_err_and}
use Rattle.bx_calendar.specs.NamedDays.{IsDayOf}
use Rattle.bx_calendar.specs.declared.day.Day.{Day}
use Rattle.bx_day_openings.specs.Hours.{IsNoHours}
use Rattle.bx_day_openings.specs.HoursInside.{IsUnnamed}
use Rattle.bx_day_openings.specs.declared.fault.DayCommandFault.{DayCommandFault}
use Rattle.bx_day_openings.specs.declared.fault.DayCommandFault.TheVariants as faults
use Rattle.bx_request.specs.declared.request.DayHours.{DayHours}
use Rattle.bx_day_openings.proofs.DayFaults.{day_fault}
use Rattle.bx_day_openings.proofs.hours.hours_of.Goals as goal

no_hours : (words : DayHours) (day : Day) → IsDayOf words.date.now words.zone.now day → (fault : DayCommandFault) → IsUnnamed day fault → IsNoHours words fault
no_hours words day is (faults.Capture fault) unnamed = (day, is, unnamed)
no_hours words day is fault unnamed = absurd unnamed

pub returns-in_err-first-clause-refused : goal.returns-in_err-first-clause-refused
returns-in_err-first-clause-refused c =
    let p = err_from_is_err_and c.from_residual-in_err-first.result c.from_residual-in_err-first.ensures.1 in
    rw (p.1, p.2)
    (no_hours c.args.hours c.in_ok-day.day c.in_ok-day.ensures.day c.in_err-first.field-0.0 c.in_err-first.ensures.refused)

pub returns-clause-hours : goal.returns-clause-hours
returns-clause-hours c = record {
  is_day = c.in_ok-day.ensures.day;
  first = c.in_ok-first.ensures.first;
  pace = search (c.max-pace.ensures);
  scheduled_first = search (c.new-2.ensures.first, c.from.ensures);
  scheduled_pace = c.new-2.ensures.pace;
}

pub returns-in_err-day-clause-refused : goal.returns-in_err-day-clause-refused
returns-in_err-day-clause-refused c =
    let p = err_from_is_err_and c.from_residual.result c.from_residual.ensures.1 in
    let fault = c.in_err-day.field-0.0 in
    rw (p.1, p.2)
    (day_fault c.args.hours.date.now c.args.hours.zone.now (Err fault) fault refl c.in_err-day.ensures.bad_date c.in_err-day.ensures.bad_zone c.in_err-day.ensures.out c.in_err-day.ensures.odd)
