use Rattle.std.proofs.Common.{rules, ◌+ℤ◌, ◌∙◌, ap, ℤ}
use Rattle.jiff_core.specs.Timestamp.{nanos_of_seconds}
use Rattle.jiff_tz.specs.Zone.{offset_at}
use Rattle.bx_calendar.specs.Clocks.{clock_zone}
use Rattle.bx_calendar.proofs.Shown.{some_shown, none_shown}
use Rattle.bx_calendar.proofs.clock.Clock.shown.Goals as goal

pub returns-clause-some : goal.returns-clause-some
returns-clause-some c = record {
  at = c.to_datetime-shown.result;
  moved = c.to_datetime-shown.ensures ∙ ap (λ (n : ℤ). n +ℤ nanos_of_seconds (offset_at (clock_zone c.args.self.now) n)) c.in_ok-instant.ensures.some;
  hour_is = search rules steps 400000;
  minute_is = search rules steps 400000;
}

pub returns-clause-value : goal.returns-clause-value
returns-clause-value c = some_shown c.args.self.now c.args.moment _ _ (search rules steps 400000) (returns-clause-some c)

pub returns-in_err-instant-clause-value : goal.returns-in_err-instant-clause-value
returns-in_err-instant-clause-value c = c.from_residual.ensures ∙ none_shown c.args.self.now c.args.moment (search rules steps 400000)
