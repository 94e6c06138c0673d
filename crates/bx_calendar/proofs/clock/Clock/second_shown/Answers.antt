use Rattle.std.proofs.Common.{rules, ◌∙◌}
use Rattle.bx_calendar.proofs.Shown.{second_is, no_second}
use Rattle.bx_calendar.proofs.clock.Clock.second_shown.Goals as goal

pub returns-clause-value : goal.returns-clause-value
returns-clause-value c = second_is c.args.self.now c.args.moment c.in_ok-instant.field-0.nanosecond c.to_datetime-shown.result _ (search rules steps 1000000) c.in_ok-instant.ensures.some c.to_datetime-shown.ensures (search rules steps 1000000)

pub returns-in_err-instant-clause-value : goal.returns-in_err-instant-clause-value
returns-in_err-instant-clause-value c = c.from_residual.ensures ∙ no_second c.args.self.now c.args.moment (search rules steps 1000000)
