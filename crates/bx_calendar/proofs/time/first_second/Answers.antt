use Rattle.std.proofs.Common.{◌∙◌, rules, FitsSigned, w64}
use Rattle.std.proofs.lemmas.Int.{to_z-of_z}
use Rattle.jiff.specs.Words.{epoch_day, signed_nanos}
use Rattle.jiff_core.proofs.DateLemmas.{epoch_day_range}
use Rattle.bx_calendar.proofs.Seconds.{seconds_exactly, first_day, since_first_day, second_range}
use Rattle.bx_calendar.proofs.time.first_second.Goals as goal

pub returns-clause-value : goal.returns-clause-value
returns-clause-value c =
    let fits : FitsSigned w64 c.as_secs.result = search rules in
    let nanos = since_first_day (signed_nanos c.duration_since.result) (epoch_day c.args.day) (epoch_day c.date.result) (first_day c.date.result c.date.ensures) c.duration_since.ensures in
    to_z-of_z w64 c.as_secs.result fits ∙ c.as_secs.ensures ∙ seconds_exactly (signed_nanos c.duration_since.result) (epoch_day c.args.day) nanos

pub returns-clause-range : goal.returns-clause-range
returns-clause-range c =
    let fits : FitsSigned w64 c.as_secs.result = search rules in
    let nanos = since_first_day (signed_nanos c.duration_since.result) (epoch_day c.args.day) (epoch_day c.date.result) (first_day c.date.result c.date.ensures) c.duration_since.ensures in
    rw (to_z-of_z w64 c.as_secs.result fits) (second_range c.as_secs.result (epoch_day c.args.day) (epoch_day_range c.args.day) (c.as_secs.ensures ∙ seconds_exactly (signed_nanos c.duration_since.result) (epoch_day c.args.day) nanos))
