use Rattle.std.proofs.lemmas.Result.{err_from_is_err_and}
use Rattle.bx_book.specs.Rows.{span_of}
use Rattle.bx_check_commands.proofs.Options.{at_some}
use Rattle.bx_plan_commands.proofs.CallTimes.{no_times}
use Rattle.bx_plan_commands.proofs.quote_files.seconds_of.Goals as goal

pub returns-clause-times : goal.returns-clause-times
returns-clause-times c = at_some _ _ _ _ c.in-Some.is (c.in_ok-day.day, c.in_ok-day.ensures.named, c.in_ok-times_of.ensures.times)

pub returns-in_err-times_of-clause-none : goal.returns-in_err-times_of-clause-none
returns-in_err-times_of-clause-none c =
    let p = err_from_is_err_and c.from_residual-in_err-times_of.result c.from_residual-in_err-times_of.ensures.1 in
    rw (p.1, p.2) (at_some _ _ _ _ c.in-Some.is (c.in_ok-day.day, c.in_ok-day.ensures.named, no_times (span_of c.in_ok-day.day) c.args.call.now c.in_err-times_of.field-0.0 c.in_err-times_of.ensures.none))
