use Rattle.std.proofs.Common.{rules}
use Rattle.std.proofs.lemmas.Result.{err_from_is_err_and}
use Rattle.bx_base.specs.PlanParts.{parts_of}
use Rattle.bx_plan_commands.proofs.quote_files.quote_file.Goals as goal

pub returns-clause-quoted : goal.returns-clause-quoted
returns-clause-quoted g c = record {
  plan = parts_of c.in_ok-plan.plan;
  proved_of = c.in_ok-plan.ensures.found;
  booking = c.in_ok-booking.booking;
  call_of = c.in_ok-booking.ensures.booking;
  told = search rules steps 1000000;
}

pub returns-in_err-write_quote-clause-refused : goal.returns-in_err-write_quote-clause-refused
returns-in_err-write_quote-clause-refused g c =
    let p = err_from_is_err_and c.from_residual-in_err-write_quote.result c.from_residual-in_err-write_quote.ensures.1 in
    rw (p.1, p.2) (record {
      plan = parts_of c.in_ok-plan.plan;
      proved_of = c.in_ok-plan.ensures.found;
      booking = c.in_ok-booking.booking;
      call_of = c.in_ok-booking.ensures.booking;
      refused = search rules steps 1000000;
    })
