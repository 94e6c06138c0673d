use Rattle.std.proofs.Common.{refl, inl, inr}
use Rattle.std.proofs.lemmas.Result.{err_from_is_err_and}
use Rattle.bx_devices.specs.Devices.{reading_of, writing_of}
use Rattle.bx_book.specs.Rows.{span_of}
use Rattle.bx_plan_commands.proofs.Refusals.{table_fault}
use Rattle.bx_plan_commands.proofs.capacity_files.capacity_file.Goals as goal

pub returns-in_err-input-clause-refused : goal.returns-in_err-input-clause-refused
returns-in_err-input-clause-refused g c =
    let p = err_from_is_err_and c.from_residual-in_err-input.result c.from_residual-in_err-input.ensures.1 in
    rw (p.1, p.2) (inl (inr ((c.in_ok-day.day, c.in_ok-day.ensures.named), c.in_err-input.ensures.unopened), refl))

pub returns-in-Ok-clause-written : goal.returns-in-Ok-clause-written
returns-in-Ok-clause-written g c = (
  record {
    day = c.in_ok-day.day;
    day_of = c.in_ok-day.ensures.named;
    input = reading_of g.I.Reader.Read.remaining c.in_ok-input.input c.capacity_run.new.input;
    of_name = record { given = c.in_ok-input.ensures.opened; unfaulted = c.in_ok-input.ensures.unfaulted; unread = c.in_ok-input.ensures.unread };
  },
  c.in-Ok.ensures.tabled,
)

pub returns-clause-refused : goal.returns-clause-refused
returns-clause-refused g c =
    let input = reading_of g.I.Reader.Read.remaining c.in_ok-input.input c.capacity_run.new.input in
    let output = writing_of g.W.Write.contents c.args.output.now c.capacity_run.new.output in
    rw c.fault_of.ensures (inr (
      record { day = c.in_ok-day.day; day_of = c.in_ok-day.ensures.named; input = input; of_name = record { given = c.in_ok-input.ensures.opened; unfaulted = c.in_ok-input.ensures.unfaulted; unread = c.in_ok-input.ensures.unread } },
      table_fault c.args.bookings input output (span_of c.in_ok-day.day) c.in-Err.fault c.in-Err.ensures.refused,
    ))
