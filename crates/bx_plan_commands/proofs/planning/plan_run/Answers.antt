use Rattle.std.proofs.Common.{rules}
use Rattle.bx_devices.specs.Devices.{reading_of}
use Rattle.bx_book.specs.Rows.{span_of}
use Rattle.bx_plan_commands.proofs.Readings.{read_within}
use Rattle.bx_plan_commands.proofs.planning.plan_run.Goals as goal

pub returns-in_err-plan-clause-refused : goal.returns-in_err-plan-clause-refused
returns-in_err-plan-clause-refused g c =
    let within = read_within (reading_of g.R.Read.remaining c.args.input.now c.bookings_of.new.input) (span_of c.args.day.now) c.in_ok-bookings.bookings c.in_ok-bookings.ensures.read in
    search rules

pub returns-in-Ok-clause-refused : goal.returns-in-Ok-clause-refused
returns-in-Ok-clause-refused g c = search rules steps 60000
