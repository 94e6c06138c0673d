use Rattle.std.proofs.Common.{inl}
use Rattle.bx_journal.proofs.DayLines.{day_long}
use Rattle.bx_journal.proofs.head_reading.read_day_line.Goals as goal

pub returns-in-Ok-TooLong-clause-line : goal.returns-in-Ok-TooLong-clause-line
returns-in-Ok-TooLong-clause-line g c =
    let long = (rw c.in-Ok-TooLong.field-0-is at c.in-Ok-TooLong.ensures.line) in
    inl (record { line = long.0; takes = long.1; is = day_long c.args.day long.0 long.2 })
