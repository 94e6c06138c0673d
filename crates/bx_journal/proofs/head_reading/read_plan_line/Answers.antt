use Rattle.std.proofs.Common.{inl, ◌≤◌, length, arith}
use Rattle.bx_journal.proofs.DayLines.{plan_long}
use Rattle.bx_journal.proofs.head_reading.read_plan_line.Goals as goal

pub returns-in-Ok-TooLong-clause-line : goal.returns-in-Ok-TooLong-clause-line
returns-in-Ok-TooLong-clause-line g c =
    let long = (rw c.in-Ok-TooLong.field-0-is at c.in-Ok-TooLong.ensures.line) in
    let few : length c.args.plan.now ≤ 32 = omega (arith, c.told-plan) in
    inl (record { line = long.0; takes = long.1; is = plan_long c.args.plan.now long.0 long.2 few })
