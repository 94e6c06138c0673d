use Rattle.std.proofs.Common.{arith}
use Rattle.bx_day.specs.Invariant.{stands_accepted}
use Rattle.bx_records.proofs.Counted.{all_counted}
use Rattle.bx_office_world.proofs.last_plans.promised_tally.Goals as goal

pub returns : goal.returns
returns c = all_counted stands_accepted c.args.entries.now c.loop-entry.entry-index c.loop-entry.tally (omega (arith, c.loop-entry-test.false, c.loop-entry.auto.entry-index-end)) c.loop-entry.invariant
