use Rattle.std.proofs.Common.{arith}
use Rattle.bx_office_world.specs.Tallies.{is_such}
use Rattle.bx_records.proofs.Counted.{all_counted}
use Rattle.bx_office_world.proofs.tallies.tally_of.Goals as goal

pub returns : goal.returns
returns c = all_counted (is_such c.args.became) c.args.entries.now c.loop-entry.entry-index c.loop-entry.tally (omega (arith, c.loop-entry-test.false, c.loop-entry.auto.entry-index-end)) c.loop-entry.invariant
