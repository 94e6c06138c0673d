use Rattle.std.proofs.Common.{arith, option_copied}
use Rattle.bx_day_chart.specs.Outages.{no_outage, outage_of}
use Rattle.bx_day_chart.proofs.Lists.{one_read, all_added}
use Rattle.bx_day_chart.proofs.outages.add_outages.Goals as goal

pub loop-outage-preserved : goal.loop-outage-preserved
loop-outage-preserved c = one_read (outage_of (option_copied c.args.clock) c.args.high) c.args.outages.now c.loop-outage.outage-index no_outage c.loop-outage.picture.text.items c.add_outage.new.picture.text.items _
    (omega (arith, c.loop-outage-test.true, c.loop-outage.auto.outage-index-end)) c.in_ok-add_outage.ensures c.loop-outage.invariant

pub returns : goal.returns
returns c = all_added (outage_of (option_copied c.args.clock) c.args.high) c.args.outages.now c.loop-outage.outage-index c.loop-outage.picture.text.items _ (omega (arith, c.loop-outage-test.false, c.loop-outage.auto.outage-index-end)) c.loop-outage.invariant
