use Rattle.std.proofs.Common.{arith, option_copied, sym, subst}
use Rattle.std.proofs.lemmas.List.Elements.{All-from_recursion}
use Rattle.bx_day.specs.Reading.{Seated}
use Rattle.bx_day_chart.specs.Calls.{call_at}
use Rattle.bx_day_chart.proofs.Lists.{one_added, all_added}
use Rattle.bx_day_chart.proofs.calls.add_calls.Goals as goal

pub add_call-requires : goal.add_call-requires
add_call-requires c = subst Seated (sym c.entry-item.is) (All-from_recursion Seated c.args.entries.now c.requires c.loop-entry.entry-index c.entry-item.result (omega (arith, c.loop-entry-test.true, c.loop-entry.auto.entry-index-end)))

pub loop-entry-preserved : goal.loop-entry-preserved
loop-entry-preserved c = one_added (call_at (option_copied c.args.clock) c.args.channels.now c.args.now) c.args.entries.now c.loop-entry.entry-index c.entry-item.result c.loop-entry.picture.text.items c.add_call.new.picture.text.items _ c.entry-item.is
    (omega (arith, c.loop-entry-test.true, c.loop-entry.auto.entry-index-end)) c.in_ok-add_call.ensures c.loop-entry.invariant

pub returns : goal.returns
returns c = all_added (call_at (option_copied c.args.clock) c.args.channels.now c.args.now) c.args.entries.now c.loop-entry.entry-index c.loop-entry.picture.text.items _ (omega (arith, c.loop-entry-test.false, c.loop-entry.auto.entry-index-end)) c.loop-entry.invariant
