use Rattle.std.proofs.Common.{arith}
use Rattle.bx_records.proofs.Joined.{line_more, entries_from, all_lines}
use Rattle.bx_records.proofs.lines.text_of.Goals as goal

pub loop-entry-preserved : goal.loop-entry-preserved
loop-entry-preserved c = line_more c.args.clock c.args.entries.now c.loop-entry.entry-index c.entry-item.result c.loop-entry.text.items c.put_record.new.text.items c.in_ok-put_record.ensures.done.0
    (entries_from c.args.entries.now c.loop-entry.entry-index c.entry-item.result c.entry-item.is (omega (arith, c.loop-entry-test.true, c.loop-entry.auto.entry-index-end)))
    c.in_ok-put_record.ensures.done.1 c.in_ok-put_record.ensures.done.2 c.loop-entry.invariant

pub returns-clause-done : goal.returns-clause-done
returns-clause-done c = all_lines c.args.clock c.args.entries.now c.loop-entry.entry-index c.loop-entry.text.items (omega (arith, c.loop-entry-test.false, c.loop-entry.auto.entry-index-end)) c.loop-entry.invariant
