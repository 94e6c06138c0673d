use Rattle.std.proofs.Common.{arith}
use Rattle.bx_text.proofs.MemberSteps.{member_added, members_whole}
use Rattle.bx_text.proofs.lines.add_members.Goals as goal

pub loop-number-preserved : goal.loop-number-preserved
loop-number-preserved c = record {
  room = omega (arith, c.add_member.ensures.len, c.loop-number.invariant.room);
  text = member_added c.args.channels.now c.loop-number.number c.args.line.now.items c.loop-number.line.items c.add_member.new.line.items (omega (arith, c.count-count.ensures.set.slots, c.loop-number-test.true)) c.loop-number.invariant.text c.add_member.ensures.items;
}

pub returns-clause-items : goal.returns-clause-items
returns-clause-items c = members_whole c.args.channels.now c.loop-number.number c.args.line.now.items c.loop-number.line.items (omega (arith, c.count-count.ensures.set.slots, c.loop-number-test.false)) c.loop-number.invariant.text
