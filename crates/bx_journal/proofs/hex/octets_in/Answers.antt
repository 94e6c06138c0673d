use Rattle.std.proofs.Common.{arith, sym, ◌∙◌}
use Rattle.bx_journal.proofs.HexSteps.{octet_more, octets_odd}
use Rattle.bx_journal.proofs.hex.octets_in.Goals as goal

pub loop-at-preserved : goal.loop-at-preserved
loop-at-preserved c =
    let digits = c.args.digits.now in
    let lt = c.loop-at-test.true in
    let more = octet_more 65 digits c.loop-at.at lt c.loop-at.octets.items c.in_ok-octet.octet (sym c.octet_of.ensures ∙ c.in_ok-octet.was) in
    record {
      so_far = rw c.push.ensures.items (c.loop-at.invariant.so_far ∙ more);
      room = omega (arith, c.push.ensures.len, c.loop-at.invariant.room);
      within = omega (arith, lt);
    }

pub returns-else-at-digits : goal.returns-else-at-digits
returns-else-at-digits c =
    c.loop-at.invariant.so_far ∙ octets_odd 65 c.args.digits.now c.loop-at.octets.items c.loop-at.at (omega (arith, c.loop-at.invariant.within, c.loop-at-test.false, c.if-at-digits.false))
