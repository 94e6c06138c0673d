use Rattle.std.proofs.Common.{◌≡◌, ℕ, ◌∙◌, ap, subst, length, arith}
use Rattle.bx_base.specs.Bookings.{Row}
use Rattle.bx_line.proofs.MomentLemmas.{HasEnds, HasEnds-none, HasEnds-more, HasJustMoments-from_ends}
use Rattle.bx_line.proofs.moments.ends_of.Goals as goal

pub loop-i-init : goal.loop-i-init
loop-i-init c = rw c.new-ends.ensures.items (HasEnds-none c.args.bookings.now)

pub loop-i-preserved : goal.loop-i-preserved
loop-i-preserved c =
    let row = c.nth-booking.ensures.value in
    rw (c.in_ok-push-2.ensures.items, c.in_ok-push.ensures.items) (HasEnds-more c.args.bookings.now c.loop-i.i c.loop-i.ends.items c.start.result c.end.result (omega arith) (c.start.ensures.value ∙ ap (λ (r : Row). r.start) row) (c.end.ensures.value ∙ ap (λ (r : Row). r.end) row) c.loop-i.invariant)

pub returns-clause-just : goal.returns-clause-just
returns-clause-just c =
    let all : c.loop-i.i ≡ length c.args.bookings.now = omega arith in
    HasJustMoments-from_ends c.args.bookings.now c.loop-i.ends.items (subst (λ (n : ℕ). HasEnds c.args.bookings.now n c.loop-i.ends.items) all c.loop-i.invariant)

pub returns-clause-few : goal.returns-clause-few
returns-clause-few c = omega (arith, c.loop-i.invariant.size, c.len-i-end.ensures.bookings.few)
