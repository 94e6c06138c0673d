use Rattle.std.proofs.Common.{◌≡◌, ℕ, List, Bool, false, sym, subst, rules, arith}
use Rattle.std.proofs.lemmas.Result.{err_from_is_err_and}
use Rattle.bx_planfile.specs.OneBooking.{booking_text}
use Rattle.bx_sales.specs.Tags.{is_tagged, IsReadBack}
use Rattle.bx_market.specs.Offers.{IsSoldWhere}
use Rattle.bx_sales.specs.Left.{left_in_service}
use Rattle.bx_market.proofs.Batches.{sold_is_logged, not_logged, not_sold}
use Rattle.bx_market.proofs.Untagged.{untagged}
use Rattle.bx_market.proofs.offering.note_one.Goals as goal

pub returns-then-not-is_chosen-clause-noted : goal.returns-then-not-is_chosen-clause-noted
returns-then-not-is_chosen-clause-noted g c channels shown d d1 batch sold next =
    not_sold channels g.met.W.Market.dealt_by g.met.W.World.did_nothing c.args.world.now shown d d1 c.args.tag batch sold
    (subst (λ (b : Bool). IsSoldWhere (left_in_service channels d) b c.args.booking d d1) c.if-not-is_chosen.true next)

pub returns-in_err-log-clause-noted : goal.returns-in_err-log-clause-noted
returns-in_err-log-clause-noted g c channels shown d d1 batch sold next =
    let p = err_from_is_err_and c.from_residual.result c.from_residual.ensures.1 in
    rw p.1 (d, not_logged channels g.met.W.Market.dealt_by c.args.world.now c.log.new.self shown d d1 c.args.tag batch sold c.deref-2.result.now c.in_err-log.ensures)

pub returns-clause-noted : goal.returns-clause-noted
returns-clause-noted g c channels shown d d1 batch sold next =
    let text : c.deref.result.now ≡ booking_text c.args.booking = search rules in
    let line : c.deref-2.result.now ≡ c.sale_line-line.result.items = search rules in
    let back = subst (λ (b : List ℕ). is_tagged b ≡ false → IsReadBack c.args.tag b c.sale_line-line.result.items) text c.sale_line-line.ensures.again (untagged c.args.booking (omega (arith, c.start-start.ensures.booking.in_order, c.start-start.ensures.booking.in_day))) in
    sold_is_logged channels g.met.W.Market.dealt_by c.args.world.now c.log.new.self shown d d1 c.args.tag batch sold c.args.booking c.deref-2.result.now c.in_ok-log.ensures
    (subst (IsReadBack c.args.tag (booking_text c.args.booking)) (sym line) back) c.spell_booking.ensures.again
    (subst (λ (b : Bool). IsSoldWhere (left_in_service channels d) b c.args.booking d d1) c.if-not-is_chosen.false next)
