use Rattle.std.proofs.Common.{◌≡◌, ℕ, List, Bool, false, sym, subst, rules, arith}
use Rattle.std.proofs.lemmas.Result.{err_from_is_err_and}
use Rattle.bx_planfile.specs.OneBooking.{booking_text}
use Rattle.bx_sales.specs.Tags.{is_tagged, IsReadBack}
use Rattle.bx_sales.specs.Selling.{IsSold}
use Rattle.bx_market.proofs.Batches.{sold_is_logged, not_logged, not_sold}
use Rattle.bx_market.proofs.Untagged.{untagged}
use Rattle.bx_market.proofs.offering.offer.Goals as goal

pub returns-in_err-log-in-Ok-clause-offered : goal.returns-in_err-log-in-Ok-clause-offered
returns-in_err-log-in-Ok-clause-offered g c shown batch sold =
    let p = err_from_is_err_and c.from_residual.result c.from_residual.ensures.1 in
    rw p.1 (c.args.exchange.now, not_logged c.args.channels g.met.W.Market.dealt_by c.args.world.now c.log.new.self shown c.args.exchange.now c.sell.new.exchange c.args.tag batch sold c.deref-in-Ok.result.now c.in_err-log-in-Ok.ensures)

pub returns-in_ok-log-in-Ok-clause-offered : goal.returns-in_ok-log-in-Ok-clause-offered
returns-in_ok-log-in-Ok-clause-offered g c shown batch sold =
    let text : c.deref.result.now ≡ booking_text c.args.booking = search rules in
    let line : c.deref-in-Ok.result.now ≡ c.sale_line-line.result.items = search rules in
    let back = subst (λ (b : List ℕ). is_tagged b ≡ false → IsReadBack c.args.tag b c.sale_line-line.result.items) text c.sale_line-line.ensures.again (untagged c.args.booking (omega (arith, c.start-start.ensures.booking.in_order, c.start-start.ensures.booking.in_day))) in
    sold_is_logged c.args.channels g.met.W.Market.dealt_by c.args.world.now c.log.new.self shown c.args.exchange.now c.sell.new.exchange c.args.tag batch sold c.args.booking c.deref-in-Ok.result.now c.in_ok-log-in-Ok.ensures
    (subst (IsReadBack c.args.tag (booking_text c.args.booking)) (sym line) back) c.spell_booking.ensures.again
    (subst (λ (left : List Bool). IsSold left c.args.booking c.args.exchange.now c.sell.new.exchange) c.channels_left-left.ensures c.in-Ok.ensures.sold)

pub returns-in-Err-clause-offered : goal.returns-in-Err-clause-offered
returns-in-Err-clause-offered g c shown batch sold = not_sold c.args.channels g.met.W.Market.dealt_by g.met.W.World.did_nothing c.args.world.now shown c.args.exchange.now c.sell.new.exchange c.args.tag batch sold c.in-Err.ensures.kept
