use Rattle.std.proofs.Common.{◌≡◌, ℕ, List, Bool, refl, sym, subst, ap, ◌∙◌, rules}
use Rattle.bx_base.specs.Bookings.{Row}
use Rattle.bx_planfile.specs.OneBooking.{booking_text, row_on, row_or_none}
use Rattle.bx_market.specs.declared.market.Request.TheVariants.{Change}
use Rattle.bx_sales.specs.Amending.{row_named, behind_row}
use Rattle.bx_sales.specs.Changing.{IsRowChanged}
use Rattle.bx_sales.specs.Left.{left_in_service}
use Rattle.bx_market.proofs.changing.change_one.Goals as goal

pub returns-in-Ok-clause-changed : goal.returns-in-Ok-clause-changed
returns-in-Ok-clause-changed g c =
    let d = c.args.exchange.now in
    let new = c.change.new.exchange in
    let told : c.deref.result.now ≡ booking_text c.args.booking = search rules in
    let line : c.deref-in-Ok.result.now ≡ c.change_line-line.result.items = search rules in
    let row : row_named c.deref-in-Ok.result.now ≡ c.args.row = ap row_named line ∙ c.change_line-line.ensures.row in
    let booking : row_on (behind_row c.deref-in-Ok.result.now) ≡ c.args.booking =
    ap row_on (ap behind_row line ∙ c.change_line-line.ensures.booking ∙ told) ∙ ap row_or_none c.spell_booking.ensures.again in
    c.keep.ensures c.args.channels d new (Change c.args.row c.args.booking)
    (subst (λ (n : ℕ). IsRowChanged (left_in_service c.args.channels d) n (row_on (behind_row c.deref-in-Ok.result.now)) d new) (sym row)
    (subst (λ (b : Row). IsRowChanged (left_in_service c.args.channels d) c.args.row b d new) (sym booking)
    (subst (λ (left : List Bool). IsRowChanged left c.args.row c.args.booking d new) c.channels_left-left.ensures c.in-Ok.ensures.changed)))
    (refl, row, booking)
