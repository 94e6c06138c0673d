use Rattle.std.proofs.Common.{◌≡◌, ℕ, List, Bool, refl, sym, subst, ap, ◌∙◌, rules}
use Rattle.bx_market.specs.declared.market.Request.TheVariants.{Cancel}
use Rattle.bx_sales.specs.Amending.{row_numbered}
use Rattle.bx_sales.specs.Changing.{IsCancelled}
use Rattle.bx_sales.specs.Left.{left_in_service}
use Rattle.bx_market.proofs.changing.cancel_one.Goals as goal

pub returns-in-Ok-clause-cancelled : goal.returns-in-Ok-clause-cancelled
returns-in-Ok-clause-cancelled g c =
    let d = c.args.exchange.now in
    let text : c.deref.result.now ≡ c.cancel_line.result.items = search rules in
    let line : row_numbered c.deref.result.now ≡ c.args.row = ap row_numbered text ∙ c.cancel_line.ensures.again in
    c.keep.ensures c.args.channels d c.cancel.new.exchange (Cancel c.args.row) (subst (λ (row : ℕ). IsCancelled (left_in_service c.args.channels d) row d c.cancel.new.exchange) (sym line)
    (subst (λ (left : List Bool). IsCancelled left c.args.row d c.cancel.new.exchange) c.channels_left-left.ensures c.in-Ok.ensures.cancelled)) (refl, line)
