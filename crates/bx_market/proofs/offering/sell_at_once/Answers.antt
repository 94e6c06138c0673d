use Rattle.std.proofs.Common.{List, sym, subst, ◌∙◌}
use Rattle.bx_base.specs.Bookings.{Row}
use Rattle.bx_sales.specs.Sold.{AreSoldInTurn}
use Rattle.bx_market.proofs.Noted.{ok_is, bad_is}
use Rattle.bx_market.proofs.offering.sell_at_once.Goals as goal

pub returns-in-Ok-clause-sold : goal.returns-in-Ok-clause-sold
returns-in-Ok-clause-sold c = λ e.
    subst (λ (rows : List Row). AreSoldInTurn c.args.left rows c.args.exchange.now c.sell_all.new.exchange) c.in-Ok.ensures
    (ok_is c.sell_all.result (sym e ∙ c.is_ok.ensures.value) c.sell_all.ensures.sold)

pub returns-in-Ok-clause-kept : goal.returns-in-Ok-clause-kept
returns-in-Ok-clause-kept c = λ e. bad_is c.sell_all.result (sym e ∙ c.is_ok.ensures.value) c.sell_all.ensures.kept
