use Rattle.std.proofs.Common.{◌≡◌, false, [], length}
use Rattle.bx_market.specs.Deals.{sold_of}
use Rattle.bx_sales.specs.Left.{left_in_service}
use Rattle.bx_market.specs.Offers.{Asks}
use Rattle.bx_market.specs.Stands.{Filing}
use Rattle.bx_market.proofs.Settled.{AreSettled}
use Rattle.bx_market.proofs.offering.sell_in_turn.Given as goal

abbrev pub invariant-loop-index : goal.invariant-loop-index
invariant-loop-index g l = record {
  len : length l.answers.items ≡ l.index;
  run : Asks g.W.Market.dealt l.fn.channels l.fn.world l.world (Filing l.fn.exchange l.fn.exchange l.fn.tag l.fn.batch []) (Filing l.fn.exchange l.exchange l.fn.tag l.fn.batch (sold_of l.fn.batch l.answers.items));
  none : l.is_any_sold ≡ false → sold_of l.fn.batch l.answers.items ≡ [];
  settled : AreSettled (left_in_service l.fn.channels l.fn.exchange) l.fn.exchange l.fn.batch l.fn.choice.chosen.items l.exchange l.answers.items;
}
