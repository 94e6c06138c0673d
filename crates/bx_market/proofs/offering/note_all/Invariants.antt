use Rattle.std.proofs.Common.{◌≡◌, Bool, false, List, [], length}
use Rattle.bx_day.specs.Day.{Day}
use Rattle.bx_sales.specs.Left.{left_in_service}
use Rattle.bx_sales.specs.Sold.{AreSoldInTurn}
use Rattle.bx_market.specs.Choices.{eligible_marks, IsBestBatch}
use Rattle.bx_market.specs.Choosing.{chosen_rows}
use Rattle.bx_market.specs.Deals.{sold_of}
use Rattle.bx_market.proofs.Noted.{AreNoted}
use Rattle.bx_market.proofs.offering.note_all.Given as goal

abbrev pub invariant-loop-index : goal.invariant-loop-index
invariant-loop-index g l = record {
  len : length l.answers.items ≡ l.index;
  none : l.is_any_sold ≡ false → sold_of l.fn.batch l.answers.items ≡ [];
  noted : (channels : List Bool) (d d1 : Day) → d.moment ≡ l.fn.moment → l.fn.choice.eligible.items ≡ eligible_marks d.moment (length d.entries) l.fn.batch → IsBestBatch (left_in_service channels d) d l.fn.batch l.fn.choice.chosen.items → AreSoldInTurn (left_in_service channels d) (chosen_rows l.fn.batch l.fn.choice.chosen.items) d d1
      → AreNoted g.W.Market.dealt channels l.fn.world l.world d d1 l.fn.tag l.fn.batch l.fn.choice.chosen.items l.answers.items l.index;
}
