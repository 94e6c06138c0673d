use Rattle.std.proofs.Common.{◌≡◌, ℕ, ◌<◌, length}
use Rattle.bx_sales.specs.Selling.{marks_of}
use Rattle.bx_market.specs.LeavingSteps.{IsBehind}
use Rattle.bx_market.specs.Offers.{LeavesSoFar}
use Rattle.bx_market.proofs.leaving.delay_all.Given as goal

abbrev pub invariant-loop-place : goal.invariant-loop-place
invariant-loop-place g l = record {
  moment : l.exchange.moment ≡ l.fn.exchange.moment;
  count : length l.exchange.entries ≡ length l.fn.exchange.entries;
  marks : marks_of l.exchange ≡ marks_of l.fn.exchange;
  none : (i : ℕ) → i < l.place → IsBehind l.fn.channels l.exchange i → ⊥;
  run : LeavesSoFar g.W.Market.dealt l.fn.world l.world l.fn.exchange l.exchange;
}
