use Rattle.bx_market.specs.Offers.{LeavesSoFar}
use Rattle.bx_market.proofs.KeptStays.{AreSettledUpTo}
use Rattle.bx_market.proofs.leaving.drop_all.Given as goal

abbrev pub invariant-loop-place : goal.invariant-loop-place
invariant-loop-place g l = record {
  settled : AreSettledUpTo l.fn.chosen l.place l.fn.exchange l.exchange;
  run : LeavesSoFar g.W.Market.dealt l.fn.world l.world l.fn.exchange l.exchange;
}
