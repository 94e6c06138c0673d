use Rattle.std.proofs.Common.{◌≡◌, drop}
use Rattle.bx_dist.specs.Sending.{after_walk}
use Rattle.bx_dist.specs.Inside.{CanTakeAll}
use Rattle.bx_dist.proofs.carried.Carried.send.Given as goal

abbrev pub invariant-loop-step : goal.invariant-loop-step
invariant-loop-step l =
    record {
      can : CanTakeAll l.self (drop l.step-index l.step-items);
      whole : after_walk l.self (drop l.step-index l.step-items) ≡ after_walk l.initial.self l.step-items;
    }
