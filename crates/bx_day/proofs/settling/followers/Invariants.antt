use Rattle.std.proofs.Common.{◌≡◌, ◌<◌, ℕ, length}
use Rattle.bx_day.specs.Slots.{slot_at}
use Rattle.bx_day.specs.SlotSteps.{follower}
use Rattle.bx_day.proofs.settling.followers.Given as goal

abbrev pub invariant-loop-number : goal.invariant-loop-number
invariant-loop-number l = record {
  size : length l.second ≡ 32;
  done : (c : ℕ) → c < l.number → slot_at l.second c ≡ follower l.following (slot_at l.waiting c);
}
