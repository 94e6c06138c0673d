use Rattle.std.proofs.Common.{◌≡◌, ℕ, Bool, Some, false, length}
use Rattle.std.specs.List.{AllByRecursion}
use Rattle.bx_day.specs.Day.{Day, is_back}
use Rattle.bx_day.specs.Passing.{AreBlocked, AreOwn, Passed}
use Rattle.bx_day.specs.Reading.{IsExchange, Seated}
use Rattle.bx_day.specs.Slots.{slot_at}
use Rattle.bx_day.proofs.TouchSlots.{with_below}
use Rattle.bx_day.proofs.ticking.move_all.Given as goal

abbrev pub invariant-loop-number : goal.invariant-loop-number
invariant-loop-number l = record {
  size : length l.entries ≡ length l.fn.entries;
  seated : AllByRecursion Seated l.entries;
  moved : (d : Day) (done : ℕ → Bool) → d.moment ≡ l.moment → is_back d ≡ l.back → IsExchange d → AreBlocked d l.blocked → AreOwn d l.slots → ((c i : ℕ) → slot_at l.slots c ≡ Some i → done i ≡ false) → Passed l.link d done l.fn.entries l.fn.maintenance l.fn.said → Passed l.link d (with_below d l.slots done l.number) l.entries l.maintenance l.said;
}
