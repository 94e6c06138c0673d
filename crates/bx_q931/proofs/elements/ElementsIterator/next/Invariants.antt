use Rattle.std.proofs.Common.{◌≡◌, IsSome, length}
use Rattle.bx_q931.specs.Items.{all_items}
use Rattle.bx_q931.proofs.PassLemmas.{left}
use Rattle.bx_q931.proofs.elements.ElementsIterator.next.Given as goal

abbrev pub invariant-loop-item : goal.invariant-loop-item
invariant-loop-item l = record {
  whole : IsSome (all_items l.self-inside.rest.now);
  same : left l.self-inside.locked l.self-inside.single l.self-inside.rest.now ≡ l.fn.self;
}

abbrev pub decreases-loop-item : goal.decreases-loop-item
decreases-loop-item l = length l.self-inside.rest.now
