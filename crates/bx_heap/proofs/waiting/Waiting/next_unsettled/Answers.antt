use Rattle.std.proofs.Common.{ℕ, Some, length, ap, arith, inl, inr, get_or}
use Rattle.std.specs.BinaryHeap.{heap_items}
use Rattle.bx_heap.proofs.Popping.{popped_there, popped_only, popped_kept, popped_fewer, popped_nearest}
use Rattle.bx_heap.proofs.waiting.Waiting.next_unsettled.Goals as goal

pub bounds-ranks-place : goal.bounds-ranks-place
bounds-ranks-place c =
    let before = heap_items c.loop-place.self.places in
    let after = heap_items c.pop.new.self.places in
    let n = c.in-Some.field-0-0 in
    let place = c.in-Some.place in
    c.requires n place (c.loop-place.invariant.only n place (popped_there before after n place c.in-Some.ensures.rest))

pub returns-then-ranks-place-eq0-clause-kept : goal.returns-then-ranks-place-eq0-clause-kept
returns-then-ranks-place-eq0-clause-kept c = λ m v h u.
    let before = heap_items c.loop-place.self.places in
    let after = heap_items c.pop.new.self.places in
    elim (popped_kept before after c.in-Some.field-0-0 c.in-Some.place c.in-Some.ensures.rest m v (c.loop-place.invariant.kept m v h u)) [
      | inl e ↦ inr (ap Some (ap (λ (x : ℕ × ℕ). x.1) e))
      | inr a ↦ inl a
    ]

pub returns-then-ranks-place-eq0-clause-only : goal.returns-then-ranks-place-eq0-clause-only
returns-then-ranks-place-eq0-clause-only c = λ m v h.
    let before = heap_items c.loop-place.self.places in
    let after = heap_items c.pop.new.self.places in
    c.loop-place.invariant.only m v (popped_only before after c.in-Some.field-0-0 c.in-Some.place c.in-Some.ensures.rest m v h)

pub returns-then-ranks-place-eq0-clause-nearest : goal.returns-then-ranks-place-eq0-clause-nearest
returns-then-ranks-place-eq0-clause-nearest c =
    let before = heap_items c.loop-place.self.places in
    let after = heap_items c.pop.new.self.places in
    let n = c.in-Some.field-0-0 in
    let place = c.in-Some.place in
    let rest = c.in-Some.ensures.rest in
    (n, c.loop-place.invariant.only n place (popped_there before after n place rest), omega arith, λ m v h u. popped_nearest before after n place rest c.in-Some.ensures.nearest m v (c.loop-place.invariant.kept m v h u))

pub loop-place-smaller : goal.loop-place-smaller
loop-place-smaller c =
    popped_fewer (heap_items c.loop-place.self.places) (heap_items c.pop.new.self.places) c.in-Some.field-0-0 c.in-Some.place c.in-Some.ensures.rest

pub loop-place-preserved : goal.loop-place-preserved
loop-place-preserved c =
    let before = heap_items c.loop-place.self.places in
    let after = heap_items c.pop.new.self.places in
    let n = c.in-Some.field-0-0 in
    let place = c.in-Some.place in
    let rest = c.in-Some.ensures.rest in
    record {
      kept = λ m v h u. elim (popped_kept before after n place rest m v (c.loop-place.invariant.kept m v h u)) [
        | inl e ↦ (let is = ap (λ (x : ℕ × ℕ). get_or c.args.ranks.now x.1 0) e in absurd (omega (arith, is, u)))
        | inr a ↦ a
      ];
      only = λ m v h. c.loop-place.invariant.only m v (popped_only before after n place rest m v h);
    }

pub returns-clause-kept : goal.returns-clause-kept
returns-clause-kept c = λ m v h u.
    let there = c.loop-place.invariant.kept m v h u in
    absurd (omega (arith, there.1, ap (length {A = ℕ × ℕ}) c.in_default.ensures.none.0))

pub returns-clause-only : goal.returns-clause-only
returns-clause-only c = λ m v h. absurd (omega (arith, h.1, ap (length {A = ℕ × ℕ}) c.in_default.ensures.none.1))
