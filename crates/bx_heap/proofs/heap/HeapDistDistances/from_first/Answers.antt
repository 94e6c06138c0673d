use Rattle.std.proofs.Common.{◌≡◌, List, ℤ, sym, subst, arith}
use Rattle.bx_dist.specs.declared.step.Step.{Step}
use Rattle.bx_dist.specs.Walks.{AreDistances, lengths_of}
use Rattle.bx_heap.specs.Searching.{state_from, setting_of, IsSetting}
use Rattle.bx_heap.proofs.Trails.{pointers_at_end, trail_distances, trail_small}
use Rattle.bx_heap.proofs.heap.HeapDistDistances.from_first.Goals as goal

same_parts : (l m : List ℤ) (v w : List Step) → l ≡ m → v ≡ w → lengths_of l v ≡ lengths_of m w
same_parts l m v w p q = cc

pub walk_back-requires : goal.walk_back-requires
walk_back-requires c =
    let s = setting_of c.args.part c.args.line.now c.args.carried.now c.args.potentials.now in
    let setting : IsSetting s = record { limits = c.places.ensures.limits; moment = c.requires.moment; fits = c.requires.fits; small = c.at-small.ensures.small } in
    pointers_at_end s setting (state_from c.loop-front.front) c.loop-front.invariant (omega arith)

pub new-requires-2 : goal.new-requires-2
new-requires-2 c =
    let s = setting_of c.args.part c.args.line.now c.args.carried.now c.args.potentials.now in
    let setting : IsSetting s = record { limits = c.places.ensures.limits; moment = c.requires.moment; fits = c.requires.fits; small = c.at-small.ensures.small } in
    rw c.into_lengths.ensures (trail_small s setting (state_from c.loop-front.front) c.loop-front.invariant (omega arith) c.in_ok-walk.walk.items c.in_ok-walk.ensures)

pub returns : goal.returns
returns c =
    let s = setting_of c.args.part c.args.line.now c.args.carried.now c.args.potentials.now in
    let setting : IsSetting s = record { limits = c.places.ensures.limits; moment = c.requires.moment; fits = c.requires.fits; small = c.at-small.ensures.small } in
    let distances = trail_distances s setting (state_from c.loop-front.front) c.loop-front.invariant (omega arith) c.in_ok-walk.walk.items c.in_ok-walk.ensures in
    subst (AreDistances c.args.part c.args.line.now c.args.carried.now) (same_parts c.loop-front.front.lengths.items c.new-2.result.lengths c.in_ok-walk.walk.items c.new-2.result.walk (sym (rw c.into_lengths.ensures at c.new-2.ensures.lengths)) (sym c.new-2.ensures.walk)) distances
