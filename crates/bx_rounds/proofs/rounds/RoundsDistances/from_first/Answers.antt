use Rattle.std.proofs.Common.{◌≡◌, ℕ, ◌<◌, List, ◌++◌, length, take, drop, ℤ, sym, ◌∙◌, ap, subst, arith}
use Rattle.std.proofs.Math.Seq.{take-append_seam}
use Rattle.std.proofs.lemmas.List.{get_or_default}
use Rattle.bx_dist.specs.declared.step.Step.{Step}
use Rattle.bx_dist.specs.declared.step.Step.TheVariants.{Idle}
use Rattle.std.proofs.lemmas.List.Elements.{Contains-get_or}
use Rattle.bx_dist.specs.Walks.{AreDistances, lengths_of}
use Rattle.bx_dist.specs.Search.{IsStep}
use Rattle.bx_dist.proofs.Bounds.{zeros_are_bounds}
use Rattle.bx_rounds.specs.Rounds.{IsNextOnCircle}
use Rattle.bx_rounds.proofs.Passes.{less_after_pass, work_left}
use Rattle.bx_rounds.proofs.Rounding.{excess, are_steps, medium, settled_reaches, found_distances, found_small}
use Rattle.bx_rounds.proofs.RoundSteps.{IsRound, step_at, round_first, round_changed, less_changed, round_same, all_settled}
use Rattle.bx_rounds.proofs.rounds.RoundsDistances.from_first.Goals as goal
use Rattle.bx_rounds.proofs.rounds.RoundsDistances.from_first.Goals.{After-next_in-at, then-shorten, else-shorten}

whole : (new old : List ℤ) (n : ℕ) → n ≡ length new → take n (new ++ drop (length new) old) ≡ new
whole new old n e = rw e (take-append_seam new (drop (length new) old))

same_parts : (l m : List ℤ) (v w : List Step) → l ≡ m → v ≡ w → lengths_of l v ≡ lengths_of m w
same_parts l m v w p q = cc

pub loop-settled-init : goal.loop-settled-init
loop-settled-init c =
    rw (c.in_ok-lengths.ensures.items_if_clones_equal (λ y h. h), c.places.ensures.count) (round_first c.args.part c.args.line.now c.args.carried.now c.places.ensures.limits c.in_ok-steps.steps.items c.in_ok-steps.ensures _ (zeros_are_bounds c.args.part c.args.line.now c.args.carried.now))

pub index-requires : goal.index-requires
index-requires c = omega (arith, c.loop-settled.invariant.within (omega (arith, c.in_ok-steps.steps.ok)), c.in_ok-steps.steps.ok)

pub shorten-requires-clause-step : goal.shorten-requires-clause-step
shorten-requires-clause-step c =
    let steps = c.in_ok-steps.steps.items in
    let here = c.loop-settled.invariant.within (omega (arith, c.in_ok-steps.steps.ok)) in
    let step_is : c.index.result.now ≡ step_at steps c.loop-settled.at = c.index.ensures ∙ get_or_default steps c.loop-settled.at c.index.result.now (Idle 0) here in
    subst (IsStep c.args.line.now) (sym step_is) (are_steps c.args.part c.args.line.now c.args.carried.now c.places.ensures.limits steps c.in_ok-steps.ensures (step_at steps c.loop-settled.at) (Contains-get_or steps c.loop-settled.at (Idle 0) here))

pub shorten-requires-clause-one_each : goal.shorten-requires-clause-one_each
shorten-requires-clause-one_each c = ap (length {A = ℤ}) c.deref_mut.ensures.value ∙ c.loop-settled.invariant.bounds.one_each

pub shorten-requires-clause-medium : goal.shorten-requires-clause-medium
shorten-requires-clause-medium c =
    rw c.deref_mut.ensures.value (medium c.args.part c.args.line.now c.args.carried.now c.places.ensures.limits c.loop-settled.lengths.items c.loop-settled.invariant.bounds c.args.potentials.now c.requires.fits c.at-small.ensures.small)

pub next_in-at-requires : goal.next_in-at-requires
next_in-at-requires c = omega (arith, c.loop-settled.invariant.within (omega (arith, c.in_ok-steps.steps.ok)), c.in_ok-steps.steps.ok)

-- a turn leaves rounds, and less work
turned : (c : After-next_in-at) → let steps = c.in_ok-steps.steps.items in let l = c.loop-settled in let new = take l.lengths.len (c.shorten.new.lengths ++ drop (length c.shorten.new.lengths) l.lengths.items) in
    IsRound c.args.part c.args.line.now c.args.carried.now steps new c.next_in-at.result c.if-shorten.settled
    × (work_left (excess c.args.line.now c.args.potentials.now new) (length steps) c.if-shorten.settled < work_left (excess c.args.line.now c.args.potentials.now l.lengths.items) (length steps) l.settled)
turned c =
    let steps = c.in_ok-steps.steps.items in
    let lengths = c.loop-settled.lengths.items in
    let new = c.shorten.new.lengths in
    let more : c.loop-settled.settled < length steps = omega (arith, c.in_ok-steps.steps.ok) in
    let here = c.loop-settled.invariant.within (omega arith) in
    let step_is : c.index.result.now ≡ step_at steps c.loop-settled.at = c.index.ensures ∙ get_or_default steps c.loop-settled.at c.index.result.now (Idle 0) here in
    let size : c.len-in-loop-settled.result ≡ length steps = omega (arith, c.in_ok-steps.steps.ok) in
    let is_next = subst (λ (n : ℕ). IsNextOnCircle c.loop-settled.at n c.next_in-at.result) size c.next_in-at.ensures in
    let is_new = whole new lengths c.loop-settled.lengths.len (omega (arith, c.deref_mut.ensures.len, c.loop-settled.lengths.ok)) in
    elim c.if-shorten.branch [
      | then-shorten w ↦ (
          let shorter = rw (c.deref_mut.ensures.value, step_is) at (c.shorten.ensures.shorter w.if-shorten.true) in
          rw (is_new, w.settled-is) (
            round_changed c.args.part c.args.line.now c.args.carried.now c.places.ensures.limits steps c.in_ok-steps.ensures lengths c.loop-settled.at c.loop-settled.settled c.next_in-at.result c.loop-settled.invariant more is_next new shorter,
            less_changed c.args.part c.args.line.now c.args.carried.now c.places.ensures.limits steps c.in_ok-steps.ensures lengths c.loop-settled.at c.loop-settled.settled c.next_in-at.result c.loop-settled.invariant more is_next c.args.potentials.now new c.requires.fits shorter,
          ))
      | else-shorten w ↦ (
          let still = rw (c.deref_mut.ensures.value, step_is) at (c.shorten.ensures.settled w.if-shorten.false) in
          rw (is_new, c.shorten.ensures.unchanged w.if-shorten.false ∙ c.deref_mut.ensures.value, w.settled-is) (
            round_same c.args.part c.args.line.now c.args.carried.now c.places.ensures.limits steps c.in_ok-steps.ensures lengths c.loop-settled.at c.loop-settled.settled c.next_in-at.result c.loop-settled.invariant more is_next still,
            less_after_pass (excess c.args.line.now c.args.potentials.now lengths) (length steps) c.loop-settled.settled more,
          ))
    ]

pub loop-settled-smaller : goal.loop-settled-smaller
loop-settled-smaller c = (turned c).1

pub loop-settled-preserved : goal.loop-settled-preserved
loop-settled-preserved c = (turned c).0

pub least_walk-requires-clause-steps : goal.least_walk-requires-clause-steps
least_walk-requires-clause-steps c =
    rw c.deref.ensures.value (are_steps c.args.part c.args.line.now c.args.carried.now c.places.ensures.limits c.in_ok-steps.steps.items c.in_ok-steps.ensures)

pub least_walk-requires-clause-one_each : goal.least_walk-requires-clause-one_each
least_walk-requires-clause-one_each c = ap (length {A = ℤ}) c.deref-2.ensures.value ∙ c.loop-settled.invariant.bounds.one_each

pub least_walk-requires-clause-medium : goal.least_walk-requires-clause-medium
least_walk-requires-clause-medium c =
    rw c.deref-2.ensures.value (medium c.args.part c.args.line.now c.args.carried.now c.places.ensures.limits c.loop-settled.lengths.items c.loop-settled.invariant.bounds c.args.potentials.now c.requires.fits c.at-small.ensures.small)

pub least_walk-requires-clause-there : goal.least_walk-requires-clause-there
least_walk-requires-clause-there c =
    let steps = c.in_ok-steps.steps.items in
    let settled = all_settled c.args.part c.args.line.now c.args.carried.now c.places.ensures.limits steps c.in_ok-steps.ensures c.loop-settled.lengths.items c.loop-settled.at c.loop-settled.settled c.loop-settled.invariant (omega (arith, c.in_ok-steps.steps.ok)) in
    rw (c.deref.ensures.value, c.deref-2.ensures.value) (settled_reaches c.args.part c.args.line.now c.args.carried.now c.places.ensures.limits steps c.in_ok-steps.ensures c.requires.moment c.loop-settled.lengths.items c.loop-settled.invariant.bounds settled)

pub new-requires : goal.new-requires
new-requires c =
    let steps = c.in_ok-steps.steps.items in
    let lengths = c.loop-settled.lengths.items in
    let settled = all_settled c.args.part c.args.line.now c.args.carried.now c.places.ensures.limits steps c.in_ok-steps.ensures lengths c.loop-settled.at c.loop-settled.settled c.loop-settled.invariant (omega (arith, c.in_ok-steps.steps.ok)) in
    let found = rw (c.deref.ensures.value, c.deref-2.ensures.value) at c.in_ok-walk.ensures in
    found_small c.args.part c.args.line.now c.args.carried.now c.places.ensures.limits steps c.in_ok-steps.ensures c.requires.moment lengths c.loop-settled.invariant.bounds settled c.in_ok-walk.walk.items found

pub returns : goal.returns
returns c =
    let steps = c.in_ok-steps.steps.items in
    let lengths = c.loop-settled.lengths.items in
    let settled = all_settled c.args.part c.args.line.now c.args.carried.now c.places.ensures.limits steps c.in_ok-steps.ensures lengths c.loop-settled.at c.loop-settled.settled c.loop-settled.invariant (omega (arith, c.in_ok-steps.steps.ok)) in
    let found = rw (c.deref.ensures.value, c.deref-2.ensures.value) at c.in_ok-walk.ensures in
    let distances = found_distances c.args.part c.args.line.now c.args.carried.now c.places.ensures.limits steps c.in_ok-steps.ensures c.requires.moment lengths c.loop-settled.invariant.bounds settled c.in_ok-walk.walk.items found in
    subst (AreDistances c.args.part c.args.line.now c.args.carried.now) (same_parts lengths c.new.result.lengths c.in_ok-walk.walk.items c.new.result.walk (sym c.new.ensures.lengths) (sym c.new.ensures.walk)) distances
