use Rattle.std.proofs.Common.{ℕ, ◌-◌, ◌<◌, List, length, get_or, sym, ◌∙◌, ap, subst, inl, inr, arith}
use Rattle.std.specs.List.{Contains}
use Rattle.std.proofs.lemmas.List.{get_or_default}
use Rattle.std.proofs.lemmas.List.Elements.{Contains-get_or}
use Rattle.bx_line.specs.Network.{places_of}
use Rattle.bx_dist.specs.declared.step.Step.{Step}
use Rattle.bx_dist.specs.declared.step.Step.TheVariants.{Idle}
use Rattle.bx_rounds.specs.declared.marks.Marks.{Marks}
use Rattle.bx_rounds.specs.Rounds.{ExtendsWalk}
use Rattle.bx_rounds.proofs.Passes.{IsPassed, passed_none, passed_all, passed_before, next_within, less_after_change, less_after_pass, work_left}
use Rattle.bx_rounds.proofs.Marking.{all_marked, count_few}
use Rattle.bx_rounds.proofs.marks.least_walk.Goals as goal
use Rattle.bx_rounds.proofs.marks.least_walk.Goals.{then-extend, else-extend}

pub extend-requires-clause-there : goal.extend-requires-clause-there
extend-requires-clause-there c = Contains-get_or c.args.steps.now c.loop-settled.at (Idle 0) (c.loop-settled.invariant.within (omega arith))

pub loop-settled-preserved : goal.loop-settled-preserved
loop-settled-preserved c =
    let size = length c.args.steps.now in
    let here : c.loop-settled.at < size = c.loop-settled.invariant.within (omega arith) in
    let next = c.next_in-at.result in
    elim c.if-extend.branch [
      | then-extend w ↦ record {
        marks = c.extend.ensures.places;
        within = λ _. next_within c.loop-settled.at size next here c.next_in-at.ensures;
        few = omega (arith, w.settled-is);
        passed = λ j b p. absurd (passed_none next size j b (subst (λ (n : ℕ). IsPassed next n size j) w.settled-is p));
      }
      | else-extend w ↦ (
          let same = ap (λ (m : Marks). m.ranks.items) (c.extend.ensures.same w.if-extend.false) in
          let keep = λ (s : Step) (e : ExtendsWalk c.args.line.now c.args.lengths.now c.loop-settled.marks.ranks.items s). subst (λ (r : List ℕ). ExtendsWalk c.args.line.now c.args.lengths.now r s) (sym same) e in
          record {
            marks = c.extend.ensures.places;
            within = λ _. next_within c.loop-settled.at size next here c.next_in-at.ensures;
            few = omega (arith, w.settled-is);
            passed = λ j b p. elim (passed_before c.loop-settled.at c.loop-settled.settled size next j here b c.next_in-at.ensures (subst (λ (n : ℕ). IsPassed next n size j) w.settled-is p)) [
              | inl e ↦ rw e (keep (get_or c.args.steps.now c.loop-settled.at (Idle 0)) (c.extend.ensures.done w.if-extend.false))
              | inr q ↦ keep (get_or c.args.steps.now j (Idle 0)) (c.loop-settled.invariant.passed j b q)
            ];
          })
    ]

pub loop-settled-smaller : goal.loop-settled-smaller
loop-settled-smaller c =
    let size = length c.args.steps.now in
    let places = places_of c.args.line.now in
    let new = c.extend.new.marks in
    let few = count_few c.args.line.now c.args.steps.now c.args.lengths.now new.ranks.items new.last.items new.count c.extend.ensures.places in
    elim c.if-extend.branch [
      | then-extend w ↦ (
          let more = c.extend.ensures.more w.if-extend.true in
          let less = less_after_change (places - c.loop-settled.marks.count) (places - new.count) size c.loop-settled.settled (omega (arith, more, few)) in
          subst (λ (n : ℕ). work_left (places - new.count) size n < work_left (places - c.loop-settled.marks.count) size c.loop-settled.settled) (sym w.settled-is) less)
      | else-extend w ↦ (
          let same = ap (λ (m : Marks). places - m.count) (c.extend.ensures.same w.if-extend.false) in
          let less = less_after_pass (places - c.loop-settled.marks.count) size c.loop-settled.settled c.loop-settled-test.true in
          rw (w.settled-is, same) less)
    ]

pub walk_back-requires-clause-reached : goal.walk_back-requires-clause-reached
walk_back-requires-clause-reached c =
    let m = c.loop-settled.marks in
    let steps = c.args.steps.now in
    let done : (step : Step) → Contains steps step → ExtendsWalk c.args.line.now c.args.lengths.now m.ranks.items step = λ step k.
    (let within = c.loop-settled.invariant.within (omega (arith, k.1)) in
    let here = c.loop-settled.invariant.passed k.0 k.1 (passed_all c.loop-settled.at c.loop-settled.settled (length steps) k.0 within (omega arith)) in
    subst (ExtendsWalk c.args.line.now c.args.lengths.now m.ranks.items) (get_or_default steps k.0 (Idle 0) step k.1 ∙ k.2) here) in
    all_marked c.args.line.now steps c.args.lengths.now m.ranks.items m.last.items m.count c.loop-settled.invariant.marks done 0 (places_of c.args.line.now - 1) c.requires.there.0 c.loop-settled.invariant.marks.first c.requires.there.1
