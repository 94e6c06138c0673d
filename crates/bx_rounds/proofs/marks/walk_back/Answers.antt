use Rattle.std.proofs.Common.{◌≡◌, ℕ, [], ◌∷◌, reverse, sym, ◌∙◌, ap, subst, arith}
use Rattle.std.proofs.lemmas.List.{get_or_default, reverse-append}
use Rattle.std.specs.List.{Contains}
use Rattle.bx_dist.specs.declared.step.Step.TheVariants.{Idle}
use Rattle.bx_dist.specs.Residual.{step_from}
use Rattle.bx_dist.specs.Tight.{last_step}
use Rattle.bx_rounds.proofs.Marking.{IsBack, back_last, back_more, back_lower, some_place, found_back}
use Rattle.bx_rounds.proofs.marks.walk_back.Goals as goal

pub loop-place-init : goal.loop-place-init
loop-place-init c =
    let m = c.args.marks.now in
    let some = some_place c.args.line.now c.args.steps.now c.args.lengths.now m.ranks.items m.last.items m.count c.requires.places in
    rw (c.new-walk.ensures.items, c.places-place.ensures.count) (back_last c.args.line.now c.args.steps.now c.args.lengths.now m.ranks.items m.last.items m.count c.requires.places some c.requires.reached)

pub index-step-requires : goal.index-step-requires
index-step-requires c = omega (arith, c.requires.places.last_each, c.args.marks.now.last.ok)

pub ends_of-place-requires : goal.ends_of-place-requires
ends_of-place-requires c =
    let step_is : c.index-step.result.now ≡ last_step c.args.marks.now.last.items c.loop-place.place = c.index-step.ensures ∙ get_or_default c.args.marks.now.last.items c.loop-place.place c.index-step.result.now (Idle 0) (omega (arith, c.requires.places.last_each)) in
    c.requires.steps c.index-step.result.now (subst (Contains c.args.steps.now) (sym step_is) (c.requires.places.by c.loop-place.place c.loop-place-test.true c.loop-place.invariant.reached).there)

pub loop-place-preserved : goal.loop-place-preserved
loop-place-preserved c =
    let m = c.args.marks.now in
    let step_is : c.index-step.result.now ≡ last_step m.last.items c.loop-place.place = c.index-step.ensures ∙ get_or_default m.last.items c.loop-place.place c.index-step.result.now (Idle 0) (omega (arith, c.requires.places.last_each)) in
    let from_is = c.ends_of-place.ensures.from ∙ ap (step_from c.args.line.now) step_is in
    let back = back_more c.args.line.now c.args.steps.now c.args.lengths.now m.ranks.items m.last.items m.count c.requires.places c.loop-place.place (reverse c.loop-place.walk.items) c.ends_of-place.result.0 c.loop-place-test.true c.loop-place.invariant from_is c.ends_of-place.ensures.from_within in
    let longer : reverse c.push.new.self.items ≡ c.index-step.result.now ∷ reverse c.loop-place.walk.items = ap reverse c.in_ok-push.ensures.items ∙ reverse-append c.loop-place.walk.items (c.index-step.result.now ∷ []) in
    rw (longer, step_is) back

pub loop-place-smaller : goal.loop-place-smaller
loop-place-smaller c =
    let m = c.args.marks.now in
    let step_is : c.index-step.result.now ≡ last_step m.last.items c.loop-place.place = c.index-step.ensures ∙ get_or_default m.last.items c.loop-place.place c.index-step.result.now (Idle 0) (omega (arith, c.requires.places.last_each)) in
    back_lower c.args.line.now c.args.steps.now c.args.lengths.now m.ranks.items m.last.items m.count c.requires.places c.loop-place.place (reverse c.loop-place.walk.items) c.ends_of-place.result.0 c.loop-place-test.true c.loop-place.invariant (c.ends_of-place.ensures.from ∙ ap (step_from c.args.line.now) step_is)

pub returns : goal.returns
returns c =
    let m = c.args.marks.now in
    let back = subst (λ (v : ℕ). IsBack c.args.line.now c.args.steps.now c.args.lengths.now m.ranks.items v (reverse c.loop-place.walk.items)) c.loop-place-test.false c.loop-place.invariant in
    rw c.reverse.ensures.items (found_back c.args.line.now c.args.steps.now c.args.lengths.now m.ranks.items m.last.items m.count c.requires.places (reverse c.loop-place.walk.items) back)
