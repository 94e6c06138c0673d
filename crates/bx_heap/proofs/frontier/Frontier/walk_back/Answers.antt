use Rattle.std.proofs.Common.{◌≡◌, ℕ, [], ◌∷◌, reverse, refl, sym, ◌∙◌, ap, subst, arith}
use Rattle.std.proofs.lemmas.List.{get_or_default, reverse-append}
use Rattle.bx_dist.specs.declared.step.Step.TheVariants.{Idle}
use Rattle.bx_dist.specs.Residual.{step_from}
use Rattle.bx_dist.specs.Search.{IsStep}
use Rattle.bx_dist.specs.Tight.{last_step}
use Rattle.bx_heap.specs.Searching.{state_from, IsTrail}
use Rattle.bx_heap.proofs.Trails.{trail_more}
use Rattle.bx_heap.proofs.frontier.Frontier.walk_back.Goals as goal

pub loop-place-init : goal.loop-place-init
loop-place-init c = rw (c.new-walk.ensures.items, c.places-place.ensures.count) (record { within = omega (arith, c.requires.moment); trail = refl })

pub index-step-requires : goal.index-step-requires
index-step-requires c = omega (arith, c.requires.last_each, c.loop-place.invariant.within, c.args.self.now.last.ok)

pub ends_of-place-requires : goal.ends_of-place-requires
ends_of-place-requires c =
    let step_is : c.index-step.result.now ≡ last_step c.args.self.now.last.items c.loop-place.place = c.index-step.ensures ∙ get_or_default c.args.self.now.last.items c.loop-place.place c.index-step.result.now (Idle 0) (omega (arith, c.requires.last_each, c.loop-place.invariant.within)) in
    subst (IsStep c.args.line.now) (sym step_is) (c.requires.step c.loop-place.place c.loop-place-test.true c.loop-place.invariant.within)

pub loop-place-preserved : goal.loop-place-preserved
loop-place-preserved c =
    let st = state_from c.args.self.now in
    let place = c.loop-place.place in
    let step_is : c.index-step.result.now ≡ last_step st.last place = c.index-step.ensures ∙ get_or_default st.last place c.index-step.result.now (Idle 0) (omega (arith, c.requires.last_each, c.loop-place.invariant.within)) in
    let from_is = c.ends_of-place.ensures.from ∙ ap (step_from c.args.line.now) step_is in
    let longer : reverse c.push.new.self.items ≡ c.index-step.result.now ∷ reverse c.loop-place.walk.items = ap reverse c.in_ok-push.ensures.items ∙ reverse-append c.loop-place.walk.items (c.index-step.result.now ∷ []) in
    rw (longer, step_is) (record {
      within = c.ends_of-place.ensures.from_within;
      trail = trail_more c.args.line.now st c.requires place (reverse c.loop-place.walk.items) c.ends_of-place.result.0 c.loop-place-test.true c.loop-place.invariant.within from_is c.loop-place.invariant.trail;
    })

pub loop-place-smaller : goal.loop-place-smaller
loop-place-smaller c =
    let st = state_from c.args.self.now in
    let place = c.loop-place.place in
    let step_is : c.index-step.result.now ≡ last_step st.last place = c.index-step.ensures ∙ get_or_default st.last place c.index-step.result.now (Idle 0) (omega (arith, c.requires.last_each, c.loop-place.invariant.within)) in
    let from_is = c.ends_of-place.ensures.from ∙ ap (step_from c.args.line.now) step_is in
    rw from_is (c.requires.earlier place c.loop-place-test.true c.loop-place.invariant.within)

pub returns : goal.returns
returns c =
    rw c.reverse.ensures.items (subst (λ (v : ℕ). IsTrail c.args.line.now (state_from c.args.self.now) v (reverse c.loop-place.walk.items)) c.loop-place-test.false c.loop-place.invariant.trail)
