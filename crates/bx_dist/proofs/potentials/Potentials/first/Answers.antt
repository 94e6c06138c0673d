use Rattle.std.proofs.Common.{◌≡◌, ◌+◌, ◌-◌, ◌∙◌, ℕ, sym, subst, arith}
use Rattle.bx_dist.specs.Passing.{IsPassed}
use Rattle.bx_dist.specs.Sending.{empty_flow}
use Rattle.bx_dist.specs.Walks.{AreLeast}
use Rattle.bx_dist.specs.declared.part.Part.TheVariants.{Whole}
use Rattle.bx_dist.proofs.Along.{passed_none, passed_bounds, bounds_small, all_passed}
use Rattle.bx_dist.proofs.Lists.{whole}
use Rattle.bx_dist.proofs.potentials.Potentials.first.Goals as goal

pub loop-next-init : goal.loop-next-init
loop-next-init c = rw (c.in_ok-lengths.ensures.items_if_clones_equal (λ y h. h), c.places.ensures.count) (passed_none c.args.line.now)

pub loop-next-preserved : goal.loop-next-preserved
loop-next-preserved c =
    let old = c.loop-next.lengths in
    let new = c.pass.new.lengths in
    let is_new = whole new old.items old.len (omega (arith, c.deref_mut.ensures.len, old.ok)) in
    let place : c.loop-next.next - 1 + 1 ≡ c.loop-next.next + 1 - 1 = omega arith in
    rw is_new (subst (λ (v : ℕ). IsPassed c.args.line.now v new) place c.pass.ensures)

pub new-requires-2 : goal.new-requires-2
new-requires-2 c =
    let limits = c.places.ensures.limits in
    bounds_small c.args.line.now limits c.loop-next.lengths.items (passed_bounds c.args.line.now limits (c.loop-next.next - 1) c.loop-next.lengths.items c.loop-next.invariant)

pub returns : goal.returns
returns c =
    let least = all_passed c.args.line.now c.places.ensures.limits (c.loop-next.next - 1) c.loop-next.lengths.items (omega (arith, c.places-next-end.ensures.count)) c.loop-next.invariant in
    subst (AreLeast Whole c.args.line.now (empty_flow c.args.line.now)) (sym (c.of.ensures ∙ c.new-2.ensures.lengths)) least
