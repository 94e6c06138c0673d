use Rattle.std.proofs.Common.{◌-◌, List, sym, ◌∙◌, ap, subst, arith}
use Rattle.bx_line.specs.Network.{places_of}
use Rattle.bx_dist.specs.declared.part.Part.TheVariants.{Whole}
use Rattle.bx_dist.specs.declared.step.Step.{Step}
use Rattle.bx_dist.specs.Tight.{AreSteps}
use Rattle.bx_dist.specs.Walks.{Lengths, IsWalk}
use Rattle.bx_dist.specs.Inside.{IsSimple}
use Rattle.bx_dist.proofs.Simple.{simple_from_pairs, pairs_from_simple}
use Rattle.bx_dist.proofs.WalkTests.{walk_named}
use Rattle.bx_dist.proofs.dist.Dist.belongs_to.Goals as goal

pub is_simple-requires : goal.is_simple-requires
is_simple-requires c =
    let leads = subst (λ (w : List Step). IsWalk Whole c.args.line.now c.args.carried.now 0 (places_of c.args.line.now - 1) w) c.deref.ensures.value (c.leads.ensures.0 c.if-not-leads.false) in
    subst (AreSteps c.args.line.now) (sym c.deref-2.ensures.value) (walk_named Whole c.args.line.now c.args.carried.now 0 (places_of c.args.line.now - 1) c.self.inside.walk.items leads)

pub returns : goal.returns
returns c =
    let walk_is = ap (λ (d : Lengths). d.walk) c.self.view_is in
    let leads = subst (λ (w : List Step). IsWalk Whole c.args.line.now c.args.carried.now 0 (places_of c.args.line.now - 1) w) (c.deref.ensures.value ∙ walk_is) (c.leads.ensures.0 c.if-not-leads.false) in
    let simple_is = c.deref-2.ensures.value ∙ walk_is in (
      λ t. record {
        some_place = omega arith;
        leads = leads;
        once = pairs_from_simple c.args.line.now 0 c.args.self.now.walk (subst (IsSimple c.args.line.now 0) simple_is (c.is_simple.ensures.0 t));
      },
      λ p. c.is_simple.ensures.1 (subst (IsSimple c.args.line.now 0) (sym simple_is) (simple_from_pairs c.args.line.now 0 c.args.self.now.walk p.once)),
    )
