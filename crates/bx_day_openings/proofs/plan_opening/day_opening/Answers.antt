use Rattle.std.proofs.Common.{ℕ, List, sym, subst}
use Rattle.bx_base.specs.PlanParts.{parts_of}
use Rattle.bx_day_openings.specs.Tied.{IsTiedOf}
use Rattle.bx_day_openings.proofs.Replays.{if_ok}
use Rattle.bx_day_openings.proofs.plan_opening.day_opening.Goals as goal

pub returns-clause-given : goal.returns-clause-given
returns-clause-given g c =
    let gives = g.I.Inputs.gives c.args.inputs.now in
    let tied = c.in_ok-tied.tied in
    if_ok _ _ c.opening_of.result (λ o opened. record {
      plan = parts_of tied.plan;
      tied = subst (λ (d : List ℕ). IsTiedOf gives c.args.name.now (parts_of tied.plan) d) (sym opened.digest) c.in_ok-tied.ensures.given;
      opens = opened.opens;
      in_service = opened.in_service;
    }) c.opening_of.ensures.opened
