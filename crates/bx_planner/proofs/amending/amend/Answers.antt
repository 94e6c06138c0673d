use Rattle.std.proofs.lemmas.Grind.{common_steps}
use Rattle.std.proofs.Common.{rules, ◌≡◌, ℕ, ◌+◌, ap, arith, List, length, Some, refl, subst, sym}
use Rattle.bx_base.specs.Bookings.{Row, IsLawful}
use Rattle.bx_base.specs.Extending.{Extends}
use Rattle.bx_base.specs.PlanParts.{parts_of}
use Rattle.bx_base.specs.Plans.{is_accepted}
use Rattle.bx_planner.specs.Amending.{IsBestPlan}
use Rattle.bx_planner.specs.Musts.{IsTooManyMust}
use Rattle.bx_planner.proofs.Amended.{keeps, length_amended}
use Rattle.bx_planner.proofs.Chosen.{room_from_none}
use Rattle.bx_planner.proofs.Extending.{amended_extends}
use Rattle.bx_planner.proofs.amending.amend.Goals as goal

pub returns-in-Some-clause-musts : goal.returns-in-Some-clause-musts
returns-in-Some-clause-musts c =
    let all = c.of-demand.ensures in
    λ t. (
      λ e. let same : c.in-Some.moment ≡ t = cc in (omega arith, subst (λ (rows : List Row). IsTooManyMust rows c.args.plan.now.channels t) all ((c.in-Some.ensures t).0 (ap (λ (x : ℕ). Some x) same))),
      λ h. let found = (c.in-Some.ensures t).1 (subst (λ (rows : List Row). IsTooManyMust rows c.args.plan.now.channels t) (sym all) h.1) in let same : c.in-Some.moment ≡ t = cc in rw same refl,
    )

pub planned_anew-requires-clause-room : goal.planned_anew-requires-clause-room
planned_anew-requires-clause-room c = λ s. room_from_none c.of-demand.result c.args.plan.now.channels (λ t h. let found = (c.in_default.ensures t).1 h in cc) (s + 1) s (omega arith)

pub planned_anew-requires-clause-few : goal.planned_anew-requires-clause-few
planned_anew-requires-clause-few c = let n = length_amended c.args.plan.now.bookings c.args.plan.now.assigned.items c.args.more.now in let e = ap (λ (rows : List Row). length rows) c.of-demand.ensures in omega (arith, n, e)

pub returns-in-Ok-clause-kept : goal.returns-in-Ok-clause-kept
returns-in-Ok-clause-kept c =
    let all = c.of-demand.ensures in
    keeps c.args.plan.now.bookings c.args.plan.now.assigned.items c.args.more.now c.args.plan.now.channels c.in-Ok.amended.assigned.items (subst (λ (rows : List Row). IsLawful rows c.args.plan.now.channels (is_accepted c.in-Ok.amended.assigned.items)) all c.in-Ok.ensures.planned.lawful)

pub returns-then-len-gt-MAX_BOOKINGS-clause-fail : goal.returns-then-len-gt-MAX_BOOKINGS-clause-fail
returns-then-len-gt-MAX_BOOKINGS-clause-fail c = let n = length_amended c.args.plan.now.bookings c.args.plan.now.assigned.items c.args.more.now in omega (arith, n)

pub returns-in-Some-clause-fail : goal.returns-in-Some-clause-fail
returns-in-Some-clause-fail c =
    let all = c.of-demand.ensures in
    subst (λ (rows : List Row). IsTooManyMust rows c.args.plan.now.channels c.in-Some.moment) all ((c.in-Some.ensures c.in-Some.moment).0 refl)

pub returns-in-Some-clause-full : goal.returns-in-Some-clause-full
returns-in-Some-clause-full c = grind (arith, common_steps) steps 60000

pub returns-in-Ok-clause-full : goal.returns-in-Ok-clause-full
returns-in-Ok-clause-full c = search rules steps 400000

pub returns-in-Err-clause-full : goal.returns-in-Err-clause-full
returns-in-Err-clause-full c = grind (arith, common_steps) steps 60000

pub returns-in-Ok-clause-extended : goal.returns-in-Ok-clause-extended
returns-in-Ok-clause-extended c m before starts =
    let plan = c.args.plan.now in
    let p = c.in-Ok.amended in
    let whole = subst (λ (rows : List Row). IsBestPlan rows plan.channels (parts_of p)) c.of-demand.ensures c.in-Ok.ensures.planned in
    let kept = keeps plan.bookings plan.assigned.items c.args.more.now plan.channels p.assigned.items whole.lawful in
    subst (λ (rows : List Row). Extends m plan.bookings plan.assigned.items rows p.assigned.items) (sym whole.bookings)
    (amended_extends m plan.bookings c.args.more.now plan.channels plan.assigned.items p.assigned.items c.len.ensures.bookings before whole.first_fit whole.carried kept starts)
