use Rattle.std.proofs.Common.{◌≡◌, sym, ap, ◌∙◌, subst, List, Option, ℕ, inl, inr, rules}
use Rattle.bx_base.specs.Bookings.{Row}
use Rattle.bx_base.specs.PlanParts.{parts_of}
use Rattle.bx_day.specs.declared.entry.Entry.{Entry}
use Rattle.bx_planner.proofs.Proved.{proved_plan}
use Rattle.bx_planner.specs.Musts.{IsTooManyMust}
use Rattle.bx_planner.specs.Proved.{IsProved}
use Rattle.bx_office_world.specs.LastPlans.{last_plan_rows, TakesRefused, IsHeldAs}
use Rattle.bx_office_world.proofs.last_plans.last_plan.Goals as goal

pub returns-in-Err-TooManyMust-clause-none : goal.returns-in-Err-TooManyMust-clause-none
returns-in-Err-TooManyMust-clause-none c =
    let moment = c.in-Err-TooManyMust.moment in
    let rows : c.in-Ok.rows ≡ last_plan_rows c.args.exchange.now.entries = c.in-Ok.ensures ∙ ap last_plan_rows c.entries.ensures in
    subst (λ (t : ℕ). IsTooManyMust (last_plan_rows c.args.exchange.now.entries) c.args.channels t) (sym c.in-Err-TooManyMust.moment-is)
    (subst (λ (rs : List Row). IsTooManyMust rs c.args.channels moment) rows ((c.in-Err-TooManyMust.ensures.musts moment).0 (search rules steps 1000000)))

pub returns-then-not-takes_refused-clause-plan : goal.returns-then-not-takes_refused-clause-plan
returns-then-not-takes_refused-clause-plan c =
    let d = c.args.exchange.now in
    let best = c.in-Ok-plan.best in
    let e = c.in-Ok-plan.ensures in
    let rows : c.in-Ok.rows ≡ last_plan_rows d.entries = c.in-Ok.ensures ∙ ap last_plan_rows c.entries.ensures in
    let none : ¬ TakesRefused c.entries-2.result.now c.deref.result.now = c.takes_refused.ensures.none (search rules) in
    inl (record {
      proved = subst (λ (rs : List Row). IsProved rs c.args.channels (parts_of best)) rows (proved_plan c.in-Ok.rows c.args.channels (parts_of best) e.bookings e.channels e.carried e.lawful e.total e.prices e.best e.least);
      limits = e.limits;
      rows = e.bookings ∙ rows;
      promised_alone = subst (λ (es : List Entry). ¬ TakesRefused es best.assigned.items) c.entries-2.ensures (subst (λ (a : List (Option ℕ)). ¬ TakesRefused c.entries-2.result.now a) c.deref.ensures.value none);
    })

pub returns-in-Some-clause-plan : goal.returns-in-Some-clause-plan
returns-in-Some-clause-plan c =
    let d = c.args.exchange.now in
    let best = c.in-Ok-plan.best in
    let last = c.in-Some.last in
    let e = c.in-Ok-plan.ensures in
    let rows : c.in-Ok.rows ≡ last_plan_rows d.entries = c.in-Ok.ensures ∙ ap last_plan_rows c.entries.ensures in
    let takes : TakesRefused c.entries-2.result.now c.deref.result.now = c.takes_refused.ensures.taken (search rules) in
    inr (record {
      better = parts_of best;
      proved = subst (λ (rs : List Row). IsProved rs c.args.channels (parts_of best)) rows (proved_plan c.in-Ok.rows c.args.channels (parts_of best) e.bookings e.channels e.carried e.lawful e.total e.prices e.best e.least);
      rows = e.bookings ∙ rows;
      in_service = e.channels;
      takes = subst (λ (es : List Entry). TakesRefused es best.assigned.items) c.entries-2.ensures (subst (λ (a : List (Option ℕ)). TakesRefused c.entries-2.result.now a) c.deref.ensures.value takes);
      held = subst (λ (es : List Entry). IsHeldAs (parts_of best) es (parts_of last)) c.entries-3.ensures c.in-Some.ensures;
    })
