use Rattle.std.proofs.Common.{◌≡◌, ℕ, ◌+◌, ap, arith, List, Some, refl, subst, sym}
use Rattle.bx_base.specs.Bookings.{Row}
use Rattle.bx_planner.specs.Musts.{IsTooManyMust}
use Rattle.bx_planner.proofs.Chosen.{room_from_none}
use Rattle.bx_planner.proofs.planning.plan.Goals as goal

pub returns-in-Some-clause-musts : goal.returns-in-Some-clause-musts
returns-in-Some-clause-musts c = λ t. (
  λ e. let same : c.in-Some.moment ≡ t = cc in subst (λ (rows : List Row). IsTooManyMust rows c.args.channels t) c.fresh.ensures ((c.in-Some.ensures t).0 (ap (λ (x : ℕ). Some x) same)),
  λ h. let found = (c.in-Some.ensures t).1 (subst (λ (rows : List Row). IsTooManyMust rows c.args.channels t) (sym c.fresh.ensures) h) in let same : c.in-Some.moment ≡ t = cc in rw same refl,
)

pub best_plan-requires : goal.best_plan-requires
best_plan-requires c = λ s. room_from_none c.args.bookings.now c.args.channels (λ t h. let found = (c.in_default.ensures t).1 (subst (λ (rows : List Row). IsTooManyMust rows c.args.channels t) (sym c.fresh.ensures) h) in cc) (s + 1) s (omega arith)

pub returns-in-Ok-clause-musts : goal.returns-in-Ok-clause-musts
returns-in-Ok-clause-musts c = λ t. (
  λ e. absurd (cc),
  λ h. let found = (c.in_default.ensures t).1 (subst (λ (rows : List Row). IsTooManyMust rows c.args.channels t) (sym c.fresh.ensures) h) in absurd (cc),
)

pub returns-in-Err-clause-musts : goal.returns-in-Err-clause-musts
returns-in-Err-clause-musts c = λ t. (
  λ e. absurd (cc),
  λ h. let found = (c.in_default.ensures t).1 (subst (λ (rows : List Row). IsTooManyMust rows c.args.channels t) (sym c.fresh.ensures) h) in absurd (cc),
)

pub returns-in-Ok-clause-best : goal.returns-in-Ok-clause-best
returns-in-Ok-clause-best c = c.in-Ok.ensures.planned.best

pub returns-in-Ok-clause-least : goal.returns-in-Ok-clause-least
returns-in-Ok-clause-least c = c.in-Ok.ensures.planned.least
