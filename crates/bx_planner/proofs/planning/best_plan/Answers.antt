use Rattle.std.proofs.Common.{rules, ℕ, Bool, List, ◌∙◌, ap, subst}
use Rattle.bx_base.specs.Bookings.{pay_of}
use Rattle.bx_base.specs.PlanParts.{parts_of}
use Rattle.bx_base.specs.Plans.{is_accepted}
use Rattle.bx_colour.specs.Colouring.{is_in}
use Rattle.bx_planner.specs.Inside.{IsBestChoice}
use Rattle.bx_planner.proofs.Amended.{accepted_pay, best_plan_of}
use Rattle.bx_planner.proofs.planning.best_plan.Goals as goal

pub returns-clause-planned : goal.returns-clause-planned
returns-clause-planned c =
    let rows = c.args.bookings.now in
    let plan = c.in-Some.plan in
    let marks = c.in_ok-accepted.accepted.items in
    let parts = c.in-Some.ensures.parts in
    let choice = subst (λ (n : ℕ). IsBestChoice rows n marks c.in_ok-accepted.prices.items) c.count.ensures.value c.in_ok-accepted.ensures.best in
    let paid = parts.4 ∙ (c.total_of-total.ensures.total ∙ ap (λ (m : List Bool). pay_of rows (is_in m)) c.deref-2.ensures.value) in
    best_plan_of rows c.args.channels (parts_of plan) (search rules steps 1000000) parts.1 (search rules steps 1000000) (search rules steps 1000000) (search rules steps 1000000)
    (accepted_pay rows (is_accepted plan.assigned.items) (is_in marks) plan.total paid (λ i. rw parts.2 (c.in_ok-assigned.ensures.accepted i ∙ ap (λ (m : List Bool). is_in m i) c.deref.ensures.value)))
    (rw (parts.3, paid) choice.proof) (rw (parts.3, paid) choice.least)
