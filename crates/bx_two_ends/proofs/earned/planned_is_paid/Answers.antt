-- What is planned is paid.
use Rattle.std.proofs.Common.{map, List, ℕ, inl, inr}
use Rattle.bx_day.specs.Day.{opening}
use Rattle.bx_two_ends.specs.Earning.{LiveSecond, Linked, events_of}
use Rattle.bx_day.specs.Outages.{live_day_after}
use Rattle.bx_base.specs.Bookings.{row_at}
use Rattle.bx_two_ends.proofs.Paid.{accepted_pay, carried_pay, runs_before}
use Rattle.bx_two_ends.proofs.earned.planned_is_paid.Goals as goal

pub returns-clause-accepted : goal.returns-clause-accepted
returns-clause-accepted c rows channels assigned events b h = accepted_pay rows assigned (live_day_after events (opening rows assigned)) (c.plan_stays.ensures rows channels assigned events b h)

pub returns-clause-carried : goal.returns-clause-carried
returns-clause-carried c rows channels assigned seconds b h few ok s = carried_pay rows assigned (live_day_after (events_of seconds) (opening rows assigned)) (c.plan_stays.ensures rows channels assigned (events_of seconds) b h)
    (λ i lt on. elim (s i lt on) [
      | inl p ↦ (p.1, runs_before (row_at rows i) p.1 p.3.runs, c.planned_is_carried.ensures.carried rows channels assigned seconds i p.0 p.1 p.2 b h few ok p.3)
      | inr more ↦ elim more [
        | inl p ↦ (p.1, p.3.runs, c.planned_is_carried.ensures.called rows channels assigned seconds i p.0 p.1 p.2 b h few (c.planned_is_carried.ensures.cleared seconds (opening rows assigned) ok) p.3)
        | inr p ↦ (p.0, p.2.runs, c.planned_is_carried.ensures.talking rows channels assigned seconds i p.0 p.1 b h few (c.planned_is_carried.ensures.cleared seconds (opening rows assigned) ok) p.2)
      ]
    ])

pub returns-clause-unbroken : goal.returns-clause-unbroken
returns-clause-unbroken c rows channels assigned turns b h few ok s =
    let seconds : List LiveSecond = map (λ (received : List (List ℕ)). Linked received) turns in
    carried_pay rows assigned (live_day_after (events_of seconds) (opening rows assigned)) (c.plan_stays.ensures rows channels assigned (events_of seconds) b h)
    (λ i lt on. (_, (s i lt on).seconds, c.planned_is_carried.ensures.unbroken rows channels assigned turns i b h few ok (s i lt on)))
