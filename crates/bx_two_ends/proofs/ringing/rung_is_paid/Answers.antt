-- What is planned is paid, where each call is answered in its own time.
use Rattle.std.proofs.Common.{map, List, ℕ}
use Rattle.bx_day.specs.Day.{opening}
use Rattle.bx_day.specs.Outages.{live_day_after}
use Rattle.bx_two_ends.specs.Earning.{LiveSecond, Linked, events_of}
use Rattle.bx_two_ends.proofs.Paid.{carried_pay}
use Rattle.bx_two_ends.proofs.ringing.rung_is_paid.Goals as goal

pub returns-clause-carried : goal.returns-clause-carried
returns-clause-carried c rows channels assigned within seconds b h few ok s = carried_pay rows assigned (live_day_after (events_of seconds) (opening rows assigned)) (c.plan_stays.ensures rows channels assigned (events_of seconds) b h)
    (λ i lt on. let p = s i lt on in (_, p.4.runs_on, c.rung_is_carried.ensures.carried rows channels assigned within seconds i p.0 p.1 p.2 p.3 b h few ok p.4))

pub returns-clause-unbroken : goal.returns-clause-unbroken
returns-clause-unbroken c rows channels assigned within turns b h few ok s =
    let seconds : List LiveSecond = map (λ (received : List (List ℕ)). Linked received) turns in
    carried_pay rows assigned (live_day_after (events_of seconds) (opening rows assigned)) (c.plan_stays.ensures rows channels assigned (events_of seconds) b h)
    (λ i lt on. (_, (s i lt on).seconds, c.rung_is_carried.ensures.unbroken rows channels assigned within turns i b h few ok (s i lt on)))
