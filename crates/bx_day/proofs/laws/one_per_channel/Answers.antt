-- Every day of a run fits: the opening day does, and each event keeps it so.
use Rattle.std.proofs.Common.{ℕ, Bool, List, Option}
use Rattle.bx_base.specs.Bookings.{Row, AreBookings, Carries}
use Rattle.bx_base.specs.Plans.{is_accepted, channel_at}
use Rattle.bx_day.specs.Day.{opening}
use Rattle.bx_events.specs.Events.{LiveEvent}
use Rattle.bx_day.specs.Outages.{live_day_after, none_lost, lost_since}
use Rattle.bx_day.proofs.Law.{RunFits, orderly, live_run, all_on_link, opening_fits, opening_framed, opening_placed}
use Rattle.bx_day.proofs.Clearing.{run_clears, opening_clears, none_after}
use Rattle.bx_day.proofs.Sent.{live_sent}
use Rattle.bx_day.proofs.laws.one_per_channel.Goals as goal

day_fits : (rows : List Row) (channels : List Bool) (assigned : List (Option ℕ)) (events : List LiveEvent) → AreBookings rows → Carries rows channels (is_accepted assigned) (channel_at assigned) → RunFits rows assigned (live_day_after events (opening rows assigned))
day_fits rows channels assigned events b h = live_run rows assigned events (opening rows assigned) (record { day = opening_fits rows channels assigned b h; framed = (opening_framed 1 rows assigned, opening_placed rows assigned) })

pub returns-clause-state : goal.returns-clause-state
returns-clause-state c rows channels assigned events b h = orderly rows assigned (λ m. lost_since m events (opening rows assigned)) _ (day_fits rows channels assigned events b h) (run_clears rows assigned (λ m. none_lost) events (opening rows assigned) (record { day = opening_fits rows channels assigned b h; framed = (opening_framed 1 rows assigned, opening_placed rows assigned) }) (opening_clears rows assigned))

pub returns-clause-sent : goal.returns-clause-sent
returns-clause-sent c rows channels assigned events event b h =
    let f = day_fits rows channels assigned events b h in
    live_sent rows assigned (live_day_after events (opening rows assigned)) event f.framed.1 f.day

pub returns-clause-unbroken : goal.returns-clause-unbroken
returns-clause-unbroken c m events d = none_after m events d

pub returns-clause-linked : goal.returns-clause-linked
returns-clause-linked c events d = all_on_link events d
