-- The day of a plan that changes is the day of its last plan over the same events.
use Rattle.std.proofs.Common.{◌≡◌, ℕ, Bool, List, [], ◌∷◌, ◌++◌, Option, refl, sym, subst, ap, ◌∙◌}
use Rattle.bx_base.specs.Bookings.{Row, AreBookings, Carries}
use Rattle.bx_base.specs.Plans.{is_accepted, channel_at}
use Rattle.bx_events.specs.Events.{LiveEvent}
use Rattle.bx_day.specs.Changed.{changed, AgreesWith}
use Rattle.bx_day.specs.Day.{Day, opening}
use Rattle.bx_day.specs.Outages.{live_happens, live_day_after}
use Rattle.bx_day.proofs.ChangedPlan.{changed_day}
use Rattle.bx_sales.specs.Changes.{ChangeStep, Happened, Changed, changed_day_after, events_of_changes, rows_at_last, assigned_at_last, AreChanges}
use Rattle.bx_sales.proofs.Places.{nothing_more, joined}

pub one_more : (events : List LiveEvent) (event : LiveEvent) (d : Day) → (live_happens (live_day_after events d) event).day ≡ live_day_after (events ++ event ∷ []) d
one_more [] event d = refl
one_more (e ∷ events) event d = one_more events event (live_happens d e).day

-- the day so far is that of this plan, over these events
pub changes_day : (channels : List Bool) (steps : List ChangeStep) (rows : List Row) (assigned : List (Option ℕ)) (events : List LiveEvent) (d : Day) → AreBookings rows → d ≡ live_day_after events (opening rows assigned) → AreChanges channels steps d → changed_day_after steps d ≡ live_day_after (events ++ events_of_changes steps) (opening (rows_at_last rows steps) (assigned_at_last assigned steps))
changes_day channels [] rows assigned events d bookings is changes = is ∙ ap (λ xs. live_day_after xs (opening rows assigned)) (sym (nothing_more events))
changes_day channels (Happened event ∷ steps) rows assigned events d bookings is changes =
    changes_day channels steps rows assigned (events ++ event ∷ []) (live_happens d event).day bookings (ap (λ (x : Day). (live_happens x event).day) is ∙ one_more events event (opening rows assigned)) changes
    ∙ ap (λ xs. live_day_after xs (opening (rows_at_last rows steps) (assigned_at_last assigned steps))) (joined events (events_of_changes steps) event)
changes_day channels (Changed rows' assigned' ∷ steps) rows assigned events d bookings is changes =
    let change = changes.0 in
    changes_day channels steps rows' assigned' events (changed rows' assigned' d) change.bookings
    (ap (changed rows' assigned') is ∙ sym (changed_day rows assigned rows' assigned' events bookings change.bookings (subst (λ (x : Day). AgreesWith x rows' assigned') is change.agrees))) changes.1

pub changes_bookings : (channels : List Bool) (steps : List ChangeStep) (rows : List Row) (assigned : List (Option ℕ)) (d : Day) → AreBookings rows → AreChanges channels steps d → AreBookings (rows_at_last rows steps)
changes_bookings channels [] rows assigned d bookings changes = bookings
changes_bookings channels (Happened event ∷ steps) rows assigned d bookings changes = changes_bookings channels steps rows assigned (live_happens d event).day bookings changes
changes_bookings channels (Changed rows' assigned' ∷ steps) rows assigned d bookings changes = changes_bookings channels steps rows' assigned' (changed rows' assigned' d) changes.0.bookings changes.1

pub changes_carried : (channels : List Bool) (steps : List ChangeStep) (rows : List Row) (assigned : List (Option ℕ)) (d : Day) → Carries rows channels (is_accepted assigned) (channel_at assigned) → AreChanges channels steps d → Carries (rows_at_last rows steps) channels (is_accepted (assigned_at_last assigned steps)) (channel_at (assigned_at_last assigned steps))
changes_carried channels [] rows assigned d carries changes = carries
changes_carried channels (Happened event ∷ steps) rows assigned d carries changes = changes_carried channels steps rows assigned (live_happens d event).day carries changes
changes_carried channels (Changed rows' assigned' ∷ steps) rows assigned d carries changes = changes_carried channels steps rows' assigned' (changed rows' assigned' d) changes.0.carried changes.1
