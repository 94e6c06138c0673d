-- The channels that the bookings of a day have are those that its plan gives them.
use Rattle.std.proofs.Common.{◌≡◌, ℕ, suc, ◌<◌, Bool, List, [], ◌∷◌, map, length, Option, Some, None, arith, refl, sym, ap, ap₂, ◌∙◌, slice_index_or, if◌then◌else◌}
use Rattle.bx_base.specs.Bookings.{Row, row_at, AreBookings, Carries}
use Rattle.bx_base.specs.Plans.{is_accepted, channel_at}
use Rattle.bx_day.specs.Day.{entry_at, opening}
use Rattle.bx_day.specs.Outages.{live_day_after}
use Rattle.bx_day.specs.declared.entry.Entry.{Entry}
use Rattle.bx_day.proofs.Law.{IsFrame}
use Rattle.bx_events.specs.Events.{LiveEvent}
use Rattle.bx_sales.proofs.PlanDays.{size, frame_at}
use Rattle.bx_audit.specs.DayChannels.{channel_on, channels_on}

given : (e : Entry) (b : Row) (a : Option ℕ) → IsFrame b a e → channel_on e ≡ a
given e b None f = ap (λ (r : Bool). if r then None else Some e.channel) f.accepted
given e b (Some c) f = ap (λ (r : Bool). if r then None else Some e.channel) f.accepted ∙ ap Some f.channel

each_given : (es : List Entry) (assigned : List (Option ℕ)) → length es ≡ length assigned → ((i : ℕ) → i < length assigned → channel_on (entry_at es i) ≡ slice_index_or assigned i None) → map channel_on es ≡ assigned
each_given [] [] count same = refl
each_given [] (a ∷ assigned) count same = absurd (omega (arith, count))
each_given (e ∷ es) [] count same = absurd (omega (arith, count))
each_given (e ∷ es) (a ∷ assigned) count same = ap₂ (λ z zs. z ∷ zs) (same 0 (omega arith)) (each_given es assigned (omega (arith, count)) (λ i lt. same (suc i) (omega (arith, lt))))

pub channels_now : (rows : List Row) (channels : List Bool) (assigned : List (Option ℕ)) (events : List LiveEvent) → length assigned ≡ length rows → AreBookings rows → Carries rows channels (is_accepted assigned) (channel_at assigned) → channels_on (live_day_after events (opening rows assigned)) ≡ assigned
channels_now rows channels assigned events count bookings carries =
    let d = live_day_after events (opening rows assigned) in
    each_given d.entries assigned (size rows channels assigned events bookings carries ∙ sym count) (λ i inside.
    let lt : i < length rows = omega (arith, inside, count) in
    given (entry_at d.entries i) (row_at rows i) (slice_index_or assigned i None) (frame_at rows channels assigned events bookings carries i lt))
