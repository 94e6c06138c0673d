-- A plan that is first fit stays so along the journal that amends it, where no channel is lost: so the channels that the bookings of the day have are those of first fit.
use Rattle.std.proofs.Common.{◌≡◌, ℕ, Bool, List, map, length, Option, is_some, sym, subst, ap, ◌∙◌}
use Rattle.std.proofs.lemmas.List.{length-map}
use Rattle.bx_base.specs.Bookings.{Row, AreBookings, Carries}
use Rattle.bx_base.specs.Plans.{is_accepted, channel_at}
use Rattle.bx_colour.specs.Colouring.{IsFirstFit}
use Rattle.bx_day.specs.Day.{Day, opening}
use Rattle.bx_events.specs.Events.{LiveEvent}
use Rattle.bx_sales.specs.Journal.{rows_after, marks_after, RunsThrough, AreAllLeft}
use Rattle.bx_sales.proofs.Journal.{first_along}
use Rattle.bx_audit.specs.DayChannels.{channels_on}
use Rattle.bx_audit.proofs.GivenChannels.{channels_now}

pub stays_first_fit : (channels : List Bool) (row_on : List ℕ → Row) (rows : List Row) (assigned : List (Option ℕ)) (events : List LiveEvent) (d : Day) → length assigned ≡ length rows → AreBookings rows → Carries rows channels (is_accepted assigned) (channel_at assigned) → IsFirstFit rows channels (map is_some assigned) assigned → RunsThrough channels row_on events (opening rows assigned) d → AreAllLeft channels d
    → IsFirstFit (rows_after row_on events rows) channels (marks_after events (map is_some assigned)) (channels_on d)
stays_first_fit channels row_on rows assigned events d count bookings carries first through all =
    let h = first_along channels row_on rows (map is_some assigned) assigned events d (length-map assigned is_some ∙ count) bookings carries first through all in
    let p = h.plan in
    let rows' = rows_after row_on events rows in
    subst (λ (a : List (Option ℕ)). IsFirstFit rows' channels (marks_after events (map is_some assigned)) a)
    (sym (ap channels_on p.day ∙ channels_now rows' channels p.last events p.one_each p.bookings p.carried)) (h.first_fit tt)
