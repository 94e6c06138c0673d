-- The plan that a line of the journal makes of the last one: it is carried, and agrees with the day so far.
use Rattle.std.proofs.Common.{◌≡◌, ℕ, Bool, List, map, length, Option, is_some}
use Rattle.bx_base.specs.Bookings.{Row, AreBookings, Carries}
use Rattle.bx_base.specs.Plans.{is_accepted, channel_at}
use Rattle.bx_day.specs.Changed.{changed, AgreesWith}
use Rattle.bx_day.specs.Day.{Day}
use Rattle.bx_events.specs.Events.{LiveEvent}
use Rattle.bx_events.specs.declared.amendment.Amendment.{Amendment}
use Rattle.bx_sales.specs.Amending.{AmendsDay, rows_amended, marks_amended}
use Rattle.bx_sales.specs.Journal.{HasLastPlan}
use Rattle.bx_sales.proofs.Journal.{amended}

-- a plan of these bookings, of which these are accepted, with which the day goes on
pub record IsNextPlan (channels : List Bool) (rows : List Row) (marks : List Bool) (old new : Day) : Type 0 where
  pub bookings : AreBookings rows
  pub assigned : List (Option ℕ)
  pub one_each : length assigned ≡ length rows
  pub accepted : map is_some assigned ≡ marks
  pub carried : Carries rows channels (is_accepted assigned) (channel_at assigned)
  pub agrees : AgreesWith old rows assigned
  pub day : new ≡ changed rows assigned old

pub next_plan : (channels : List Bool) (rows : List Row) (marks : List Bool) (events : List LiveEvent) (row_on : List ℕ → Row) (kind : Amendment) (line : List ℕ) (d d1 : Day) → HasLastPlan channels rows marks events d → AmendsDay channels row_on kind line d d1
    → IsNextPlan channels (rows_amended row_on kind line rows) (marks_amended kind line marks) d d1
next_plan channels rows marks events row_on kind line d d1 p is =
    let a = amended ⊥ channels rows marks events d p row_on kind line d1 is (λ never. absurd never) (λ never. absurd never) in
    let n = a.along.plan in
    record { bookings = n.bookings; assigned = n.last; one_each = n.one_each; accepted = n.accepted; carried = n.carried; agrees = a.agrees; day = a.day }
