-- The day of a plan took over from none.
use Rattle.std.proofs.Common.{◌≡◌, ℕ, Bool, List, length, Option, sym, subst}
use Rattle.bx_base.specs.Bookings.{Row, AreBookings, Carries}
use Rattle.bx_base.specs.Plans.{is_accepted, channel_at}
use Rattle.bx_day.specs.Changed.{AreReferredByRow}
use Rattle.bx_day.specs.Day.{Day, opening}
use Rattle.bx_events.specs.declared.amendment.Amendment.{Amendment}
use Rattle.bx_events.specs.declared.amendment.Amendment.TheVariants.{Sold, Cancelled, Changed, SoldByRulesTwo, Delayed, Dropped, Out}
use Rattle.bx_journal.specs.declared.head.Wanted.{Wanted}
use Rattle.bx_planfile.specs.OneBooking.{row_on}
use Rattle.bx_sales.specs.Journal.{rows_after}
use Rattle.bx_sales.proofs.Journal.{amended_plan}
use Rattle.bx_sales.proofs.PlanDays.{referred_now}
use Rattle.bx_day_openings.specs.Amendments.{IsBadAmendment}
use Rattle.bx_day_openings.specs.Replays.{HasBadAmendment}
use Rattle.bx_day_openings.specs.declared.amending.AmendmentFault.TheVariants.{TookOver}

by_kind : (channels : List Bool) (kind : Amendment) (line : List ℕ) (d : Day) → AreReferredByRow d.entries → IsBadAmendment channels kind line d TookOver → ⊥
by_kind channels Sold line d by_row (row, tells, why) = why by_row
by_kind channels Cancelled line d by_row (row, tells, none) = none
by_kind channels Changed line d by_row (row, b, tells, none) = none
by_kind channels SoldByRulesTwo line d by_row (row, tells, why) = why by_row
by_kind channels Delayed line d by_row (row, b, tells, none) = none
by_kind channels Dropped line d by_row (row, tells, none) = none
by_kind channels Out line d by_row (c, tells, none) = none

pub none_took_over : (channels : List Bool) (wanted : Wanted) (before : Option (List ℕ)) (rows : List Row) (assigned : List (Option ℕ)) → length assigned ≡ length rows → AreBookings rows → Carries rows channels (is_accepted assigned) (channel_at assigned)
    → HasBadAmendment channels wanted before (opening rows assigned) TookOver → ⊥
none_took_over channels wanted before rows assigned count bookings carries bad =
    let a = bad.amendment in
    let p = amended_plan channels row_on rows assigned a.before bad.day count bookings carries bad.through in
    by_kind channels a.kind a.line bad.day
    (subst (λ (d : Day). AreReferredByRow d.entries) (sym p.day) (referred_now (rows_after row_on a.before rows) channels p.last a.before p.bookings p.carried)) bad.why
