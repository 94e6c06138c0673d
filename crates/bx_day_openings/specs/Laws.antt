-- What the laws of days by their journals say.
use Rattle.std.specs.Prelude.{◌≡◌, ℕ, Bool, List, length, Option}
use Rattle.bx_base.specs.Bookings.{Row, AreBookings, Carries}
use Rattle.bx_base.specs.Plans.{is_accepted, channel_at}
use Rattle.bx_day.specs.Day.{opening}
use Rattle.bx_day_openings.specs.Replays.{HasBadAmendment}
use Rattle.bx_day_openings.specs.declared.amending.AmendmentFault.TheVariants.{TookOver}
use Rattle.bx_journal.specs.declared.head.Wanted.{Wanted}

-- no line of a journal that is followed from the opening of a plan which is carried is told as one of a day that took over from another
abbrev pub TellsNoTakeover : Type 0
TellsNoTakeover = (channels : List Bool) (wanted : Wanted) (before : Option (List ℕ)) (rows : List Row) (assigned : List (Option ℕ)) →
    length assigned ≡ length rows → AreBookings rows → Carries rows channels (is_accepted assigned) (channel_at assigned) →
    ¬ HasBadAmendment channels wanted before (opening rows assigned) TookOver
