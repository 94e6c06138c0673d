-- What is logged of bookings that are sold, given up or changed, and of channels that are lost, and what may be wrong with it.
use Rattle.std.specs.Prelude.{◌≡◌, ◌⊎◌, ◌≤◌, ℕ, Bool, List, ◌∷◌, ◌++◌, take, length, Some, None}
use Rattle.bx_base.specs.Bookings.{Row}
use Rattle.bx_base.specs.declared.bookings.TheConstants.{MAX_BOOKINGS}
use Rattle.bx_day.specs.Changed.{AreReferredByRow}
use Rattle.bx_day.specs.Day.{Day}
use Rattle.bx_events.specs.Events.{LiveEvent, Amended}
use Rattle.bx_events.specs.declared.amendment.Amendment.{Amendment}
use Rattle.bx_events.specs.declared.amendment.Amendment.TheVariants.{Sold, Cancelled, Changed, SoldByRulesTwo, Delayed, Dropped, Out}
use Rattle.bx_journal.specs.Numbers.{number_on, space_at}
use Rattle.bx_planfile.specs.OneBooking.{booking_on}
use Rattle.bx_sales.specs.Amending.{behind_row}
use Rattle.bx_sales.specs.Changing.{IsPromised, HasStarted, MayNotBecome, FitsWithout, FitsChanged}
use Rattle.bx_sales.specs.GoingOn.{FitsBeside}
use Rattle.bx_sales.specs.Leaving.{MayNotBeDelayed, MayNotBeDropped, IsChannelLost, FitsOnLeft}
use Rattle.bx_sales.specs.Left.{left_in_service}
use Rattle.bx_sales.specs.Selling.{rows_with, marks_with}
use Rattle.bx_sales.specs.Tags.{behind_tag}
use Rattle.bx_day_openings.specs.declared.amending.AmendmentFault.{AmendmentFault}
use Rattle.bx_day_openings.specs.declared.amending.AmendmentFault.TheVariants.{BadSale, LateSale, TooMany, NotCarried, TookOver, NoBooking, LateChange, BadChannel, Memory}

-- a line that amends the plan, among events
pub record AmendmentIn (events : List LiveEvent) : Type 0 where
  pub before : List LiveEvent
  pub kind : Amendment
  pub line : List ℕ
  pub following : List LiveEvent
  pub are : events ≡ before ++ Amended kind line ∷ following

-- ---- a booking that is sold

-- why this booking is not sold on this day
abbrev pub IsNoSale : List Bool → Row → Day → AmendmentFault → Type 0
IsNoSale channels row d LateSale = row.start ≤ d.moment
IsNoSale channels row d TooMany = MAX_BOOKINGS ≤ length d.entries
IsNoSale channels row d NotCarried = ¬ FitsBeside channels d (rows_with d row) (marks_with d)
IsNoSale channels row d TookOver = ¬ AreReferredByRow d.entries
IsNoSale channels row d Memory = Unit {0}
IsNoSale channels row d fault = ⊥

-- why this line is no sale of this day: it tells no booking, or one that is not sold
abbrev pub IsBadSale : List Bool → List ℕ → Day → AmendmentFault → Type 0
IsBadSale channels line d BadSale = booking_on (behind_tag line) ≡ None
IsBadSale channels line d Memory = Unit {0}
IsBadSale channels line d fault = (row : Row) × (booking_on (behind_tag line) ≡ Some row) × IsNoSale channels row d fault

-- ---- a booking that is given up

-- why the booking of a row is not given up on this day
abbrev pub IsNoCancellation : List Bool → ℕ → Day → AmendmentFault → Type 0
IsNoCancellation channels row d NoBooking = ¬ IsPromised d.entries row
IsNoCancellation channels row d LateChange = HasStarted d row
IsNoCancellation channels row d NotCarried = ¬ FitsWithout channels d row
IsNoCancellation channels row d Memory = Unit {0}
IsNoCancellation channels row d fault = ⊥

-- why this line gives up no booking of this day: it names no row, or one that is not given up
abbrev pub IsBadCancellation : List Bool → List ℕ → Day → AmendmentFault → Type 0
IsBadCancellation channels line d BadSale = number_on line ≡ None
IsBadCancellation channels line d Memory = Unit {0}
IsBadCancellation channels line d fault = (row : ℕ) × (number_on line ≡ Some row) × IsNoCancellation channels row d fault

-- ---- a booking that becomes another one

-- why the booking of a row does not become this one on this day
abbrev pub IsNoRowChange : List Bool → ℕ → Row → Day → AmendmentFault → Type 0
IsNoRowChange channels row b d NoBooking = ¬ IsPromised d.entries row
IsNoRowChange channels row b d LateChange = MayNotBecome d row b
IsNoRowChange channels row b d NotCarried = ¬ FitsChanged channels d row b
IsNoRowChange channels row b d Memory = Unit {0}
IsNoRowChange channels row b d fault = ⊥

-- a line tells this row, and this booking behind it
pub record TellsChange (line : List ℕ) (row : ℕ) (b : Row) : Type 0 where
  pub row_of : number_on (take (space_at line) line) ≡ Some row
  pub booking_of : booking_on (behind_row line) ≡ Some b

-- a line names no row, or tells no booking behind it
abbrev pub IsNoChangeLine : List ℕ → Type 0
IsNoChangeLine line = (number_on (take (space_at line) line) ≡ None) ⊎ (booking_on (behind_row line) ≡ None)

-- why this line changes no booking of this day: it names no row or tells no booking, or that of the row does not become it
abbrev pub IsBadRowChange : List Bool → List ℕ → Day → AmendmentFault → Type 0
IsBadRowChange channels line d BadSale = IsNoChangeLine line
IsBadRowChange channels line d Memory = Unit {0}
IsBadRowChange channels line d fault = (row : ℕ) × (b : Row) × TellsChange line row b × IsNoRowChange channels row b d fault

-- ---- a channel that is lost

-- why the booking of a row does not start with the next second, as this one, on this day
abbrev pub IsNoDelay : ℕ → Row → Day → AmendmentFault → Type 0
IsNoDelay row b d NoBooking = ¬ IsPromised d.entries row
IsNoDelay row b d LateChange = MayNotBeDelayed d row b
IsNoDelay row b d Memory = Unit {0}
IsNoDelay row b d fault = ⊥

-- why this line delays no booking of this day: it names no row or tells no booking, or that of the row may not become it
abbrev pub IsBadDelay : List ℕ → Day → AmendmentFault → Type 0
IsBadDelay line d BadSale = IsNoChangeLine line
IsBadDelay line d Memory = Unit {0}
IsBadDelay line d fault = (row : ℕ) × (b : Row) × TellsChange line row b × IsNoDelay row b d fault

-- why the exchange does not give up the booking of a row on this day
abbrev pub IsNotDropped : ℕ → Day → AmendmentFault → Type 0
IsNotDropped row d NoBooking = ¬ IsPromised d.entries row
IsNotDropped row d LateChange = MayNotBeDropped d row
IsNotDropped row d Memory = Unit {0}
IsNotDropped row d fault = ⊥

-- why by this line it gives up none of this day: it names no row, or one that may not be given up so
abbrev pub IsBadDropping : List ℕ → Day → AmendmentFault → Type 0
IsBadDropping line d BadSale = number_on line ≡ None
IsBadDropping line d Memory = Unit {0}
IsBadDropping line d fault = (row : ℕ) × (number_on line ≡ Some row) × IsNotDropped row d fault

-- why a channel is not left on this day
abbrev pub IsNoLeaving : List Bool → ℕ → Day → AmendmentFault → Type 0
IsNoLeaving channels c d BadChannel = ¬ IsChannelLost channels d c
IsNoLeaving channels c d NotCarried = ¬ FitsOnLeft channels d
IsNoLeaving channels c d Memory = Unit {0}
IsNoLeaving channels c d fault = ⊥

-- why by this line no channel is left: it names none, or one that is not
abbrev pub IsBadLeaving : List Bool → List ℕ → Day → AmendmentFault → Type 0
IsBadLeaving channels line d BadSale = number_on line ≡ None
IsBadLeaving channels line d Memory = Unit {0}
IsBadLeaving channels line d fault = (c : ℕ) × (number_on line ≡ Some c) × IsNoLeaving channels c d fault

-- ---- any of these

-- why this line is none of this day
abbrev pub IsBadAmendment : List Bool → Amendment → List ℕ → Day → AmendmentFault → Type 0
IsBadAmendment channels Sold line d fault = IsBadSale (left_in_service channels d) line d fault
IsBadAmendment channels Cancelled line d fault = IsBadCancellation (left_in_service channels d) line d fault
IsBadAmendment channels Changed line d fault = IsBadRowChange (left_in_service channels d) line d fault
IsBadAmendment channels SoldByRulesTwo line d fault = IsBadSale channels line d fault
IsBadAmendment channels Delayed line d fault = IsBadDelay line d fault
IsBadAmendment channels Dropped line d fault = IsBadDropping line d fault
IsBadAmendment channels Out line d fault = IsBadLeaving channels line d fault
