-- A change that a customer asks for: a booking that is given up, or that becomes another.
use Rattle.std.specs.Prelude.{◌≡◌, ℕ, Bool, List}
use Rattle.bx_base.specs.Bookings.{Row}
use Rattle.bx_day.specs.Day.{Day}
use Rattle.bx_events.specs.declared.amendment.Amendment.{Amendment}
use Rattle.bx_events.specs.declared.amendment.Amendment.TheVariants.{Cancelled, Changed}
use Rattle.bx_planfile.specs.OneBooking.{row_on}
use Rattle.bx_sales.specs.Amending.{row_numbered, row_named, behind_row}
use Rattle.bx_sales.specs.Changing.{IsPromised, HasStarted, MayNotBecome, FitsChanged, FitsWithout}
use Rattle.bx_sales.specs.declared.changing.NoChange.{NoChange}
use Rattle.bx_sales.specs.declared.changing.NoChange.TheVariants.{NoBooking, Late, NoChannel, Memory}
use Rattle.bx_market.specs.declared.market.Request.{Request}
use Rattle.bx_market.specs.declared.market.Request.TheVariants.{Sell, Cancel, Change}

-- a line of the journal tells just this change
abbrev pub IsLineOf : Request → Amendment → List ℕ → Type 0
IsLineOf (Sell batch) kind line = ⊥
IsLineOf (Cancel row) kind line = (kind ≡ Cancelled) × (row_numbered line ≡ row)
IsLineOf (Change row booking) kind line = (kind ≡ Changed) × (row_named line ≡ row) × (row_on (behind_row line) ≡ booking)

-- why a booking of this day is not given up
abbrev pub IsNotCancelled : List Bool → Day → ℕ → NoChange → Type 0
IsNotCancelled channels d row NoBooking = ¬ IsPromised d.entries row
IsNotCancelled channels d row Late = HasStarted d row
IsNotCancelled channels d row NoChannel = ¬ FitsWithout channels d row
IsNotCancelled channels d row Memory = Unit {0}

-- why a booking of this day does not become another one
abbrev pub IsNotBecome : List Bool → Day → ℕ → Row → NoChange → Type 0
IsNotBecome channels d row b NoBooking = ¬ IsPromised d.entries row
IsNotBecome channels d row b Late = MayNotBecome d row b
IsNotBecome channels d row b NoChannel = ¬ FitsChanged channels d row b
IsNotBecome channels d row b Memory = Unit {0}

abbrev pub IsNotChanged : List Bool → Day → Request → NoChange → Type 0
IsNotChanged channels d (Sell batch) why = ⊥
IsNotChanged channels d (Cancel row) why = IsNotCancelled channels d row why
IsNotChanged channels d (Change row booking) why = IsNotBecome channels d row booking why
