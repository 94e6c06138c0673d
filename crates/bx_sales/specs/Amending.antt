-- What a line of a journal makes of the plan: a booking that is sold, one that is given up, or one that becomes another; and what is done where a channel
-- is lost.
use Rattle.std.specs.Prelude.{ℕ, ◌+◌, ◌-◌, Bool, true, false, List, [], ◌∷◌, ◌++◌, take, drop, Option, Some, None, slice_set}
use Rattle.bx_base.specs.Bookings.{Row}
use Rattle.bx_day.specs.Day.{Day}
use Rattle.bx_events.specs.declared.amendment.Amendment.{Amendment}
use Rattle.bx_events.specs.declared.amendment.Amendment.TheVariants.{Sold, Cancelled, Changed, SoldByRulesTwo, Delayed, Dropped, Out}
use Rattle.bx_journal.specs.Numbers.{number_on, space_at}
use Rattle.bx_sales.specs.Changing.{IsCancelled, IsRowChanged, rows_changed_in}
use Rattle.bx_sales.specs.Leaving.{IsDelayed, IsDropped, IsChannelLeft}
use Rattle.bx_sales.specs.Left.{left_in_service}
use Rattle.bx_sales.specs.Selling.{IsSold}
use Rattle.bx_sales.specs.Tags.{row_behind}

-- a row by its number: no row has 0
abbrev pub number_or_none : Option ℕ → ℕ
number_or_none None = 0
number_or_none (Some row) = row

-- the row of a line that has a number alone
abbrev pub row_numbered : List ℕ → ℕ
row_numbered line = number_or_none (number_on line)

-- the row that a line names first, and what it has behind the space after it
abbrev pub row_named : List ℕ → ℕ
row_named line = row_numbered (take (space_at line) line)

abbrev pub behind_row : List ℕ → List ℕ
behind_row line = drop (space_at line + 1) line

-- what a line makes of a day, where a text tells a booking so. By the rules 2 a sale counted on all channels, by these on those that are left
abbrev pub AmendsDay : List Bool → (List ℕ → Row) → Amendment → List ℕ → Day → Day → Type 0
AmendsDay channels row_on Sold line old new = IsSold (left_in_service channels old) (row_behind row_on line) old new
AmendsDay channels row_on Cancelled line old new = IsCancelled (left_in_service channels old) (row_numbered line) old new
AmendsDay channels row_on Changed line old new = IsRowChanged (left_in_service channels old) (row_named line) (row_on (behind_row line)) old new
AmendsDay channels row_on SoldByRulesTwo line old new = IsSold channels (row_behind row_on line) old new
AmendsDay channels row_on Delayed line old new = IsDelayed (row_named line) (row_on (behind_row line)) old new
AmendsDay channels row_on Dropped line old new = IsDropped (row_numbered line) old new
AmendsDay channels row_on Out line old new = IsChannelLeft channels (row_numbered line) old new

-- what it makes of the bookings of the plan, and of which are accepted
abbrev pub rows_amended : (List ℕ → Row) → Amendment → List ℕ → List Row → List Row
rows_amended row_on Sold line rows = rows ++ row_behind row_on line ∷ []
rows_amended row_on Cancelled line rows = rows
rows_amended row_on Changed line rows = rows_changed_in rows (row_named line) (row_on (behind_row line))
rows_amended row_on SoldByRulesTwo line rows = rows ++ row_behind row_on line ∷ []
rows_amended row_on Delayed line rows = rows_changed_in rows (row_named line) (row_on (behind_row line))
rows_amended row_on Dropped line rows = rows
rows_amended row_on Out line rows = rows

abbrev pub marks_amended : Amendment → List ℕ → List Bool → List Bool
marks_amended Sold line marks = marks ++ true ∷ []
marks_amended Cancelled line marks = slice_set marks (row_numbered line - 1) false
marks_amended Changed line marks = marks
marks_amended SoldByRulesTwo line marks = marks ++ true ∷ []
marks_amended Delayed line marks = marks
marks_amended Dropped line marks = slice_set marks (row_numbered line - 1) false
marks_amended Out line marks = marks
