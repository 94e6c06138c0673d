-- A booking that is sold.
use Rattle.std.specs.Prelude.{not, ◌<◌, Bool, true, List, [], ◌∷◌, ◌++◌, map}
use Rattle.bx_base.specs.Bookings.{Row}
use Rattle.bx_day.specs.Day.{Day}
use Rattle.bx_day.specs.Invariant.{is_refused}
use Rattle.bx_day.specs.declared.entry.Entry.{Entry}
use Rattle.bx_sales.specs.GoingOn.{GoesOnBeside}

-- the bookings of a day
abbrev pub rows_of : Day → List Row
rows_of d = map (λ (e : Entry). e.booking) d.entries

-- which of them are accepted
abbrev pub marks_of : Day → List Bool
marks_of d = map (λ (e : Entry). not (is_refused e.standing)) d.entries

-- one booking more, accepted
abbrev pub rows_with : Day → Row → List Row
rows_with d row = rows_of d ++ row ∷ []

abbrev pub marks_with : Day → List Bool
marks_with d = marks_of d ++ true ∷ []

-- the day goes on with this booking sold, which starts later: all that was accepted is
pub record IsSold (channels : List Bool) (row : Row) (old new : Day) : Type 0 where
  pub later : old.moment < row.start
  pub gone_on : GoesOnBeside channels (rows_with old row) (marks_with old) old new
