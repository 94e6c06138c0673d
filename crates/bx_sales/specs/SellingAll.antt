-- Bookings that are sold in one step.
use Rattle.std.specs.Prelude.{◌<◌, ℕ, Bool, true, List, ◌++◌, length, replicate}
use Rattle.bx_base.specs.Bookings.{Row, row_at}
use Rattle.bx_day.specs.Day.{Day}
use Rattle.bx_sales.specs.Selling.{rows_of, marks_of}

-- each of these bookings starts after moment t
abbrev pub AreLater : ℕ → List Row → Type 0
AreLater t rows = (i : ℕ) → i < length rows → t < (row_at rows i).start

-- the bookings of a day with these after them, accepted
abbrev pub rows_and : Day → List Row → List Row
rows_and d rows = rows_of d ++ rows

abbrev pub marks_and : Day → List Row → List Bool
marks_and d rows = marks_of d ++ replicate (length rows) true
