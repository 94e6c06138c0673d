-- All that waits is coloured anew on the channels that are left, beside what has begun.
use Rattle.std.specs.Prelude.{Bool, List}
use Rattle.bx_colour.specs.ChangedRows.{HasNoFirstFit}
use Rattle.bx_day.specs.Day.{Day}
use Rattle.bx_sales.specs.GoingOn.{own_of, GoesOnBeside}
use Rattle.bx_sales.specs.Selling.{rows_of, marks_of}

-- the day goes on with its bookings: those that have begun on their channels, and all others first fit on the channels that are left
abbrev pub IsRecolouredBeside : (left : List Bool) (old new : Day) → Type 0
IsRecolouredBeside left old new = GoesOnBeside left (rows_of old) (marks_of old) old new

-- there is no such colouring
abbrev pub HasNoColouring : List Bool → Day → Type 0
HasNoColouring left d = HasNoFirstFit (rows_of d) (own_of d) left (marks_of d)
