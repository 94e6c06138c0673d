-- What a day holds.
use Rattle.std.specs.Prelude.{ℕ, ℤ}
use Rattle.bx_calendar.specs.declared.day.Day.{Day}

-- the second at which it begins, from 1970-01-01T00:00:00Z
abbrev pub start_of : Day → ℤ
start_of d = d.start

-- how many seconds it lasts
abbrev pub length_of : Day → ℕ
length_of d = d.length
