-- The day that a date and a zone name, or why they name none.
use Rattle.std.specs.Prelude.{List, ℕ, pos}
use Rattle.bx_calendar.specs.Dates.{IsDateText, day_number}
use Rattle.bx_calendar.specs.DayParts.{start_of, length_of}
use Rattle.bx_calendar.specs.Days.{IsDay, InZone, IsNoZone, IsOut, IsOdd}
use Rattle.bx_calendar.specs.declared.day.Day.{Day}
use Rattle.bx_calendar.specs.declared.day.DayFault.{DayFault}
use Rattle.bx_calendar.specs.declared.day.DayFault.TheVariants.{BadDate, BadZone, OutOfRange, OddDay}

-- this date and this zone name the day
abbrev pub IsDayOf : List ℕ → List ℕ → Day → Type 0
IsDayOf date zone day = IsDateText date × InZone zone (λ z. IsDay z (day_number date) (start_of day) (pos (length_of day)))

-- this date and this zone name no day, and this is why
abbrev pub IsDayFault : List ℕ → List ℕ → DayFault → Type 0
IsDayFault date zone BadDate = ¬ IsDateText date
IsDayFault date zone BadZone = IsDateText date × IsNoZone zone
IsDayFault date zone OutOfRange = IsDateText date × InZone zone (λ z. IsOut z (day_number date))
IsDayFault date zone OddDay = IsDateText date × InZone zone (λ z. IsOdd z (day_number date))
