-- Private: where a day begins by the clock, as its functions promise it one another.
use Rattle.std.specs.Prelude.{◌≡◌, ℕ, pos}
use Rattle.bx_calendar.specs.DayParts.{start_of}
use Rattle.bx_calendar.specs.declared.day.Day.{Day}
use Rattle.bx_capture.specs.Starts.{IsNameable}
use Rattle.bx_day_openings.specs.declared.fault.DayCommandFault.{DayCommandFault}
use Rattle.bx_day_openings.specs.declared.fault.DayCommandFault.TheVariants as faults

abbrev pub IsBegunAt : Day → ℕ → Type 0
IsBegunAt day first = pos first ≡ start_of day

abbrev pub IsUnnamed : Day → DayCommandFault → Type 0
IsUnnamed day (faults.Capture fault) = ¬ IsNameable (start_of day)
IsUnnamed day _ = ⊥
