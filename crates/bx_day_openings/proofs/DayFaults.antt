-- Why a date and a zone name no day, by what the calendar says of its answer.
use Rattle.std.proofs.Common.{◌≡◌, ◌↔◌, ℕ, List, Result, Err}
use Rattle.bx_calendar.specs.Dates.{IsDateText, day_number}
use Rattle.bx_calendar.specs.Days.{InZone, IsNoZone, IsOut, IsOdd}
use Rattle.bx_calendar.specs.NamedDays.{IsDayFault}
use Rattle.bx_calendar.specs.declared.day.DayFault.{DayFault}
use Rattle.bx_calendar.specs.declared.day.DayFault.TheVariants.{BadDate, BadZone, OutOfRange, OddDay}

pub day_fault : {T : Type 0} (date zone : List ℕ) (r : Result T DayFault) (fault : DayFault) → r ≡ Err fault → ((r ≡ Err BadDate) ↔ (¬ IsDateText date)) → (r ≡ Err BadZone → IsDateText date × IsNoZone zone)
    → (r ≡ Err OutOfRange → IsDateText date × InZone zone (λ z. IsOut z (day_number date))) → (r ≡ Err OddDay → IsDateText date × InZone zone (λ z. IsOdd z (day_number date))) → IsDayFault date zone fault
day_fault date zone r BadDate is bad_date bad_zone out odd = bad_date.0 is
day_fault date zone r BadZone is bad_date bad_zone out odd = bad_zone is
day_fault date zone r OutOfRange is bad_date bad_zone out odd = out is
day_fault date zone r OddDay is bad_date bad_zone out odd = odd is
