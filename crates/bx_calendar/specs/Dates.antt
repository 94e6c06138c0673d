-- Dates that a text begins with.
use Rattle.std.specs.Prelude.{◌≡◌, ℕ, ◌+◌, ◌*◌, ℤ, pos, List, length, true}
use Rattle.jiff_core.specs.Calendar.{IsDate, days_from_civil}
use Rattle.bx_calendar.specs.Places.{octet_at, are_two_digits, two_at}

abbrev pub year_of : List ℕ → ℕ
year_of octets = two_at octets 0 * 100 + two_at octets 2

abbrev pub month_of : List ℕ → ℕ
month_of octets = two_at octets 5

abbrev pub day_of_month : List ℕ → ℕ
day_of_month octets = two_at octets 8

-- the days from 1970-01-01 to this date
abbrev pub day_number : List ℕ → ℤ
day_number octets = days_from_civil (pos (year_of octets)) (month_of octets) (day_of_month octets)

-- the first ten octets are a date of the calendar, as YYYY-MM-DD
pub record StartsWithDate (octets : List ℕ) : Type 0 where
  pub century : are_two_digits octets 0 ≡ true
  pub year : are_two_digits octets 2 ≡ true
  pub year_end : octet_at octets 4 ≡ 45
  pub month : are_two_digits octets 5 ≡ true
  pub month_end : octet_at octets 7 ≡ 45
  pub day : are_two_digits octets 8 ≡ true
  pub exists : IsDate (pos (year_of octets)) (pos (month_of octets)) (pos (day_of_month octets))

-- the text is a date, and nothing else
pub record IsDateText (octets : List ℕ) : Type 0 where
  pub whole : length octets ≡ 10
  pub date : StartsWithDate octets
