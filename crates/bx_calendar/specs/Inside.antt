-- Private: what is read of a time, piece by piece.
use Rattle.std.specs.Prelude.{◌≡◌, ◌<◌, ◌≤◌, ◌||◌, ℕ, true, List, ℤ, pos, neg_ℤ, ◌≤ℤ◌}
use Rattle.jiff_core.specs.Calendar.{IsDate, days_from_civil}
use Rattle.bx_calendar.specs.Places.{are_two_digits, two_at, is_below}
use Rattle.bx_calendar.specs.Times.{IsTail, is_utc, is_signed, offset_seconds, zone_of}

-- the number that two digits write
abbrev pub IsTwoDigits : List ℕ → ℕ → ℕ → Type 0
IsTwoDigits octets place number =
    (are_two_digits octets place ≡ true)
    × (number ≡ two_at octets place)
    × (number ≤ 99)

-- the same where it is below the limit
abbrev pub IsTwoDigitsBelow : List ℕ → ℕ → ℕ → ℕ → Type 0
IsTwoDigitsBelow octets place limit number =
    (is_below octets place limit ≡ true)
    × (number ≡ two_at octets place)
    × (number < limit)

-- the calendar has this date, so many days from 1970-01-01
abbrev pub IsDateOn : ℕ → ℕ → ℕ → ℤ → Type 0
IsDateOn year month day days =
    IsDate (pos year) (pos month) (pos day)
    × (days ≡ days_from_civil (pos year) month day)

-- the seconds of an offset, of either sign
abbrev pub IsOffset : List ℕ → ℤ → Type 0
IsOffset zone seconds =
    ((is_utc zone || is_signed zone) ≡ true)
    × (seconds ≡ offset_seconds zone)
    × (neg_ℤ (pos 90_000) ≤ℤ seconds)
    × (seconds ≤ℤ pos 90_000)

-- the same where that is the end of what stands after the seconds of a clock
abbrev pub IsOffsetAfter : List ℕ → ℤ → Type 0
IsOffsetAfter rest seconds =
    IsTail rest
    × (seconds ≡ offset_seconds (zone_of rest))
    × (neg_ℤ (pos 90_000) ≤ℤ seconds)
    × (seconds ≤ℤ pos 90_000)
