-- Times: `YYYY-MM-DDThh:mm:ss`, then nothing or a fraction, then `Z` or an offset.
use Rattle.std.specs.Prelude.{unwrap_or, ◌≡◌, ◌≢◌, ◌≤◌, ℕ, ◌+◌, ◌*◌, ◌==◌, ◌&&◌, ◌||◌, not, if◌then◌else◌, Bool, true, ℤ, pos, neg_ℤ, ◌+ℤ◌, ◌-ℤ◌, ◌*ℤ◌, List, length, take, drop, ◌≤ℤ◌}
use Rattle.std.specs.List.{list_all, position}
use Rattle.std.specs.Char.{is_ascii_digit}
use Rattle.bx_calendar.specs.Places.{octet_at, two_at, is_below}
use Rattle.bx_calendar.specs.Dates.{StartsWithDate, day_number}

-- `Thh:mm:ss` after the ten octets of a date
pub record HasClock (octets : List ℕ) : Type 0 where
  pub start : octet_at octets 10 ≡ 84
  pub hour : is_below octets 11 24 ≡ true
  pub hour_end : octet_at octets 13 ≡ 58
  pub minute : is_below octets 14 60 ≡ true
  pub minute_end : octet_at octets 16 ≡ 58
  pub second : is_below octets 17 60 ≡ true

-- the seconds since the clock read 00:00:00
abbrev pub clock_seconds : List ℕ → ℕ
clock_seconds octets = two_at octets 11 * 3600 + two_at octets 14 * 60 + two_at octets 17

-- what stands after the seconds
abbrev pub after_seconds : List ℕ → List ℕ
after_seconds octets = drop 19 octets

abbrev pub is_no_digit : ℕ → Bool
is_no_digit octet = not (is_ascii_digit octet)

-- how many digits a text begins with
abbrev pub digits_in : List ℕ → ℕ
digits_in octets = unwrap_or (position is_no_digit octets) (length octets)

-- how many octets a dot and the digits after it take: none where there is no dot
abbrev pub fraction_size : List ℕ → ℕ
fraction_size rest = if octet_at rest 0 == 46 then 1 + digits_in (drop 1 rest) else 0

-- no dot, or one with 1 to 9 digits
abbrev pub IsFractionSize : ℕ → Type 0
IsFractionSize size = (size ≢ 1) × (size ≤ 10)

abbrev pub is_zero : ℕ → Bool
is_zero octet = octet == 48

-- whether every digit of the fraction is 0
abbrev pub is_whole : List ℕ → Bool
is_whole rest = list_all is_zero (drop 1 (take (fraction_size rest) rest))

-- what stands after the fraction
abbrev pub zone_of : List ℕ → List ℕ
zone_of rest = drop (fraction_size rest) rest

abbrev pub is_utc : List ℕ → Bool
is_utc zone = (length zone == 1) && (octet_at zone 0 == 90)

-- a sign and hh:mm
abbrev pub is_signed : List ℕ → Bool
is_signed zone =
    (length zone == 6) && ((octet_at zone 0 == 43) || (octet_at zone 0 == 45)) && is_below zone 1 24
    && (octet_at zone 3 == 58) && is_below zone 4 60

abbrev pub offset_size : List ℕ → ℕ
offset_size zone = two_at zone 1 * 3600 + two_at zone 4 * 60

-- the seconds by which the clock is ahead of UTC
abbrev pub offset_seconds : List ℕ → ℤ
offset_seconds zone =
    if is_utc zone then pos 0 else (if octet_at zone 0 == 45 then neg_ℤ (pos (offset_size zone)) else pos (offset_size zone))

-- what may stand after the seconds
pub record IsTail (rest : List ℕ) : Type 0 where
  pub fraction : IsFractionSize (fraction_size rest)
  pub zone : (is_utc (zone_of rest) || is_signed (zone_of rest)) ≡ true

-- a text that is a time
pub record IsTime (octets : List ℕ) : Type 0 where
  pub long : 19 ≤ length octets
  pub date : StartsWithDate octets
  pub clock : HasClock octets
  pub tail : IsTail (after_seconds octets)

-- whether the time is one of a whole second
abbrev pub is_whole_time : List ℕ → Bool
is_whole_time octets = is_whole (after_seconds octets)

-- the seconds from 1970-01-01T00:00:00Z to the time
abbrev pub instant_of : List ℕ → ℤ
instant_of octets = day_number octets *ℤ pos 86_400 +ℤ pos (clock_seconds octets) -ℤ offset_seconds (zone_of (after_seconds octets))

-- the second in which a time lies, and whether it is that second itself
abbrev pub IsInstant : List ℕ → ℤ → Bool → Type 0
IsInstant octets second whole =
    IsTime octets
    × (second ≡ instant_of octets)
    × (whole ≡ is_whole_time octets)
    × (neg_ℤ (pos 500_000_000_000) ≤ℤ second)
    × (second ≤ℤ pos 500_000_000_000)
