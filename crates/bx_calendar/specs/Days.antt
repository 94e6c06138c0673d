-- The two midnights of a day.
use Rattle.std.specs.Prelude.{◌≡◌, ◌⊎◌, ℕ, ℤ, List, None, pos, int_div, ◌+ℤ◌, ◌-ℤ◌, ◌<ℤ◌, ◌≤ℤ◌}
use Rattle.jiff_core.specs.declared.civil.datetime.DateTime.{DateTime}
use Rattle.jiff_tz.specs.declared.timezone.TimeZone.{TimeZone}
use Rattle.jiff.specs.Placed.{IsPosixZone}
use Rattle.jiff.specs.Words.{epoch_day, time_nanos, picked_instant, read_whole, IsTimestampNanos}

-- n is the instant to which the zone's clock at 00:00:00 of the date with that day number is converted, in
-- nanoseconds: in a gap by the offset before it, in a fold the earlier one
abbrev pub IsMidnight : TimeZone → ℤ → ℤ → Type 0
IsMidnight zone day n = (at : DateTime) × (epoch_day at.date ≡ day) × (time_nanos at.time ≡ 0) × (n ≡ picked_instant zone at)

-- that instant is out of range
abbrev pub NoMidnight : TimeZone → ℤ → Type 0
NoMidnight zone day = (n : ℤ) × IsMidnight zone day n × ¬ IsTimestampNanos n

-- whole seconds
abbrev pub seconds_of : ℤ → ℤ
seconds_of n = int_div n (pos 1_000_000_000)

-- the day with this number in this zone begins at start, and is that long
pub record IsDay (zone : TimeZone) (day : ℤ) (start : ℤ) (length : ℤ) : Type 0 where
  pub first : ℤ
  pub next : ℤ
  pub begins : IsMidnight zone day first
  pub ends : IsMidnight zone (day +ℤ pos 1) next
  pub first_exists : IsTimestampNanos first
  pub next_exists : IsTimestampNanos next
  pub start_is : start ≡ seconds_of first
  pub length_is : length ≡ (seconds_of next -ℤ seconds_of first)

-- the day is the last of the calendar, or one of its midnights is out of range
abbrev pub IsOut : TimeZone → ℤ → Type 0
IsOut zone day = (pos 2_932_896 ≤ℤ day) ⊎ NoMidnight zone day ⊎ NoMidnight zone (day +ℤ pos 1)

-- a day that is shorter than a second, or longer than 200,000
abbrev pub IsOdd : TimeZone → ℤ → Type 0
IsOdd zone day = (start length : ℤ) × IsDay zone day start length × ((length <ℤ pos 1) ⊎ (pos 200_000 <ℤ length))

-- what is said of the zone that a rule is read as
abbrev pub InZone : List ℕ → (TimeZone → Type 0) → Type 0
InZone rule P = (zone : TimeZone) × IsPosixZone rule zone × P zone

-- the rule names no zone
abbrev pub IsNoZone : List ℕ → Type 0
IsNoZone rule = read_whole rule ≡ None
