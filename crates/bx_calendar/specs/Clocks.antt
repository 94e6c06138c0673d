-- What the clock of a zone shows.
use Rattle.std.specs.Prelude.{◌≡◌, ◌&&◌, ◌/◌, ◌%◌, ℕ, ℤ, Bool, List, Option, Some, None, pos, neg_ℤ, ◌++◌, ◌+ℤ◌, ◌-ℤ◌, ◌*ℤ◌, int_rem, int_le, unsigned_abs, if◌then◌else◌}
use Rattle.std.specs.Int.{int_rem_euclid}
use Rattle.jiff.specs.Placed.{IsPosixZone}
use Rattle.jiff.specs.Words.{plain_zone, iso_datetime_text, offset_text}
use Rattle.jiff_core.specs.DateTime.{civil_nanos}
use Rattle.jiff_core.specs.Timestamp.{nanos_of_seconds}
use Rattle.jiff_core.specs.declared.civil.datetime.DateTime.{DateTime}
use Rattle.jiff_core.specs.declared.offset.Offset.{Offset}
use Rattle.jiff_tz.specs.Zone.{offset_at}
use Rattle.jiff_tz.specs.declared.timezone.TimeZone.{TimeZone}
use Rattle.bx_calendar.specs.Dates.{IsDateText, day_number}
use Rattle.bx_calendar.specs.DayParts.{start_of, length_of}
use Rattle.bx_calendar.specs.Days.{IsDay, InZone}
use Rattle.bx_calendar.specs.declared.clock.Clock.{Clock}
use Rattle.bx_calendar.specs.declared.day.Day.{Day}

-- what a clock holds: its day, its zone, and the second at which its day begins
abbrev pub clock_day : Clock → Day
clock_day c = c.day

abbrev pub clock_zone : Clock → TimeZone
clock_zone c = plain_zone c.zone

abbrev pub clock_start : Clock → ℤ
clock_start c = start_of c.day

-- it is the clock of this date, in a zone that the rule is read as
pub record IsClock (date rule : List ℕ) (c : Clock) : Type 0 where
  pub is_date : IsDateText date
  pub is_day : InZone rule (λ zone. IsDay zone (day_number date) (start_of c.day) (pos (length_of c.day)))
  pub is_zone : IsPosixZone rule (clock_zone c)

-- at this second the zone's clock shows this hour and this minute: those of the second, moved by the zone's offset then
pub record Shows (zone : TimeZone) (second : ℤ) (hour minute : ℕ) : Type 0 where
  pub at : DateTime
  pub moved : civil_nanos at ≡ ((second *ℤ pos 1_000_000_000) +ℤ nanos_of_seconds (offset_at zone (second *ℤ pos 1_000_000_000)))
  pub hour_is : hour ≡ at.time.hour
  pub minute_is : minute ≡ at.time.minute

-- an offset without its seconds, nearer to none
abbrev pub whole_minutes : ℤ → ℤ
whole_minutes seconds = seconds -ℤ int_rem seconds (pos 60)

-- the time of a clock so many seconds after the day's start, with the offset that its zone has then, in whole minutes
pub record IsLocalTime (c : Clock) (moment : ℕ) (text : List ℕ) : Type 0 where
  pub at : DateTime
  pub offset : Offset
  pub offset_of : offset.seconds ≡ whole_minutes (offset_at (clock_zone c) ((clock_start c +ℤ pos moment) *ℤ pos 1_000_000_000))
  pub moved : civil_nanos at ≡ ((clock_start c +ℤ pos moment) *ℤ pos 1_000_000_000) +ℤ nanos_of_seconds offset.seconds
  pub text_of : text ≡ iso_datetime_text at ++ offset_text offset

-- the same as a function: how many seconds from midnight on the zone's clock shows at this second
abbrev pub shown_second : TimeZone → ℤ → ℕ
shown_second zone second = unsigned_abs (int_rem_euclid (second +ℤ offset_at zone (second *ℤ pos 1_000_000_000)) (pos 86_400))

-- whether this second is one of a `Timestamp`
abbrev pub is_instant : ℤ → Bool
is_instant second = int_le (neg_ℤ (pos 377_705_023_201)) second && int_le second (pos 253_402_207_200)

-- the hour and the minute that a clock shows so many seconds after its day's start, or none outside that range
unfoldable pub shown_by : Clock → ℕ → Option (ℕ × ℕ)
shown_by c moment = let second = clock_start c +ℤ pos moment in
    let shown = shown_second (clock_zone c) second in
    if is_instant second then Some (shown / 3600, shown / 60 % 60) else None

-- how many seconds from midnight on a clock shows then, or none outside that range
unfoldable pub second_shown_by : Clock → ℕ → Option ℕ
second_shown_by c moment = let second = clock_start c +ℤ pos moment in
    if is_instant second then Some (shown_second (clock_zone c) second) else None
