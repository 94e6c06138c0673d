-- When a day is that goes by the clock.
use Rattle.std.specs.Prelude.{◌≡◌, max, pos}
use Rattle.bx_calendar.specs.DayParts.{start_of}
use Rattle.bx_calendar.specs.NamedDays.{IsDayOf, IsDayFault}
use Rattle.bx_calendar.specs.declared.day.Day.{Day}
use Rattle.bx_capture.specs.Starts.{IsNameable}
use Rattle.bx_day_openings.specs.declared.fault.DayCommandFault.{DayCommandFault}
use Rattle.bx_day_openings.specs.declared.fault.DayCommandFault.TheVariants as faults
use Rattle.bx_day_openings.specs.declared.hours.Hours.{Hours}
use Rattle.bx_live.specs.Schedules.{first_instant_of, pace_of}
use Rattle.bx_request.specs.declared.request.DayHours.{DayHours}

-- the day is that of the date in the zone, moment 0 its midnight, and so many seconds of it, but at least one, go by in one of the clock; the
-- schedule has just these
pub record AreHours (words : DayHours) (hours : Hours) : Type 0 where
  pub is_day : IsDayOf words.date.now words.zone.now hours.day
  pub first : pos hours.first ≡ start_of hours.day
  pub pace : hours.pace ≡ max words.pace 1
  pub scheduled_first : first_instant_of hours.schedule ≡ hours.first
  pub scheduled_pace : pace_of hours.schedule ≡ hours.pace

-- the date and the zone name no day, by just this fault; or one that begins before 1970, or too late
abbrev pub IsNoHours : DayHours → DayCommandFault → Type 0
IsNoHours words (faults.Day fault) = IsDayFault words.date.now words.zone.now fault
IsNoHours words (faults.Capture fault) = (day : Day) × IsDayOf words.date.now words.zone.now day × (¬ IsNameable (start_of day))
IsNoHours words _ = ⊥
