-- The hours of a picture: three lines and two names for each that is drawn.
use Rattle.std.specs.Prelude.{ℕ, zero, suc, ◌+◌, ◌*◌, ◌/◌, ◌%◌, ◌==◌, max, Bool, true, false, List, [], ◌++◌, length, codes, decimal, Option, Some, None, unwrap_or, if◌then◌else◌}
use Rattle.bx_base.specs.Bookings.{Row, row_at}
use Rattle.bx_base.specs.Channels.{count_of}
use Rattle.bx_base.specs.PlanParts.{Parts}
use Rattle.bx_calendar.specs.Clocks.{clock_day, shown_by}
use Rattle.bx_calendar.specs.DayParts.{length_of}
use Rattle.bx_calendar.specs.declared.clock.Clock.{Clock}
use Rattle.bx_chart.specs.Bars.{two_digits}

-- how long the day is: as its clock says, or 86,400 seconds
abbrev pub day_length : Option Clock → ℕ
day_length None = 86400
day_length (Some clock) = length_of (clock_day clock)

-- so many seconds, or the latest end of the first n bookings
abbrev pub latest_below : List Row → ℕ → ℕ → ℕ
latest_below rows seconds zero = seconds
latest_below rows seconds (suc n) = max (latest_below rows seconds n) (row_at rows n).end

-- what a picture has room for: so many seconds, and so many lanes, and whether bands stand below these
pub record Room : Type 0 where
  pub seconds : ℕ
  pub lanes : ℕ
  pub has_bands : Bool

-- the room of a plan: the whole day, up to its latest end, and a lane for each channel in service, one at least
abbrev pub room_of : Parts → Option Clock → Room
room_of plan clock = record { seconds = latest_below plan.rows (day_length clock) (length plan.rows); lanes = max 1 (count_of plan.channels); has_bands = true }

-- the room of a picture without bands
abbrev pub bandless : List Bool → ℕ → Room
bandless channels seconds = record { seconds = seconds; lanes = max 1 (count_of channels); has_bands = false }

-- where the lanes end
abbrev pub lanes_end : Room → ℕ
lanes_end room = 92 + 16 * room.lanes

-- where the band of refused calls begins
abbrev pub refused_top : Room → ℕ
refused_top room = lanes_end room + 44

-- where the band of prices begins
abbrev pub prices_top : Room → ℕ
prices_top room = refused_top room + 114

-- how far from the left a second is, in tenths
abbrev pub across : Room → ℕ → ℕ
across room second = 560 + 11200 * second / room.seconds

-- so many tenths
abbrev pub tenths : ℕ → List ℕ
tenths n = decimal (n / 10) ++ codes "." ++ decimal (n % 10)

-- a line at a place across
unfoldable pub line : ℕ → ℕ → ℕ → List ℕ
line place top end = codes "<path class='hour' d='M" ++ tenths place ++ (codes " " ++ decimal top) ++ (codes "V" ++ decimal end) ++ codes "'/>\n"

-- the lines of an hour over the bands, if there are any
unfoldable pub band_lines : Room → ℕ → List ℕ
band_lines room place = if room.has_bands then line place (refused_top room) (refused_top room + 70) ++ line place (prices_top room) (prices_top room + 70) else []

-- its lines, over the lanes and over each band
unfoldable pub lines : Room → ℕ → List ℕ
lines room place = line place 92 (lanes_end room) ++ band_lines room place

-- an hour and a minute, as `7:00`
abbrev pub shown_text : ℕ × ℕ → List ℕ
shown_text shown = decimal shown.0 ++ codes ":" ++ two_digits shown.1

-- a name at a place
unfoldable pub name : ℕ → ℕ → ℕ × ℕ → List ℕ
name place down shown = codes "<text class='small middle' x='" ++ tenths place ++ (codes "' y='" ++ decimal down) ++ codes "'>" ++ shown_text shown ++ codes "</text>\n"

-- what names an hour from the day's start: what the clock shows then, or without a clock, or out of its range, the count of hours
abbrev pub shown_at : Option Clock → ℕ → ℕ × ℕ
shown_at None hour = (hour, 0)
shown_at (Some clock) hour = unwrap_or (shown_by clock (hour * 3600)) (hour, 0)

-- an hour: its lines, and its name above and below the lanes
unfoldable pub hour_part : Room → Option Clock → ℕ → List ℕ
hour_part room clock hour = lines room (across room (hour * 3600)) ++ name (across room (hour * 3600)) 87 (shown_at clock hour) ++ name (across room (hour * 3600)) (lanes_end room + 13) (shown_at clock hour)

-- whether an hour is drawn: each one of less than 26 hours, each second one of less than 52, else each third one
abbrev pub is_drawn : Room → ℕ → Bool
is_drawn room hour = (hour % (room.seconds / 93600 + 1)) == 0

-- the hours below n that are drawn
abbrev pub hours_below : Room → Option Clock → ℕ → List ℕ
hours_below room clock zero = []
hours_below room clock (suc n) = hours_below room clock n ++ (if is_drawn room n then hour_part room clock n else [])

-- all of them, from the day's start to the picture's last second
abbrev pub hours_in : Room → Option Clock → List ℕ
hours_in room clock = hours_below room clock (room.seconds / 3600 + 1)

-- the hours of a plan
abbrev pub hours : Parts → Option Clock → List ℕ
hours plan clock = hours_in (room_of plan clock) clock
