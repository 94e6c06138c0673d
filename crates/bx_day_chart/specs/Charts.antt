-- What is drawn of a day.
use Rattle.std.specs.Prelude.{◌≡◌, ℕ, ◌+◌, ◌*◌, ◌/◌, true, max, Bool, List, [], ◌∷◌, ◌++◌, codes, Option, flat_map}
use Rattle.std.specs.Io.KnownBytes.{Appends}
use Rattle.bx_calendar.specs.declared.clock.Clock.{Clock}
use Rattle.bx_chart.specs.Frames.{lanes_below, opened_day}
use Rattle.bx_chart.specs.Hours.{Room, bandless, day_length, hours_below, lanes_end}
use Rattle.bx_chart.specs.Plain.{is_plain}
use Rattle.bx_chart.specs.declared.writing.ChartFault.{ChartFault}
use Rattle.bx_chart.specs.declared.writing.ChartFault.TheVariants as fault
use Rattle.bx_day.specs.Day.{Day}
use Rattle.bx_day.specs.declared.entry.Entry.{Entry}
use Rattle.bx_day_chart.specs.Calls.{call_at}
use Rattle.bx_day_chart.specs.Heads.{day_legend, day_head}
use Rattle.bx_day_chart.specs.Maintenance.{hatches_below}
use Rattle.bx_day_chart.specs.Now.{now_part}
use Rattle.bx_day_chart.specs.Outages.{outage_of}
use Rattle.bx_day_chart.specs.Sights.{Sight}
use Rattle.bx_day_chart.specs.Starts.{starts}
use Rattle.bx_devices.specs.Devices.{Writing, KeepsOutput}
use Rattle.bx_devices.specs.Octets.{AppendsPrefix}

-- so many seconds, or the latest end of these bookings
abbrev pub latest_end : ℕ → List Entry → ℕ
latest_end seconds [] = seconds
latest_end seconds (e ∷ es) = latest_end (max e.booking.end seconds) es

-- the room of a day: all of it, up to its latest end, and a lane for each channel in service
abbrev pub day_room : Day → List Bool → Option Clock → Room
day_room d channels clock = bandless channels (latest_end (day_length clock) d.entries)

-- the part whose units are the seconds of the day and tenths of lanes: the bars of all that the plan accepts in the order of its rows, and over them each
-- outage over all lanes
abbrev pub day_part : Day → List Bool → Sight → Option Clock → Room → List ℕ
day_part d channels sight clock room = opened_day room ++ flat_map (call_at clock channels d.moment) d.entries ++ flat_map (outage_of clock (10 * room.lanes)) sight.outages ++ codes "</svg>\n"

-- where bookings begin, the hours, now, and the legend of what became of a call
abbrev pub foot : Day → List Bool → Sight → Option Clock → Room → List ℕ
foot d channels sight clock room = starts room channels d.entries ++ hours_below room clock (room.seconds / 3600 + 1) ++ now_part room clock sight.is_over d.moment ++ day_legend (lanes_end room + 34) ++ codes "</svg>\n"

-- the whole picture in such a room
abbrev pub chart_in : Room → Day → List Bool → Sight → Option Clock → List ℕ
chart_in room d channels sight clock = day_head d sight clock room ++ lanes_below channels 32 ++ hatches_below room clock d channels 32 ++ day_part d channels sight clock room ++ foot d channels sight clock room

-- the picture of a day: this text, and LF and printable ASCII alone
pub record IsDayChart (d : Day) (channels : List Bool) (sight : Sight) (clock : Option Clock) (text : List ℕ) : Type 0 where
  pub plain : is_plain text ≡ true
  pub is : text ≡ chart_in (day_room d channels clock) d channels sight clock

-- it was written
pub record IsDayDrawn (d : Day) (channels : List Bool) (sight : Sight) (clock : Option Clock) (output : Writing) : Type 0 where
  pub text : List ℕ
  pub is : IsDayChart d channels sight clock text
  pub written : Appends output.before output.after text

-- a front of it was
pub record IsDayCut (d : Day) (channels : List Bool) (sight : Sight) (clock : Option Clock) (output : Writing) : Type 0 where
  pub text : List ℕ
  pub is : IsDayChart d channels sight clock text
  pub written : AppendsPrefix output.before output.after text

-- each refusal: nothing was written, or the output failed
abbrev pub IsDayChartRefusal : Day → List Bool → Sight → Option Clock → Writing → ChartFault → Type 0
IsDayChartRefusal d channels sight clock output fault.Memory = KeepsOutput output
IsDayChartRefusal d channels sight clock output fault.WriteFailed = (output.is_faulted ≡ true) × IsDayCut d channels sight clock output
