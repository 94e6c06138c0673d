-- A thin line at the start of each booking, so that calls back to back stay apart also where a viewer draws no outlines.
use Rattle.std.specs.Prelude.{ℕ, ◌+◌, ◌*◌, Bool, List, [], ◌++◌, codes, decimal, flat_map, if◌then◌else◌}
use Rattle.bx_chart.specs.Bars.{lane_of}
use Rattle.bx_chart.specs.Hours.{Room, across, tenths}
use Rattle.bx_day.specs.Invariant.{stands_accepted}
use Rattle.bx_day.specs.declared.entry.Entry.{Entry}

-- a line across a lane that begins so far down
unfoldable pub start_line : ℕ → ℕ → List ℕ
start_line place down = codes "M" ++ tenths place ++ (codes " " ++ decimal down) ++ codes "v14"

-- that of a booking, or nothing where the plan refuses it
abbrev pub start_at : Room → List Bool → Entry → List ℕ
start_at room channels e = if stands_accepted e.standing then start_line (across room e.booking.start) (92 + 16 * lane_of channels e.channel + 1) else []

-- those of all bookings
abbrev pub starts : Room → List Bool → List Entry → List ℕ
starts room channels entries = codes "<path class='start' d='" ++ flat_map (start_at room channels) entries ++ codes "'/>\n"
