-- Channels in maintenance: their lanes are hatched from when a call was last on them. An exchange keeps which channels are in maintenance, and not since when;
-- the last call on such a channel is the one that was given up.
use Rattle.std.specs.Prelude.{ℕ, zero, suc, ◌+◌, ◌-◌, ◌*◌, ◌==◌, ◌&&◌, Bool, List, [], ◌∷◌, ◌++◌, codes, decimal, max, Option, if◌then◌else◌}
use Rattle.bx_base.specs.Bookings.{Row}
use Rattle.bx_base.specs.Channels.{has_channel}
use Rattle.bx_calendar.specs.declared.clock.Clock.{Clock}
use Rattle.bx_channels.specs.Marks.{is_marked}
use Rattle.bx_chart.specs.Bars.{lane_of, time_of}
use Rattle.bx_chart.specs.Hours.{Room, across, tenths}
use Rattle.bx_day.specs.Day.{Day}
use Rattle.bx_day.specs.declared.entry.Entry.{Entry}
use Rattle.bx_day.specs.declared.entry.Standing.{Standing}
use Rattle.bx_day.specs.declared.entry.Standing.TheVariants.{Carried, Unanswered}

-- when a call of a booking was last on its channel: until when it was Active, or where it never was, the booking's start
abbrev pub last_held : Row → Standing → ℕ
last_held row (Carried from until) = until
last_held row Unanswered = row.start
last_held row _ = 0

-- the latest of these moments on a channel, and of this one
abbrev pub since : ℕ → ℕ → List Entry → ℕ
since channel second [] = second
since channel second (e ∷ es) = since channel (if e.channel == channel then max (last_held e.booking e.standing) second else second) es

-- where a hatched part of a lane begins, and how wide it is
unfoldable pub hatch_place : ℕ → ℕ → ℕ → List ℕ
hatch_place place down wide = codes "<rect class='broken' x='" ++ tenths place ++ (codes "' y='" ++ decimal down) ++ codes "' width='" ++ tenths wide

-- what it says
abbrev pub hatch_words : Option Clock → ℕ → ℕ → List ℕ
hatch_words clock channel second = (codes "' height='14'><title>channel " ++ decimal channel) ++ codes " in maintenance since " ++ time_of clock second ++ codes "</title></rect>\n"

-- a lane, hatched from a second up to its end
abbrev pub hatch : Room → Option Clock → ℕ → ℕ → ℕ → List ℕ
hatch room clock channel lane second = hatch_place (across room second) (92 + 16 * lane + 1) (across room room.seconds - across room second) ++ hatch_words clock channel second

-- the channels in service and in maintenance with a number below n
abbrev pub hatches_below : Room → Option Clock → Day → List Bool → ℕ → List ℕ
hatches_below room clock d channels zero = []
hatches_below room clock d channels (suc n) = hatches_below room clock d channels n ++ (if has_channel channels n && is_marked d.maintenance n then hatch room clock n (lane_of channels n) (since n 0 d.entries) else [])
