-- The bars of a day's bookings: the bar of each as a plan has it, pale, and over it what was carried.
use Rattle.std.specs.Prelude.{ℕ, ◌+◌, ◌-◌, Bool, List, [], ◌++◌, codes, Option, Some, None, if◌then◌else◌}
use Rattle.bx_base.specs.Bookings.{Row}
use Rattle.bx_calendar.specs.declared.clock.Clock.{Clock}
use Rattle.bx_chart.specs.Bars.{class_of, corner, extent, height_of, lane_of, times_of, top_of, words_of}
use Rattle.bx_day.specs.Invariant.{stands_accepted}
use Rattle.bx_day.specs.declared.entry.Entry.{Entry}
use Rattle.bx_day.specs.declared.entry.Standing.{Standing}
use Rattle.bx_day_chart.specs.Marks.{mark_of}
use Rattle.bx_day_chart.specs.Standings.{carried_of, look_of, fate_words_of}

-- a box in a bar's lane, as high as the bar, from a second until another
abbrev pub box_place : Row → ℕ → ℕ → ℕ → List ℕ
box_place row lane from until = corner from (top_of row lane) ++ extent (until - from) (height_of row)

abbrev pub box : Row → List ℕ → ℕ → ℕ → ℕ → List ℕ
box row look lane from until = codes "<rect class='" ++ class_of row ++ look ++ box_place row lane from until ++ codes "'/>"

-- what was carried, if anything was
abbrev pub carried_box : Row → ℕ → Option (ℕ × ℕ) → List ℕ
carried_box row lane None = []
carried_box row lane (Some span) = box row (codes " carried") lane span.0 span.1

-- the bar of a booking, from its start to its end, over it what was carried, and its mark
abbrev pub bar_in : Row → Standing → ℕ → ℕ → List ℕ
bar_in row standing lane now = box row (look_of standing) lane row.start row.end ++ carried_box row lane (carried_of now standing) ++ mark_of row (top_of row lane) (top_of row lane + height_of row) standing

-- its title: the booking in words, its start and its end, and what became of it
abbrev pub title_of : Option Clock → ℕ → Entry → List ℕ
title_of clock now e = words_of e.booking e.row ++ times_of clock e.booking ++ fate_words_of clock now e.standing ++ codes "</title>"

-- a booking in a lane
abbrev pub call_of : Option Clock → ℕ → ℕ → Entry → List ℕ
call_of clock now lane e = codes "<g>" ++ title_of clock now e ++ bar_in e.booking e.standing lane now ++ codes "</g>\n"

-- a booking in the lane of its channel, or nothing where the plan refuses it
abbrev pub call_at : Option Clock → List Bool → ℕ → Entry → List ℕ
call_at clock channels now e = if stands_accepted e.standing then call_of clock now (lane_of channels e.channel) e else []
