-- The bars of a picture: one for each booking that the plan accepts.
use Rattle.std.specs.Prelude.{ℕ, ◌+◌, ◌-◌, ◌*◌, Bool, List, [], ◌++◌, length, codes, decimal, nat_lt, ◌/◌, ◌%◌, if◌then◌else◌, zero, suc, Option, Some, None, unwrap_or}
use Rattle.bx_base.specs.Bookings.{Row, row_at}
use Rattle.bx_base.specs.Channels.{has_channel}
use Rattle.bx_base.specs.PlanParts.{Parts}
use Rattle.bx_base.specs.Plans.{is_accepted, channel_at}
use Rattle.bx_base.specs.Sums.{sum_below}
use Rattle.bx_calendar.specs.Clocks.{second_shown_by}
use Rattle.bx_calendar.specs.declared.clock.Clock.{Clock}

-- the lane of a channel: how many channels in service have a lower number
abbrev pub lane_of : List Bool → ℕ → ℕ
lane_of channels channel = sum_below channel (λ n. if has_channel channels n then 1 else 0)

-- two digits
abbrev pub two_digits : ℕ → List ℕ
two_digits n = (if nat_lt n 10 then codes "0" else []) ++ decimal n

-- seconds from midnight on as hours, minutes and seconds
abbrev pub clock : ℕ → List ℕ
clock second = decimal (second / 3600) ++ codes ":" ++ two_digits (second / 60 % 60) ++ codes ":" ++ two_digits (second % 60)

-- how a bar looks: the must ones taller, the inward ones with a stripe
abbrev pub class_of : Row → List ℕ
class_of row = (if row.must then codes "must " else codes "free ") ++ (if row.inward then codes "in" else codes "out")

-- a bar in its lane, which is ten units high
abbrev pub top_of : Row → ℕ → ℕ
top_of row lane = 10 * lane + (if row.must then 1 else 3)

abbrev pub height_of : Row → ℕ
height_of row = if row.must then 9 else 5

-- its number and its pay
abbrev pub pay_words : Row → List ℕ
pay_words row = row.number ++ codes " pays " ++ decimal row.pay

-- the booking, in words
abbrev pub words_of : Row → ℕ → List ℕ
words_of row name = (codes "<title>row " ++ decimal name ++ codes ": ") ++ pay_words row

-- a second after the day's start in seconds from midnight: as the day's clock shows it, or without one, or out of its range, the same
abbrev pub clock_second_at : Option Clock → ℕ → ℕ
clock_second_at None second = second
clock_second_at (Some day_clock) second = unwrap_or (second_shown_by day_clock second) second

-- such a second as it is told
abbrev pub time_of : Option Clock → ℕ → List ℕ
time_of day_clock second = clock (clock_second_at day_clock second)

-- its start and its end
abbrev pub times_of : Option Clock → Row → List ℕ
times_of day_clock row = codes ", " ++ time_of day_clock row.start ++ codes " to " ++ time_of day_clock row.end

-- the upper left corner of a rectangle, and how wide and how high it is: a unit of its width is a second
abbrev pub corner : ℕ → ℕ → List ℕ
corner across down = codes "' x='" ++ decimal across ++ codes "' y='" ++ decimal down

abbrev pub extent : ℕ → ℕ → List ℕ
extent wide high = codes "' width='" ++ decimal wide ++ codes "' height='" ++ decimal high

-- how wide and how high a bar is
abbrev pub bar_size_of : Row → List ℕ
bar_size_of row = extent (row.end - row.start) (height_of row) ++ codes "'>"

-- where it begins
abbrev pub place_of : Row → ℕ → List ℕ
place_of row lane = (codes "<rect class='" ++ class_of row) ++ corner row.start (top_of row lane)

-- the bar of a booking
abbrev pub bar_of : Option Clock → Row → ℕ → ℕ → List ℕ
bar_of day_clock row lane name = place_of row lane ++ bar_size_of row ++ words_of row name ++ times_of day_clock row ++ codes "</title></rect>\n"

-- the bar of the booking at a place, or none where the plan refuses it
abbrev pub bar_at : Parts → Option Clock → ℕ → List ℕ
bar_at plan day_clock i = if is_accepted plan.assigned i then bar_of day_clock (row_at plan.rows i) (lane_of plan.channels (channel_at plan.assigned i)) (i + 1) else []

-- the bars of the first n bookings, in their order
abbrev pub bars_below : Parts → Option Clock → ℕ → List ℕ
bars_below plan day_clock zero = []
bars_below plan day_clock (suc n) = bars_below plan day_clock n ++ bar_at plan day_clock n

-- the bars of all that the plan accepts, with the times of a clock where there is one
abbrev pub bars : Parts → Option Clock → List ℕ
bars plan day_clock = bars_below plan day_clock (length plan.rows)
