-- What stands round the bars of a picture, up to them: its head, the legend, the lanes, and the head of the part that the bars are in.
use Rattle.std.specs.Prelude.{ℕ, zero, suc, ◌+◌, ◌*◌, ◌-◌, ◌&&◌, Bool, List, [], ◌++◌, length, codes, decimal, if◌then◌else◌}
use Rattle.bx_base.specs.Bookings.{row_at}
use Rattle.bx_base.specs.Channels.{has_channel, count_of}
use Rattle.bx_base.specs.PlanParts.{Parts}
use Rattle.bx_base.specs.Plans.{is_accepted}
use Rattle.bx_base.specs.Sums.{sum_below}
use Rattle.bx_chart.specs.Bars.{lane_of}
use Rattle.bx_chart.specs.Hours.{Room, lanes_end, prices_top}

-- how high the picture is
abbrev pub height : Room → ℕ
height room = if room.has_bands then prices_top room + 94 else lanes_end room + 62

-- how each kind of thing looks
unfoldable pub style : List ℕ
style =
    codes "<style>\n"
    ++ codes "text{font:12px sans-serif;fill:#222}\n"
    ++ codes ".head{font-size:18px;font-weight:bold}\n"
    ++ codes ".small{font-size:10px;fill:#555}\n"
    ++ codes ".right{text-anchor:end}\n"
    ++ codes ".middle{text-anchor:middle}\n"
    ++ codes ".lane{fill:#eef1f4}\n"
    ++ codes ".hour{stroke:#b9c2cb;stroke-width:.6}\n"
    ++ codes ".free,.must{stroke:#16456e;stroke-width:.6;vector-effect:non-scaling-stroke}\n"
    ++ codes ".must{stroke:#4a2500}\n"
    ++ codes ".free.out{fill:#a5cdf0}\n"
    ++ codes ".free.in{fill:url(#free)}\n"
    ++ codes ".must.out{fill:#f5a742}\n"
    ++ codes ".must.in{fill:url(#must)}\n"
    ++ codes ".start{fill:none;stroke:#fff;stroke-width:.7}\n"
    ++ codes ".refused{fill:#b5538a}\n"
    ++ codes ".prices{fill:#5b9a68}\n"
    ++ codes ".edge{fill:none;stroke:#7a8691;stroke-width:.8}\n"
    ++ codes "</style>\n"
    ++ codes "<defs>\n"
    ++ codes "<linearGradient id='free' x1='0' y1='0' x2='0' y2='1'><stop offset='.38' stop-color='#a5cdf0'/><stop offset='.38' stop-color='#16456e'/><stop offset='.62' stop-color='#16456e'/><stop offset='.62' stop-color='#a5cdf0'/></linearGradient>\n"
    ++ codes "<linearGradient id='must' x1='0' y1='0' x2='0' y2='1'><stop offset='.38' stop-color='#f5a742'/><stop offset='.38' stop-color='#4a2500'/><stop offset='.62' stop-color='#4a2500'/><stop offset='.62' stop-color='#f5a742'/></linearGradient>\n"
    ++ codes "</defs>\n"

-- a sample of each kind of bar, and what it means
unfoldable pub legend : List ℕ
legend =
    codes "<svg x='56' y='56' width='28' height='16' viewBox='0 0 28 10' preserveAspectRatio='none'><rect class='must out' x='1' y='1' width='26' height='9'/></svg><text x='90' y='69'>must, outward</text>\n"
    ++ codes "<svg x='196' y='56' width='28' height='16' viewBox='0 0 28 10' preserveAspectRatio='none'><rect class='must in' x='1' y='1' width='26' height='9'/></svg><text x='230' y='69'>must, inward</text>\n"
    ++ codes "<svg x='336' y='56' width='28' height='16' viewBox='0 0 28 10' preserveAspectRatio='none'><rect class='free out' x='1' y='3' width='26' height='5'/></svg><text x='370' y='69'>free, outward</text>\n"
    ++ codes "<svg x='476' y='56' width='28' height='16' viewBox='0 0 28 10' preserveAspectRatio='none'><rect class='free in' x='1' y='3' width='26' height='5'/></svg><text x='510' y='69'>free, inward</text>\n"

-- the element of the whole picture, so high
abbrev pub sized : ℕ → List ℕ
sized height = (codes "<svg xmlns='http://www.w3.org/2000/svg' version='1.1' width='1200' height='" ++ decimal height) ++ (codes "' viewBox='0 0 1200 " ++ decimal height)

-- with what it is called
abbrev pub chart_opened : ℕ → List ℕ
chart_opened height = sized height ++ codes "'>\n<title>The plan of a day</title>\n"

-- its paper
abbrev pub paper : ℕ → List ℕ
paper height = (codes "<rect width='1200' height='" ++ decimal height) ++ codes "' fill='#fff'/>\n"

-- how many of the first n rows the plan accepts, and how many of these are must
abbrev pub accepted_below : Parts → ℕ → ℕ
accepted_below plan n = sum_below n (λ i. if is_accepted plan.assigned i then 1 else 0)

abbrev pub must_below : Parts → ℕ → ℕ
must_below plan n = sum_below n (λ i. if is_accepted plan.assigned i && (row_at plan.rows i).must then 1 else 0)

-- the total, in words
abbrev pub total_words : ℕ → List ℕ
total_words total = (codes "<text class='head' x='56' y='26'>Total " ++ decimal total) ++ codes "</text>\n"

-- how many rows are accepted, and of how many
abbrev pub accepted_words : ℕ → ℕ → List ℕ
accepted_words accepted rows = (codes "<text x='56' y='46'>" ++ decimal accepted) ++ (codes " of " ++ decimal rows)

-- how many of those are must, and how many rows are refused
abbrev pub must_words : ℕ → ℕ → List ℕ
must_words must refused = (codes " calls accepted, " ++ decimal must) ++ (codes " of them must; " ++ decimal refused)

abbrev pub row_words : ℕ → ℕ → ℕ → List ℕ
row_words accepted rows must = accepted_words accepted rows ++ must_words must (rows - accepted)

-- how many channels are in service
abbrev pub service_words : ℕ → List ℕ
service_words count = codes " refused; channels in service: " ++ decimal count

abbrev pub counts : Parts → List ℕ
counts plan = total_words plan.total ++ row_words (accepted_below plan (length plan.rows)) (length plan.rows) (must_below plan (length plan.rows)) ++ service_words (count_of plan.channels)

-- all that stands before the gain of one more channel
abbrev pub head : Parts → Room → List ℕ
head plan room = chart_opened (height room) ++ style ++ paper (height room) ++ counts plan

-- what one more channel would add, in words
abbrev pub gain_words : ℕ → List ℕ
gain_words gain = (codes "; one more channel would add " ++ decimal gain) ++ codes "</text>\n"

-- the lane of a channel, so many down
abbrev pub lane_box : ℕ → List ℕ
lane_box down = (codes "<rect class='lane' x='56' y='" ++ decimal down) ++ codes "' width='1120' height='14'/>"

-- and its number beside it
abbrev pub lane_name : ℕ → ℕ → List ℕ
lane_name down number = (codes "<text class='small right' x='50' y='" ++ decimal down) ++ (codes "'>" ++ decimal number) ++ codes "</text>\n"

abbrev pub lane : ℕ → ℕ → List ℕ
lane number top = lane_box (top + 1) ++ lane_name (top + 12) number

-- the lanes of the channels in service with a number below n
abbrev pub lanes_below : List Bool → ℕ → List ℕ
lanes_below channels zero = []
lanes_below channels (suc n) = lanes_below channels n ++ (if has_channel channels n then lane n (92 + 16 * lane_of channels n) else [])

-- the element that the bars are in, so high
abbrev pub day_box : ℕ → List ℕ
day_box height = codes "<svg x='56' y='92' width='1120' height='" ++ decimal height

-- and so many units wide and high
abbrev pub day_units : ℕ → ℕ → List ℕ
day_units wide high = (codes "' viewBox='0 0 " ++ decimal wide) ++ (codes " " ++ decimal high) ++ codes "' preserveAspectRatio='none'>\n"

-- its units are the seconds of the day, and tenths of lanes
abbrev pub opened_day : Room → List ℕ
opened_day room = day_box (16 * room.lanes) ++ day_units room.seconds (10 * room.lanes)

-- all that stands between that gain and the bars
abbrev pub front : Parts → Room → List ℕ
front plan room = legend ++ lanes_below plan.channels 32 ++ opened_day room
