-- The head of a picture of a day, and its legend.
use Rattle.std.specs.Prelude.{ℕ, Bool, List, [], ◌++◌, length, codes, decimal, Option, if◌then◌else◌}
use Rattle.bx_calendar.specs.declared.clock.Clock.{Clock}
use Rattle.bx_chart.specs.Bars.{time_of}
use Rattle.bx_chart.specs.Frames.{height, legend, paper, sized, style}
use Rattle.bx_chart.specs.Hours.{Room}
use Rattle.bx_day.specs.Day.{Day}
use Rattle.bx_day.specs.declared.entry.Entry.{Entry}
use Rattle.bx_day_chart.specs.Counting.{fate_count_of, fate_pay_of}
use Rattle.bx_day_chart.specs.Sights.{Sight}
use Rattle.bx_day_chart.specs.declared.counting.Fate.TheVariants.{Accepted, Waiting, Live, Carried, Unanswered, Missed}

-- how each kind of thing looks that a plan's picture has not
unfoldable pub day_style : List ℕ
day_style =
    codes "<style>\n"
    ++ codes ".planned{fill-opacity:.25;stroke-dasharray:3 2}\n"
    ++ codes ".live{stroke-width:2;stroke-dasharray:none}\n"
    ++ codes ".mark{fill:none;stroke:#222;stroke-width:1.2;vector-effect:non-scaling-stroke}\n"
    ++ codes ".outage{fill:#444;fill-opacity:.3;pointer-events:none}\n"
    ++ codes ".broken{fill:url(#broken)}\n"
    ++ codes ".now{fill:none;stroke:#c00;stroke-width:1.5}\n"
    ++ codes "</style>\n"
    ++ codes "<defs>\n"
    ++ codes "<pattern id='broken' width='6' height='6' patternUnits='userSpaceOnUse' patternTransform='rotate(45)'><rect width='2' height='6' fill='#9a7b4f'/></pattern>\n"
    ++ codes "</defs>\n"

-- a sample of all that may become of a call, and of what stands round calls
unfoldable pub samples : List ℕ
samples =
    codes "<svg x='56' width='28' height='16' viewBox='0 0 28 10' preserveAspectRatio='none'><rect class='free out planned' x='1' y='3' width='26' height='5'/></svg><text x='90' y='13'>waiting</text>\n"
    ++ codes "<svg x='196' width='28' height='16' viewBox='0 0 28 10' preserveAspectRatio='none'><rect class='free out planned live' x='1' y='3' width='26' height='5'/><rect class='free out carried' x='1' y='3' width='13' height='5'/></svg><text x='230' y='13'>live</text>\n"
    ++ codes "<svg x='336' width='28' height='16' viewBox='0 0 28 10' preserveAspectRatio='none'><rect class='free out carried' x='1' y='3' width='26' height='5'/></svg><text x='370' y='13'>carried</text>\n"
    ++ codes "<svg x='476' width='28' height='16' viewBox='0 0 28 10' preserveAspectRatio='none'><rect class='free out planned' x='1' y='3' width='26' height='5'/><rect class='free out carried' x='1' y='3' width='13' height='5'/><path class='mark' d='M14 3L27 8'/></svg><text x='510' y='13'>cut short</text>\n"
    ++ codes "<svg x='616' width='28' height='16' viewBox='0 0 28 10' preserveAspectRatio='none'><rect class='free out planned' x='1' y='3' width='26' height='5'/><path class='mark' d='M1 8L27 3'/><path class='mark' d='M1 3L27 8'/></svg><text x='650' y='13'>unanswered</text>\n"
    ++ codes "<svg x='756' width='28' height='16' viewBox='0 0 28 10' preserveAspectRatio='none'><rect class='free out planned' x='1' y='3' width='26' height='5'/><path class='mark' d='M1 8L27 3'/></svg><text x='790' y='13'>missed</text>\n"
    ++ codes "<rect class='outage' x='896' width='28' height='16'/><text x='930' y='13'>no link</text>\n"
    ++ codes "<rect class='broken' x='1036' y='1' width='28' height='14'/><text x='1070' y='13'>maintenance</text>\n"
    ++ codes "</svg>\n"

-- the element of the whole picture, so high, with what it is called
abbrev pub titled : ℕ → List ℕ
titled height = sized height ++ codes "'>\n<title>A day as it went</title>\n"

-- how things look, and the paper
abbrev pub day_opening : ℕ → List ℕ
day_opening height = titled height ++ style ++ day_style ++ paper height

-- two counts, each after its words
abbrev pub pair : List ℕ → ℕ → List ℕ → ℕ → List ℕ
pair words count more second = (words ++ decimal count) ++ (more ++ decimal second)

-- as far as when the day has come, where it is not over
abbrev pub so_far : Option Clock → Bool → ℕ → List ℕ
so_far clock is_over now = if is_over then [] else codes ", as far as " ++ time_of clock now

-- what carried calls pay, and of how much
abbrev pub heading : List Entry → Option Clock → Bool → ℕ → List ℕ
heading entries clock is_over now = pair (codes "<text class='head' x='56' y='26'>Paid ") (fate_pay_of Carried entries) (codes " of ") (fate_pay_of Accepted entries) ++ so_far clock is_over now ++ codes "</text>\n"

-- how many calls have become what
abbrev pub tally : List Entry → List ℕ
tally entries = pair (codes "<text x='56' y='46'>") (fate_count_of Carried entries) (codes " of ") (fate_count_of Accepted entries)
    ++ pair (codes " calls carried, ") (fate_count_of Live entries) (codes " live, ") (fate_count_of Waiting entries)
    ++ pair (codes " waiting, ") (fate_count_of Unanswered entries) (codes " unanswered, ") (fate_count_of Missed entries)

-- how many outages there were
abbrev pub link_words : ℕ → List ℕ
link_words outages = (codes " missed; outages of the link: " ++ decimal outages) ++ codes "</text>\n"

-- all that stands above the lanes
abbrev pub day_head : Day → Sight → Option Clock → Room → List ℕ
day_head d sight clock room = day_opening (height room) ++ heading d.entries clock sight.is_over d.moment ++ tally d.entries ++ link_words (length sight.outages) ++ legend

-- the legend of what became of a call, so far down
abbrev pub day_legend : ℕ → List ℕ
day_legend down = (codes "<svg y='" ++ decimal down) ++ codes "' width='1200' height='20'>\n" ++ samples
