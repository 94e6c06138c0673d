-- The moment to which a day has come, where it is not over: a line over all lanes, and its name below them.
use Rattle.std.specs.Prelude.{ℕ, ◌+◌, Bool, List, [], ◌++◌, codes, decimal, min, Option, if◌then◌else◌}
use Rattle.bx_calendar.specs.declared.clock.Clock.{Clock}
use Rattle.bx_chart.specs.Bars.{time_of}
use Rattle.bx_chart.specs.Hours.{Room, across, lanes_end, tenths}

-- a line at a place over all lanes, which end so far down
unfoldable pub now_line : ℕ → ℕ → List ℕ
now_line place end = codes "<path class='now' d='M" ++ tenths place ++ (codes " 92V" ++ decimal end) ++ codes "'/>\n"

-- the name of a second, at a place
unfoldable pub now_words : Option Clock → ℕ → ℕ → ℕ → List ℕ
now_words clock place down now = codes "<text class='small middle' x='" ++ tenths place ++ (codes "' y='" ++ decimal down) ++ codes "'>now " ++ time_of clock now ++ codes "</text>\n"

-- both, at the right end of the lanes where the day has come beyond it
abbrev pub now_part : Room → Option Clock → Bool → ℕ → List ℕ
now_part room clock is_over now = if is_over then [] else now_line (across room (min now room.seconds)) (lanes_end room) ++ now_words clock (across room (min now room.seconds)) (lanes_end room + 25) now
