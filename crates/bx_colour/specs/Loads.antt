-- How many bookings of a set run at each moment.
use Rattle.std.specs.Prelude.{ℕ, length}
use Rattle.bx_colour.specs.Counted.{running_between}
use Rattle.bx_colour.specs.declared.load.Load.{Load}

-- how many of the bookings run at a moment: those that have started, less those that have ended
abbrev pub load_at : Load → ℕ → ℕ
load_at load moment = running_between load.starts.items load.ends.items moment

-- how many bookings were added
abbrev pub size_of : Load → ℕ
size_of load = length load.starts.items
