-- When the seconds of a live day begin, in nanoseconds.
use Rattle.std.specs.Prelude.{ℕ, ◌+◌, ◌*◌, ◌/◌}
use Rattle.bx_live.specs.declared.schedule.Schedule.{Schedule}
use Rattle.bx_live.specs.declared.schedule.TheConstants.{SECOND}

abbrev pub first_instant_of : Schedule → ℕ
first_instant_of s = s.first

abbrev pub pace_of : Schedule → ℕ
pace_of s = s.pace

-- the instant of a second, from 1970-01-01T00:00:00Z on
abbrev pub instant_of_second : Schedule → ℕ → ℕ
instant_of_second s second = s.first * SECOND + (second * SECOND) / s.pace
