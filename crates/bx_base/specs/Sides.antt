-- Private: the two sides of a term of the bound, as numbers from 0 on.
use Rattle.std.specs.Prelude.{ℕ, ◌-◌, List, if◌then◌else◌}
use Rattle.bx_base.specs.Bookings.{Row}
use Rattle.bx_base.specs.Bound.{Charge, cost_of}

-- the two sides of a term as numbers from 0 on: what the row brings, less what it takes
abbrev pub gain_of : List Charge → Row → ℕ
gain_of prices row = if row.must then row.pay else row.pay - cost_of prices row

abbrev pub loss_of : List Charge → Row → ℕ
loss_of prices row = if row.must then cost_of prices row else 0
