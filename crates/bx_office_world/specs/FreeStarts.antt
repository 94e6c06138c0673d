-- When a call may start beside all that is promised.
use Rattle.std.specs.Prelude.{◌<◌, ◌≤◌, ◌+◌, ℕ, Bool, List, length, if◌then◌else◌}
use Rattle.bx_base.specs.Bookings.{Row, row_at, is_running}
use Rattle.bx_base.specs.Channels.{count_of}
use Rattle.bx_base.specs.Sums.{sum_below}
use Rattle.bx_base.specs.declared.booking.TheConstants.{MAX_MOMENT}
use Rattle.bx_day.specs.Day.{Day}
use Rattle.bx_market.specs.Choices.{promised}
use Rattle.bx_sales.specs.Left.{left_in_service}
use Rattle.bx_office_world.specs.declared.desk.Opened.{Opened}
use Rattle.bx_office_world.specs.declared.wish.Wish.{Wish}

-- ---- what runs

-- how many of the first so many rows run at a second, and how many of all that is promised and counts on these channels
abbrev pub running_below : List Row → ℕ → ℕ → ℕ
running_below rows n second = sum_below n (λ i. if is_running (row_at rows i) second then 1 else 0)

abbrev pub promised_at : Day → List Bool → ℕ → ℕ
promised_at d channels second = running_below (promised channels d.moment d.entries) (length (promised channels d.moment d.entries)) second

-- ---- free starts

-- a start that is wished for comes later, and the day is run to it
pub record IsWished (moment last : ℕ) (wish : Wish) (start : ℕ) : Type 0 where
  pub later : moment < start
  pub from : wish.from ≤ start
  pub to : start ≤ wish.to
  pub within : start ≤ last

-- .. and it is free, if at each second of the call fewer of the promised bookings run than channels in service are left
pub record IsFreeStart (opened : Opened) (d : Day) (wish : Wish) (start : ℕ) : Type 0 where
  pub wished : IsWished d.moment opened.last wish start
  pub in_day : start + wish.length ≤ MAX_MOMENT
  pub free : (second : ℕ) → start ≤ second → second < start + wish.length → promised_at d (left_in_service opened.channels d) second < count_of (left_in_service opened.channels d)
