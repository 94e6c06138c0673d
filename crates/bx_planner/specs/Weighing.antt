-- Private: a plan beside rows of which one is not among those that it accepts.
use Rattle.std.specs.Prelude.{◌≡◌, ◌≢◌, ℕ, ◌<◌, true, false, pos, List, length, slice_set}
use Rattle.bx_base.specs.Bookings.{Row, row_at, IsLawful, pay_of}
use Rattle.bx_base.specs.Bound.{bound_of}
use Rattle.bx_base.specs.Channels.{count_of}
use Rattle.bx_base.specs.PlanParts.{Parts}
use Rattle.bx_base.specs.Plans.{is_accepted}
use Rattle.bx_planner.specs.Thresholds.{offered}

-- the rows, of which each plan has to hold the one at i
abbrev pub rows_held : List Row → ℕ → List Row
rows_held rows i = slice_set rows i (record (row_at rows i) { must = true })

-- the rows, of which a plan is free to leave out the one at i
abbrev pub freed : List Row → ℕ → List Row
freed rows i = slice_set rows i (record (row_at rows i) { must = false })

-- a choice that leaves out the free row at i, and prices that prove it best whatever that row pays up to its cost
pub record IsSettledRow (plan : Parts) (rows : List Row) (i : ℕ) : Type 0 where
  pub inside : i < length rows
  pub free : (row_at rows i).must ≡ false
  pub left_out : is_accepted plan.assigned i ≡ false
  pub others_known : (j : ℕ) → j < length rows → j ≢ i → j < length plan.rows
  pub lawful : IsLawful rows plan.channels (is_accepted plan.assigned)
  pub paid : pay_of rows (is_accepted plan.assigned) ≡ plan.total
  pub proved : bound_of (offered rows i 0) (count_of plan.channels) plan.prices ≡ pos plan.total
