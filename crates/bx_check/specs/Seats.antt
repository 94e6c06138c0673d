-- Private: the accepted rows of a plan, each with its channel and its start.
use Rattle.std.specs.Prelude.{◌≡◌, ℕ, ◌<◌, ◌≤◌, ◌+◌, true, slice_index_or, List, length, Option, All, Contains}
use Rattle.bx_base.specs.Bookings.{Row, row_at}
use Rattle.bx_base.specs.Plans.{is_accepted, channel_at}

-- the channel, the start and the index of a row
abbrev pub seat_of : List Row → List (Option ℕ) → ℕ → ℕ × ℕ × ℕ
seat_of rows assigned i = (channel_at assigned i, (row_at rows i).start, i)

-- the seat of a row of the plan
abbrev pub IsSeat : List Row → List (Option ℕ) → ℕ × ℕ × ℕ → Type 0
IsSeat rows assigned seat = (i : ℕ) × (i < length rows) × (seat ≡ seat_of rows assigned i)

-- the seats of the accepted rows below n
pub record AreSeats (rows : List Row) (assigned : List (Option ℕ)) (n : ℕ) (seats : List (ℕ × ℕ × ℕ)) : Type 0 where
  pub few : length seats ≤ n
  pub each : All (IsSeat rows assigned) seats
  pub all : (i : ℕ) → i < n → is_accepted assigned i ≡ true → Contains seats (seat_of rows assigned i)

-- the seat at a place of a list
abbrev pub seat_at : List (ℕ × ℕ × ℕ) → ℕ → ℕ × ℕ × ℕ
seat_at seats k = slice_index_or seats k (0, 0, 0)

-- the first k seats keep apart from their neighbours: on one channel each ends before the next starts
abbrev pub KeepApart : List Row → List (ℕ × ℕ × ℕ) → ℕ → Type 0
KeepApart rows seats k = (j : ℕ) → j + 1 < k → (seat_at seats j).0 ≡ (seat_at seats (j + 1)).0 → (row_at rows (seat_at seats j).2).end ≤ (seat_at seats (j + 1)).1
