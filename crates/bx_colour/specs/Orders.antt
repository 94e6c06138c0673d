-- Private: lists of accepted rows, each with its start.
use Rattle.std.specs.Prelude.{◌≡◌, ℕ, Bool, true, List, length}
use Rattle.bx_base.specs.Bookings.{Row, row_at}
use Rattle.bx_base.specs.Orders.{AreListed, AreInOrder}
use Rattle.bx_colour.specs.Colouring.{is_in}

abbrev pub IsAccepted : List Bool → ℕ → Type 0
IsAccepted accepted i = is_in accepted i ≡ true

abbrev pub row_start_of : List Row → ℕ → ℕ
row_start_of rows i = (row_at rows i).start

-- each accepted row below n, in the order of the rows
abbrev pub IsListed : List Row → List Bool → ℕ → List (ℕ × ℕ) → Type 0
IsListed rows accepted n order = AreListed (length rows) (IsAccepted accepted) (row_start_of rows) n order

-- each accepted row once, in the order of (start, row)
abbrev pub IsOrder : List Row → List Bool → List (ℕ × ℕ) → Type 0
IsOrder rows accepted order = AreInOrder (length rows) (IsAccepted accepted) (row_start_of rows) order
