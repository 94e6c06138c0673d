-- Private: the path of a booking, while it is read.
use Rattle.std.specs.Prelude.{◌≡◌, ℕ, List}
use Rattle.bx_office.specs.Rows.{IsPlanRow, booking_path}

-- the path names this row
abbrev pub IsRowPath : ℕ → List ℕ → Type 0
IsRowPath row path = IsPlanRow row × (path ≡ booking_path row)
