-- The paths of bookings, by their rows of the plan.
use Rattle.std.specs.Prelude.{◌≤◌, ◌++◌, ℕ, List, codes, decimal}

abbrev pub IsPlanRow : ℕ → Type 0
IsPlanRow row = (1 ≤ row) × (row ≤ 65535)

abbrev pub booking_path : ℕ → List ℕ
booking_path row = codes "/bookings/" ++ decimal row
