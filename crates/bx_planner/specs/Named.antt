-- Rows named 1, 2, ..
use Rattle.std.specs.Prelude.{◌≡◌, ℕ, ◌+◌, ◌-◌, ◌≤◌, ◌==◌, ◌&&◌, ◌||◌, not, Bool, true, List, [], ◌∷◌, ◌++◌, All, sum_by, if◌then◌else◌, zero, suc}
use Rattle.std.specs.List.{list_any}
use Rattle.std.specs.List.Sorted.{IsStrictlyIncreasing}
use Rattle.bx_base.specs.Bookings.{Row, row_at}

-- names of rows that pass a test of their places, of so many rows, in rising order
pub record AreRowsThatPass (count : ℕ) (test : ℕ → Bool) (named : List ℕ) : Type 0 where
  pub rising : IsStrictlyIncreasing named
  pub each : All (λ row. (1 ≤ row) × (row ≤ count) × (test (row - 1) ≡ true)) named

-- what the named rows pay together
abbrev pub pay_of_rows : List Row → List ℕ → ℕ
pay_of_rows rows named = sum_by (λ row. (row_at rows (row - 1)).pay) named

-- whether the row at i is named
abbrev pub is_named : List ℕ → ℕ → Bool
is_named named i = list_any (λ row. row == i + 1) named

-- the set with the row at i, without the rows named `instead`, and with those named `besides`
abbrev pub traded : (ℕ → Bool) → ℕ → List ℕ → List ℕ → ℕ → Bool
traded set i instead besides j = (j == i) || (is_named besides j || (set j && not (is_named instead j)))

-- the names of the first n rows that pass a test of their places
abbrev pub picked : (ℕ → Bool) → ℕ → List ℕ
picked test zero = []
picked test (suc n) = picked test n ++ (if test n then suc n ∷ [] else [])
