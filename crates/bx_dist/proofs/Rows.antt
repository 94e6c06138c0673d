-- The rows of a place from one on.
use Rattle.std.proofs.Common.{◌≡◌, ℕ, ◌+◌, ◌-◌, ◌<◌, ◌≤◌, length, Option, Some, None, refl, arith, inl, inr}
use Rattle.std.proofs.lemmas.Bool.{cases_lt}
use Rattle.bx_line.specs.declared.incidence.Incidence.{Incidence}
use Rattle.bx_line.specs.ByPlace.{place_on, IsFirstRow}
use Rattle.bx_line.specs.Network.{Network}
use Rattle.bx_dist.specs.Residual.{row_arc}

-- a row is not before this one, where there is one
abbrev pub IsFrom : Option ℕ → ℕ → Type 0
IsFrom None row = ⊥
IsFrom (Some k) row = k < row

-- how many rows may come yet
abbrev pub rows_left : ℕ → Option ℕ → ℕ
rows_left n None = 0
rows_left n (Some k) = n - k

pub fewer_left : (n row : ℕ) (next : Option ℕ) → row < n → ((r : ℕ) → next ≡ Some r → (row + 1 ≤ r) × (r < n)) → rows_left n next < rows_left n (Some row)
fewer_left n row None h there = omega arith
fewer_left n row (Some k) h there = let t = there k refl in omega (arith, t.0, t.1)

-- the rows from one on on a side are those from the next one of the place on
pub from_next : (side : Incidence) (line : Network) (place least row : ℕ) (next : Option ℕ) → IsFirstRow side line.arcs place least next → 1 ≤ row → row ≤ length line.arcs → place_on side (row_arc line row) ≡ place → least < row → IsFrom next row
from_next side line place least row None first named within at h = first.none refl (row - 1) (omega arith) (omega arith) at
from_next side line place least row (Some k) first named within at h = elim (cases_lt k row) [ inl a ↦ a | inr a ↦ absurd (first.before k refl (row - 1) (omega arith) (omega arith) at) ]
