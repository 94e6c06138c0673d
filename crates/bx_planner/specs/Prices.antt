-- Private: the prices that heights at the places of a line set: what they fall by from place to place.
use Rattle.std.proofs.Common.{zero, suc}
use Rattle.std.specs.Prelude.{ℕ, ◌+◌, ◌==◌, List, [], ◌∷◌, ◌++◌, ℤ, nat_abs, ◌-ℤ◌, slice_index, if◌then◌else◌}
use Rattle.bx_base.specs.Bound.{Charge, charge_of}
use Rattle.bx_dist.specs.Residual.{height_at}

-- by how much the heights fall in a gap
abbrev pub fall_at : List ℤ → ℕ → ℕ
fall_at heights v = nat_abs (height_at heights v -ℤ height_at heights (v + 1))

-- what a price adds to the list
abbrev pub kept : Charge → List Charge
kept p = if p.amount == 0 then [] else (p ∷ [])

-- the price of a place
abbrev pub charge_at : List ℕ → List ℤ → ℕ → Charge
charge_at moments heights v = charge_of (slice_index moments v) (fall_at heights v)

-- the prices of the places below n
abbrev pub charges : List ℕ → List ℤ → ℕ → List Charge
charges moments heights zero = []
charges moments heights (suc n) = charges moments heights n ++ kept (charge_at moments heights n)
