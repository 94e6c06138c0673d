-- Must rows beside a lawful set, which has them all.
use Rattle.std.proofs.Common.{◌≡◌, ℕ, ◌≤◌, Bool, true, false, cond, ◌&&◌, List, length, refl, arith}
use Rattle.bx_base.specs.Bookings.{Row, row_at, is_running, IsLawful}
use Rattle.bx_base.specs.Channels.{count_of}
use Rattle.bx_base.proofs.Duality.{runs, running-le-count}
use Rattle.bx_base.proofs.SumLemmas.{sum_below-le}
use Rattle.bx_planner.specs.Musts.{musts_at}

-- a must row of a set that has them all
pub in_set : (must holds runs_now : Bool) → (must ≡ true → holds ≡ true) → cond {A = ℕ} (must && runs_now) 1 0 ≤ cond (holds && runs_now) 1 0
in_set false h r e = omega arith
in_set true true r e = omega arith
in_set true false r e = let q = e refl in absurd (cc)

-- where a set is lawful, no moment has more must rows than channels
pub few_musts : (rows : List Row) (channels : List Bool) (set : ℕ → Bool) → IsLawful rows channels set → (t : ℕ) → musts_at rows t ≤ count_of channels
few_musts rows channels set lawful t =
    let each = sum_below-le (length rows) (λ i. cond ((row_at rows i).must && is_running (row_at rows i) t) 1 0) (λ i. cond (runs rows set t i) 1 0) (λ i h. in_set (row_at rows i).must (set i) (is_running (row_at rows i) t) (lawful.has_musts i h)) in
    omega (arith, each, running-le-count rows channels set lawful.carried.0 lawful.carried.1 t)
