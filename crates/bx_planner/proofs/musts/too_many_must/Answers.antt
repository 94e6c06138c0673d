use Rattle.std.proofs.Common.{◌≡◌, ℕ, ◌<◌, ◌&&◌, List, length, Bool, false, cond, refl, arith}
use Rattle.bx_base.specs.Bookings.{Row, row_at, is_running}
use Rattle.bx_base.proofs.SumLemmas.{sum_below-zero}
use Rattle.bx_planner.specs.Musts.{musts_at}
use Rattle.bx_planner.proofs.musts.too_many_must.Goals as goal

none_here : (must runs : Bool) → must ≡ false → ◌≡◌ {A = ℕ} (cond (must && runs) 1 0) 0
none_here must runs e = rw e refl

-- where no row is a must row none runs
none_run : (rows : List Row) → ((i : ℕ) → i < length rows → (row_at rows i).must ≡ false) → (t : ℕ) → musts_at rows t ≡ 0
none_run rows free t = sum_below-zero (length rows) (λ i. cond ((row_at rows i).must && is_running (row_at rows i) t) 1 0) (λ i h. none_here (row_at rows i).must (is_running (row_at rows i) t) (free i h))

pub returns-then-not-has_must : goal.returns-then-not-has_must
returns-then-not-has_must c =
    let none = none_run c.args.demand.now (c.has_must.ensures c.if-not-has_must.true) in
    λ t. (λ e. absurd (cc), λ h. absurd (omega (arith, h.here, none t)))

pub returns : goal.returns
returns c =
    let count = c.count.ensures.value in
    let all = c.must_load-load.ensures in
    λ t. (
      λ e. let found = (c.first_above.ensures.first t).0 e in record { here = omega (arith, found.0, all t, count); least = λ s h. omega (arith, found.1 s h, all s, count) },
      λ h. (c.first_above.ensures.first t).1 (omega (arith, h.here, all t, count), λ s b. omega (arith, h.least s b, all s, count)),
    )
