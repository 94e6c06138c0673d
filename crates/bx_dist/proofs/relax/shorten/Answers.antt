use Rattle.std.proofs.Common.{◌≡◌, true, ◌≤◌, ℤ, nat_abs, ◌+ℤ◌, to_z, of_z, w64, arith, refl}
use Rattle.std.specs.Prelude.{◌<ℤ◌}
use lib.Signed.{lt_z}
use Rattle.std.proofs.lemmas.Int.{ints}
use Rattle.bx_dist.specs.Residual.{height_at}
use Rattle.bx_dist.proofs.relax.shorten.Goals as goal

computed : (x y : ℤ) → nat_abs x ≤ 1110000000000000000 → nat_abs y ≤ 17001000000000 → to_z w64 (of_z w64 (to_z w64 (of_z w64 x) +ℤ to_z w64 (of_z w64 y))) ≡ (x +ℤ y)
computed x y a b = omega (arith, ints)

below : (x y z : ℤ) → nat_abs x ≤ 1110000000000000000 → nat_abs y ≤ 17001000000000 → nat_abs z ≤ 1110000000000000000 → lt_z (to_z w64 (of_z w64 (to_z w64 (of_z w64 x) +ℤ to_z w64 (of_z w64 y)))) (to_z w64 (of_z w64 z)) ≡ true → (x +ℤ y) <ℤ z
below x y z a b c h = omega (arith, ints)

pub returns-then-shorter-lengths-clause-shorter : goal.returns-then-shorter-lengths-clause-shorter
returns-then-shorter-lengths-clause-shorter c =
    let lengths = c.args.lengths.now in
    let ends = c.ends_of-from in
    let sum = computed (height_at lengths ends.result.0) ends.result.2 (c.requires.medium ends.result.0) ends.ensures.small in
    let lower = below (height_at lengths ends.result.0) ends.result.2 (height_at lengths ends.result.1) (c.requires.medium ends.result.0) ends.ensures.small (c.requires.medium ends.result.1) c.if-shorter-lengths.true in
    λ _. record {
      now = rw (sum, ends.ensures.to, ends.ensures.from, ends.ensures.cost) refl;
      lower = rw (← ends.ensures.to, ← ends.ensures.from, ← ends.ensures.cost) lower;
    }
