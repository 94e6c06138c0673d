use Rattle.std.proofs.Common.{◌≡◌, ◌+◌, ◌<◌, ◌≤◌, ◌∷◌, [], ◌++◌, ℕ, ℤ, List, nat_abs, length, get_or, ◌∙◌, ap, arith, rules, inl, inr}
use Rattle.std.specs.Prelude.{pos}
use Rattle.std.proofs.lemmas.Bool.{cases_lt}
use Rattle.std.proofs.lemmas.List.{get_or_push, get_or_append_left, get_or_past, length_push}
use Rattle.bx_dist.specs.Residual.{height_at, AreSmall}
use Rattle.bx_dist.proofs.potentials.Potentials.lifted.Goals as goal

module _ (heights : List ℤ) (z : ℤ) where
  early : (v : ℕ) → v < length heights → height_at (heights ++ z ∷ []) v ≡ height_at heights v
  early v h = get_or_append_left heights (z ∷ []) (pos 0) v h

  here : (v : ℕ) → length heights ≡ v → height_at (heights ++ z ∷ []) v ≡ z
  here v e = get_or_push heights z (pos 0) v e

  beyond : (v : ℕ) → length heights < v → height_at (heights ++ z ∷ []) v ≡ pos 0
  beyond v h = get_or_past (heights ++ z ∷ []) v (pos 0) (omega (arith, length_push heights z))

  small_more : AreSmall heights → nat_abs z ≤ 550000000000000000 → AreSmall (heights ++ z ∷ [])
  small_more small little v =
      elim (cases_lt v (length heights)) [
        | inl a ↦ rw (early v a) (small v)
        | inr a ↦ elim (cases_lt (length heights) v) [ inl b ↦ rw (beyond v b) (omega arith) | inr b ↦ rw (here v (omega arith)) little ]
      ]

  each_more : (of : ℕ → ℤ) (n : ℕ) → length heights ≡ n → z ≡ of n → ((v : ℕ) → v < n → height_at heights v ≡ of v) → (v : ℕ) → v < n + 1 → height_at (heights ++ z ∷ []) v ≡ of v
  each_more of n size last before v h =
      elim (cases_lt v n) [
        | inl a ↦ early v (omega (arith, a, size)) ∙ before v a
        | inr a ↦ (let e : n ≡ v = omega arith in here v (size ∙ e) ∙ (last ∙ ap of e))
      ]

pub loop-place-preserved : goal.loop-place-preserved
loop-place-preserved c =
    let heights = c.loop-place.heights.items in
    let i = c.loop-place.invariant in
    let of = λ (v : ℕ). height_at c.args.self.now (get_or c.args.places.now v 0) in
    let value : c.at.result ≡ of c.loop-place.place-index = search rules in
    let little : nat_abs c.at.result ≤ 550000000000000000 = rw value (c.at.ensures.small (get_or c.args.places.now c.loop-place.place-index 0)) in
    let new : c.push.new.self.items ≡ heights ++ c.at.result ∷ [] = search rules in
    rw new (record {
      size = length_push heights c.at.result ∙ ap (λ (n : ℕ). n + 1) i.size;
      small = small_more heights c.at.result i.small little;
      each = each_more heights c.at.result of c.loop-place.place-index i.size value i.each;
    })
