-- Where the moves of one unit more do not lead to the last second, the prices can be lowered: after the places that were not
-- seen, all that comes before them is less by one. These prices prove the set too, and their sum is less.
use Rattle.std.proofs.Common.{zero, suc, ◌≡◌, ℕ, ◌+◌, ◌-◌, ◌<◌, ◌≤◌, Bool, true, false, cond, ltb, List, [], ◌∷◌, length, map, get_or, refl, ◌∙◌, ap, subst, arith, inl, inr}
use Rattle.std.specs.Prelude.{ℤ, pos, neg_ℤ, ◌-ℤ◌, nat_abs}
use Rattle.std.specs.List.{range_with_len}
use Rattle.std.specs.List.Sorted.{IsStrictlyIncreasing}
use Rattle.std.proofs.lemmas.Int.{ints}
use Rattle.std.proofs.lemmas.Bool.{cases_lt, cases_eq, cases_Bool}
use Rattle.std.proofs.lemmas.Bool.Decides.{nat_tests}
use Rattle.std.proofs.lemmas.List.Sums.{sum_by-cons}
use Rattle.std.proofs.lemmas.List.FromFn.{length-range_with_len, get_or-range_with_len, get_or-map-range_with_len}
use Rattle.bx_base.specs.Sums.{sum_below}
use Rattle.bx_base.specs.Bookings.{Row, row_at, pay_of}
use Rattle.bx_base.specs.Bound.{Charge, IsPriceList, sum_of_prices, cost_of, bound_of}
use Rattle.bx_check.specs.Before.{sum_before}
use Rattle.bx_check.proofs.Before.{cost_between}
use Rattle.bx_dist.specs.Residual.{height_at}
use Rattle.bx_planner.specs.Prices.{fall_at, charges}
use Rattle.bx_planner.specs.Tight.{runs_at, AreTightPrices}
use Rattle.bx_planner.proofs.Before.{before_rises, charges_before}
use Rattle.bx_planner.proofs.Priced.{sum_of_charges, all_charges, charges_rise}
use Rattle.bx_planner.proofs.Slack.{bound_from_tight}

nothing_first : (prices : List Charge) → sum_before prices 0 ≡ 0
nothing_first [] = refl
nothing_first (p ∷ ps) =
    let here : ◌≡◌ {A = ℕ} (cond (ltb p.moment 0) p.amount 0) 0 = grind (arith, nat_tests) in
    omega (arith, here, nothing_first ps, sum_by-cons (λ q. cond (ltb q.moment 0) q.amount 0) p ps)

fall_value : (a b : ℕ) (x y : ℤ) → x ≡ neg_ℤ (pos a) → y ≡ neg_ℤ (pos b) → a ≤ b → nat_abs (x -ℤ y) + a ≡ b
fall_value a b x y e f h = omega (arith, ints)

taken_edge : (cost pay lowered from to : ℕ) (s e : Bool) → lowered + (from - cond s 0 1) ≡ to - cond e 0 1 → cost + from ≡ to → cond s 0 1 ≤ from → cost ≤ pay → (cost ≡ pay → e ≡ true → s ≡ true) → lowered ≤ pay
taken_edge cost pay lowered from to true true a b c d h = omega (arith, a, b, c, d)
taken_edge cost pay lowered from to true false a b c d h = omega (arith, a, b, c, d)
taken_edge cost pay lowered from to false false a b c d h = omega (arith, a, b, c, d)
taken_edge cost pay lowered from to false true a b c d h = elim (cases_eq cost pay) [ inl same ↦ (let f = h same refl in absurd (cc)) | inr less ↦ omega (arith, a, b, c, d, less) ]

left_edge : (cost pay lowered from to : ℕ) (s e : Bool) → lowered + (from - cond s 0 1) ≡ to - cond e 0 1 → cost + from ≡ to → cond s 0 1 ≤ from → cond e 0 1 ≤ to → pay ≤ cost → (cost ≡ pay → s ≡ true → e ≡ true) → pay ≤ lowered
left_edge cost pay lowered from to true true a b c c' d h = omega (arith, a, b, c, c', d)
left_edge cost pay lowered from to true false a b c c' d h = elim (cases_eq cost pay) [ inl same ↦ (let f = h same refl in absurd (cc)) | inr more ↦ omega (arith, a, b, c, c', d, more) ]
left_edge cost pay lowered from to false false a b c c' d h = omega (arith, a, b, c, c', d)
left_edge cost pay lowered from to false true a b c c' d h = omega (arith, a, b, c, c', d)

rise_edge : (here next : ℕ) (s t : Bool) → here ≤ next → (s ≡ true → t ≡ false → here < next) → here - cond s 0 1 ≤ next - cond t 0 1
rise_edge here next true true h c = omega (arith, h)
rise_edge here next true false h c = let d = c refl refl in omega (arith, d)
rise_edge here next false true h c = omega (arith, h)
rise_edge here next false false h c = omega (arith, h)

free_edge : (here next : ℕ) (s t : Bool) → here ≡ next → (s ≡ true → t ≡ false → ⊥) → (t ≡ true → s ≡ false → ⊥) → here - cond s 0 1 ≡ next - cond t 0 1
free_edge here next true true e a b = omega (arith, e)
free_edge here next true false e a b = absurd (a refl refl)
free_edge here next false true e a b = absurd (b refl refl)
free_edge here next false false e a b = omega (arith, e)

-- something is charged at the second
abbrev pub IsCharged : List Charge → ℕ → Type 0
IsCharged prices m = sum_before prices m < sum_before prices (m + 1)

-- places from which nothing leads on: a second at which nothing is charged, or at which a channel is free, and a free row that
-- costs just what it pays, lead from them to none but them
pub record AreClosed (rows : List Row) (count : ℕ) (set : ℕ → Bool) (prices : List Charge) (last : ℕ) (seen : ℕ → Bool) : Type 0 where
  pub first : seen 0 ≡ true
  pub wait : (m : ℕ) → m < last → seen m ≡ true → seen (m + 1) ≡ false → IsCharged prices m
  pub go_back : (m : ℕ) → m < last → seen (m + 1) ≡ true → seen m ≡ false → count ≤ runs_at rows set m
  pub take : (i : ℕ) → i < length rows → (row_at rows i).must ≡ false → cost_of prices (row_at rows i) ≡ (row_at rows i).pay → set i ≡ false → seen (row_at rows i).start ≡ true → seen (row_at rows i).end ≡ true
  pub give : (i : ℕ) → i < length rows → (row_at rows i).must ≡ false → cost_of prices (row_at rows i) ≡ (row_at rows i).pay → set i ≡ true → seen (row_at rows i).end ≡ true → seen (row_at rows i).start ≡ true

module _ (rows : List Row) (count : ℕ) (set : ℕ → Bool) (prices : List Charge) (last : ℕ)
    (ordered : (i : ℕ) → i < length rows → (row_at rows i).start < (row_at rows i).end) (ends : (i : ℕ) → i < length rows → (row_at rows i).end ≤ last)
    (enough : (t : ℕ) → runs_at rows set t ≤ count) (musts : (i : ℕ) → i < length rows → (row_at rows i).must ≡ true → set i ≡ true) (tight : AreTightPrices rows count set prices)
    (full : (m : ℕ) → IsCharged prices m → count ≤ runs_at rows set m)
    (seen : ℕ → Bool) (closed : AreClosed rows count set prices last seen) where
  -- what comes before a place, less by one where it was not seen
  abbrev low : ℕ → ℕ
  low t = sum_before prices t - cond (seen t) 0 1

  some_before : (t : ℕ) → t ≤ last → seen t ≡ false → 1 ≤ sum_before prices t
  some_before zero h u = let first = closed.first in absurd (cc)
  some_before (suc t) h u =
      let e : suc t ≡ t + 1 = omega arith in
      let rises = before_rises prices t (suc t) (omega arith) in
      elim (cases_Bool (seen t)) [
        | inl s ↦ (let c = closed.wait t (omega arith) s (subst (λ (z : ℕ). seen z ≡ false) e u) in let f = ap (sum_before prices) e in omega (arith, c, f))
        | inr s ↦ (let before = some_before t (omega arith) s in omega (arith, before, rises))
      ]

  room_before : (t : ℕ) → t ≤ last → (b : Bool) → seen t ≡ b → cond b 0 1 ≤ sum_before prices t
  room_before t h true e = omega arith
  room_before t h false e = omega (arith, some_before t h e)

  out_fits : (t : ℕ) → t ≤ last → cond (seen t) 0 1 ≤ sum_before prices t
  out_fits t h = room_before t h (seen t) refl

  low_rises : (m : ℕ) → m < last → low m ≤ low (m + 1)
  low_rises m h = rise_edge (sum_before prices m) (sum_before prices (m + 1)) (seen m) (seen (m + 1)) (before_rises prices m (m + 1) (omega arith)) (λ s t. closed.wait m h s t)

  abbrev moments : List ℕ
  moments = range_with_len 0 (suc last)

  abbrev heights : List ℤ
  heights = map (λ (v : ℕ). neg_ℤ (pos (low v))) (range_with_len 0 (suc last))

  moment_is : (v : ℕ) → v ≤ last → get_or moments v 0 ≡ v
  moment_is v h = let e = get_or-range_with_len 0 (suc last) v 0 (omega arith) in omega (arith, e)

  height_is : (v : ℕ) → v ≤ last → height_at heights v ≡ neg_ℤ (pos (low v))
  height_is v h = get_or-map-range_with_len (λ (v : ℕ). neg_ℤ (pos (low v))) 0 (suc last) v v (pos 0) (omega arith) (omega arith)

  moments_rise : IsStrictlyIncreasing moments
  moments_rise k b =
      let size = length-range_with_len 0 (suc last) in
      omega (arith, moment_is k (omega (arith, b, size)), moment_is (k + 1) (omega (arith, b, size)))

  fall_is : (v : ℕ) → v < last → fall_at heights v + low v ≡ low (v + 1)
  fall_is v h = fall_value (low v) (low (v + 1)) (height_at heights v) (height_at heights (v + 1)) (height_is v (omega arith)) (height_is (v + 1) (omega arith)) (low_rises v h)

  falls_to : (u : ℕ) → u ≤ last → sum_below u (fall_at heights) ≡ low u
  falls_to zero h = omega (arith, nothing_first prices)
  falls_to (suc u) h =
      let e : u + 1 ≡ suc u = omega arith in
      omega (arith, falls_to u (omega arith), fall_is u (omega arith), ap low e)

  -- the lower prices
  abbrev pub lowered : List Charge
  lowered = charges moments heights last

  lowered_before : (u : ℕ) → u ≤ last → sum_before lowered u ≡ low u
  lowered_before u h =
      let size = length-range_with_len 0 (suc last) in
      let listed = charges_before moments heights moments_rise last u h (omega (arith, size)) (omega (arith, size, h)) in
      subst (λ (t : ℕ). sum_before lowered t ≡ low u) (moment_is u h) (listed ∙ falls_to u h)

  lowered_cost : (i : ℕ) → i < length rows → cost_of lowered (row_at rows i) + low (row_at rows i).start ≡ low (row_at rows i).end
  lowered_cost i h =
      let o = ordered i h in
      let e = ends i h in
      omega (arith, cost_between lowered (row_at rows i) (omega (arith, o)), lowered_before (row_at rows i).start (omega (arith, o, e)), lowered_before (row_at rows i).end e)

  own_cost : (i : ℕ) → i < length rows → cost_of prices (row_at rows i) + sum_before prices (row_at rows i).start ≡ sum_before prices (row_at rows i).end
  own_cost i h = let o = ordered i h in cost_between prices (row_at rows i) (omega (arith, o))

  idle_still : (v : ℕ) → v < last → runs_at rows set v < count → fall_at heights v ≡ 0
  idle_still v h room =
      let free : sum_before prices v ≡ sum_before prices (v + 1) = elim (cases_lt (sum_before prices v) (sum_before prices (v + 1))) [
        | inl c ↦ (let f = full v c in absurd (omega (arith, f, room)))
        | inr c ↦ (let r = before_rises prices v (v + 1) (omega arith) in omega (arith, c, r))
      ] in
      let same = free_edge (sum_before prices v) (sum_before prices (v + 1)) (seen v) (seen (v + 1)) free (λ s t. (let c = closed.wait v h s t in omega (arith, c, free))) (λ s t. (let c = closed.go_back v h s t in omega (arith, c, room))) in
      omega (arith, fall_is v h, same)

  tight_still : AreTightPrices rows count set lowered
  tight_still =
      record {
        idle = all_charges (λ p. runs_at rows set p.moment < count → p.amount ≡ 0) moments heights last (λ v h some room. idle_still v h (subst (λ (t : ℕ). runs_at rows set t < count) (moment_is v (omega arith)) room));
        taken = λ i h free s. (
            let o = ordered i h in
            let e = ends i h in
            taken_edge (cost_of prices (row_at rows i)) (row_at rows i).pay (cost_of lowered (row_at rows i)) (sum_before prices (row_at rows i).start) (sum_before prices (row_at rows i).end) (seen (row_at rows i).start) (seen (row_at rows i).end) (lowered_cost i h) (own_cost i h) (out_fits (row_at rows i).start (omega (arith, o, e))) (tight.taken i h free s) (λ same t. closed.give i h free same s t));
        left = λ i h free s. (
            let o = ordered i h in
            let e = ends i h in
            left_edge (cost_of prices (row_at rows i)) (row_at rows i).pay (cost_of lowered (row_at rows i)) (sum_before prices (row_at rows i).start) (sum_before prices (row_at rows i).end) (seen (row_at rows i).start) (seen (row_at rows i).end) (lowered_cost i h) (own_cost i h) (out_fits (row_at rows i).start (omega (arith, o, e))) (out_fits (row_at rows i).end e) (tight.left i h free s) (λ same t. closed.take i h free same s t));
      }

  pub lowered_list : IsPriceList lowered
  lowered_list =
      let size = length-range_with_len 0 (suc last) in
      record {
        rising = charges_rise moments heights moments_rise last (omega (arith, size));
        positive = all_charges (λ p. 1 ≤ p.amount) moments heights last (λ v h s. omega (arith, s));
      }

  pub lowered_exact : bound_of rows count lowered ≡ pos (pay_of rows set)
  lowered_exact = bound_from_tight rows count set lowered enough musts tight_still

  pub lowered_less : seen last ≡ false → sum_of_prices lowered + 1 ≡ sum_before prices last
  lowered_less unseen =
      let falls = sum_of_charges (λ p. p.amount) (λ p e. e) moments heights last in
      let some = some_before last (omega arith) unseen in
      let out : cond {A = ℕ} (seen last) 0 1 ≡ 1 = rw unseen refl in
      omega (arith, falls, falls_to last (omega arith), some, out)
