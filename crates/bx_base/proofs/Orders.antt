-- Lists of the indices that pass a test, each with its start: while they grow, and sorted.
use Rattle.std.proofs.Common.{◌≡◌, ℕ, zero, suc, ◌+◌, ◌-◌, ◌<◌, ◌≤◌, Bool, false, eqb, List, [], ◌∷◌, ◌++◌, length, get_or, refl, sym, ◌∙◌, ap, subst, arith, ◌⊎◌, inl, inr}
use Rattle.std.specs.List.{IsDistinct}
use Rattle.std.specs.List.Sorted.{IsPermutation, IsSorted}
use Rattle.std.specs.declared.cmp.Ordering.{Ordering}
use Rattle.std.specs.Ordering.{nat_cmp, ordering_then, is_lt}
use Rattle.std.proofs.lemmas.Bool.{cases_lt, eqb-true, eq-eqb, false_from_ne_true}
use Rattle.std.proofs.lemmas.Bool.Decides.{nat_tests}
use Rattle.std.proofs.lemmas.List.{get_or_default, get_or_append_left, get_or_push, length_push}
use Rattle.std.proofs.lemmas.List.Elements.{All-from_get_or, Contains-get_or}
use Rattle.std.proofs.lemmas.List.Sorted.{All-permutation, Contains-permutation}
use Rattle.std.proofs.lemmas.Map.Keys.{apart_from_distinct, IsDistinct-from_apart, IsDistinct-IsPermutation}
use Rattle.bx_base.specs.Orders.{no_place, index_in, IsPlace, AreListed, ComesFirst, AreInOrder}

-- what holds of neighbours holds of any two
pub from_neighbours : (n : ℕ) (R : ℕ → ℕ → Type 0) → ((i j k : ℕ) → R i j → R j k → R i k) → ((k : ℕ) → k + 1 < n → R k (k + 1)) → (a b : ℕ) → a < b → b < n → R a b
from_neighbours n R trans next a b lt h = subst (R a) (let e : a + (b - a - 1) + 1 ≡ b = omega (arith, lt) in e) (after (b - a - 1) (omega (arith, lt, h)))
  where
    after : (m : ℕ) → a + m + 1 < n → R a (a + m + 1)
    after zero l = subst (λ x. R a (x + 1)) (let e : a ≡ a + 0 = omega arith in e) (next a (omega arith))
    after (suc m) l = subst (R a) (let e : a + m + 1 + 1 ≡ a + suc m + 1 = omega arith in e) (trans a (a + m + 1) (a + m + 1 + 1) (after m (omega arith)) (next (a + m + 1) (omega arith)))

eqb_flips : (x y : ℕ) → eqb x y ≡ eqb y x
eqb_flips x y = grind (arith, nat_tests)

-- two entries of one index
abbrev same_index : ℕ × ℕ → ℕ × ℕ → Bool
same_index p q = eqb p.1 q.1

-- the order of pairs of numbers
abbrev pub pair_cmp : ℕ × ℕ → ℕ × ℕ → Ordering
pair_cmp p q = ordering_then (nat_cmp p.0 q.0) (nat_cmp p.1 q.1)

not_below : (a b c d : ℕ) → is_lt (ordering_then (nat_cmp a b) (nat_cmp c d)) ≡ false → (b < a) ⊎ ((b ≡ a) × (d ≤ c))
not_below a b c d h =
    elim (cases_lt b a) [
      | inl l ↦ inl l
      | inr l ↦ inr (grind (arith, nat_tests))
    ]

module _ (size : ℕ) (Passes : ℕ → Type 0) (start_of : ℕ → ℕ) where
  pub listed_none : AreListed size Passes start_of 0 []
  listed_none =
      record { each = λ k h. absurd (omega arith); below = λ k h. absurd (omega arith); all = λ i h. absurd (omega arith); rising = λ a b l h. absurd (omega arith) }

  pub listed_skip : (n : ℕ) (order : List (ℕ × ℕ)) → (Passes n → ⊥) → AreListed size Passes start_of n order → AreListed size Passes start_of (n + 1) order
  listed_skip n order out l =
      record {
        each = l.each;
        below = λ k h. omega (arith, l.below k h);
        all = λ i h a. elim (cases_lt i n) [ inl b ↦ l.all i b a | inr b ↦ absurd (let e : i ≡ n = omega (arith, h, b) in out (subst Passes e a)) ];
        rising = l.rising;
      }

  pub listed_more : (n : ℕ) (order : List (ℕ × ℕ)) (start : ℕ) → n < size → Passes n → start ≡ start_of n → AreListed size Passes start_of n order → AreListed size Passes start_of (n + 1) (order ++ (start, n) ∷ [])
  listed_more n order start within taken start_is l =
      let entry : ℕ × ℕ = (start, n) in
      let longer = order ++ entry ∷ [] in
      let grown = length_push order entry in
      let old : (k : ℕ) → k < length order → get_or longer k no_place ≡ get_or order k no_place = λ k h. get_or_append_left order (entry ∷ []) no_place k h in
      let new : (k : ℕ) → k ≡ length order → get_or longer k no_place ≡ entry = λ k e. get_or_push order entry no_place k (sym e) in
      let last : IsPlace size Passes start_of entry = record { within = within; passes = taken; start = start_is } in
      record {
        each = λ k h. elim (cases_lt k (length order)) [
          | inl a ↦ subst (IsPlace size Passes start_of) (sym (old k a)) (l.each k a)
          | inr a ↦ subst (IsPlace size Passes start_of) (sym (new k (omega arith))) last
        ];
        below = λ k h. elim (cases_lt k (length order)) [
          | inl a ↦ omega (arith, ap (λ (p : ℕ × ℕ). p.1) (old k a), l.below k a)
          | inr a ↦ omega (arith, ap (λ (p : ℕ × ℕ). p.1) (new k (omega arith)))
        ];
        all = λ i h t. elim (cases_lt i n) [
          | inl a ↦ (let f = l.all i a t in (f.0, omega (arith, f.1, grown), ap (λ (p : ℕ × ℕ). p.1) (old f.0 f.1) ∙ f.2))
          | inr a ↦ (length order, omega (arith, grown), ap (λ (p : ℕ × ℕ). p.1) (new (length order) refl) ∙ omega arith)
        ];
        rising = λ a b lt h.
            let within_a : a < length order = omega arith in
            let first = ap (λ (p : ℕ × ℕ). p.1) (old a within_a) in
            elim (cases_lt b (length order)) [
              | inl c ↦ omega (arith, first, ap (λ (p : ℕ × ℕ). p.1) (old b c), l.rising a b lt c)
              | inr c ↦ omega (arith, first, ap (λ (p : ℕ × ℕ). p.1) (new b (omega arith)), l.below a within_a)
            ];
      }

  -- neighbours in a sorted list of distinct indices
  first_next : (order : List (ℕ × ℕ)) → ((k : ℕ) → k < length order → IsPlace size Passes start_of (get_or order k no_place)) → IsSorted pair_cmp order → IsDistinct same_index order → (k : ℕ) → k + 1 < length order → ComesFirst start_of (index_in order k) (index_in order (k + 1))
  first_next order each sorted distinct k h =
      let first = (each k (omega arith)).start in
      let second = (each (k + 1) h).start in
      let apart = apart_from_distinct same_index order k (k + 1) no_place distinct (omega arith) h in
      let order_of = not_below (get_or order (k + 1) no_place).0 (get_or order k no_place).0 (get_or order (k + 1) no_place).1 (get_or order k no_place).1 (sorted k no_place (omega arith) h) in
      elim order_of [
        | inl a ↦ inl (omega (arith, a, first, second))
        | inr (e, le) ↦ (
            let differ : (get_or order k no_place).1 ≡ (get_or order (k + 1) no_place).1 → ⊥ = λ s. (let t = eq-eqb _ _ s in cc) in
            inr (omega (arith, e, first, second), omega (arith, le, differ)))
      ]

  first_trans : (i j k : ℕ) → ComesFirst start_of i j → ComesFirst start_of j k → ComesFirst start_of i k
  first_trans i j k (inl a) (inl b) = inl (omega (arith, a, b))
  first_trans i j k (inl a) (inr (e, b)) = inl (omega (arith, a, e))
  first_trans i j k (inr (e, a)) (inl b) = inl (omega (arith, e, b))
  first_trans i j k (inr (e, a)) (inr (f, b)) = inr (omega (arith, e, f), omega (arith, a, b))

  pub order_from_listed : (listed order : List (ℕ × ℕ)) → AreListed size Passes start_of size listed → IsPermutation listed order → IsSorted pair_cmp order → AreInOrder size Passes start_of order
  order_from_listed listed order l moved sorted =
      let places = All-permutation (IsPlace size Passes start_of) listed order moved (All-from_get_or (IsPlace size Passes start_of) listed no_place l.each) in
      let apart : (i j : ℕ) (d : ℕ × ℕ) → i < j → j < length listed → same_index (get_or listed i d) (get_or listed j d) ≡ false = λ i j d a b. false_from_ne_true _ (λ t.
      let e = eqb-true _ _ t in
      let first = get_or_default listed i d no_place (omega arith) in
      let second = get_or_default listed j d no_place b in
      omega (arith, l.rising i j a b, e, ap (λ (p : ℕ × ℕ). p.1) first, ap (λ (p : ℕ × ℕ). p.1) second)) in
      let distinct = IsDistinct-IsPermutation same_index (λ x y. eqb_flips x.1 y.1) listed order moved (IsDistinct-from_apart same_index listed apart) in
      let each : (k : ℕ) → k < length order → IsPlace size Passes start_of (get_or order k no_place) = λ k h. places k no_place h in
      record {
        each = each;
        all = λ i h t.
            let f = l.all i h t in
            let there = Contains-permutation listed order (get_or listed f.0 no_place) moved (Contains-get_or listed f.0 no_place f.1) in
            let read = get_or_default order there.0 no_place (get_or listed f.0 no_place) there.1 ∙ there.2 in
            (there.0, there.1, ap (λ (p : ℕ × ℕ). p.1) read ∙ f.2);
        rising = from_neighbours (length order) (λ a b. ComesFirst start_of (index_in order a) (index_in order b)) (λ i j k. first_trans (index_in order i) (index_in order j) (index_in order k)) (first_next order each sorted distinct);
      }

  pub not_later : (order : List (ℕ × ℕ)) → AreInOrder size Passes start_of order → (a b : ℕ) → a < b → b < length order → start_of (index_in order a) ≤ start_of (index_in order b)
  not_later order h a b lt l = elim (h.rising a b lt l) [ inl less ↦ omega (arith, less) | inr (e, less) ↦ omega (arith, e) ]

  pub indices_differ : (order : List (ℕ × ℕ)) → AreInOrder size Passes start_of order → (a b : ℕ) → a < b → b < length order → index_in order a ≡ index_in order b → ⊥
  indices_differ order h a b lt l same = elim (h.rising a b lt l) [ inl less ↦ (let e = ap start_of same in omega (arith, e, less)) | inr (e, less) ↦ omega (arith, same, less) ]
