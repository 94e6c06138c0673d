-- Where must rows leave room for one more.
use Rattle.std.proofs.Common.{zero, suc, ◌≡◌, ℕ, ◌+◌, ◌<◌, ◌≤◌, Bool, true, false, cond, eqb, ◌&&◌, List, length, refl, arith, ◌↔◌, inl, inr}
use Rattle.std.proofs.lemmas.Bool.{cases_lt, cases_eq, cases_Bool, eq-eqb, false_from_ne_true}
use Rattle.std.proofs.lemmas.List.{get_or-set_same, get_or-set_other, length-set}
use Rattle.bx_base.specs.Bookings.{Row, row_at, no_row, is_running, IsLawful}
use Rattle.bx_base.specs.Sums.{sum_below}
use Rattle.bx_base.specs.Channels.{count_of}
use Rattle.bx_base.proofs.Duality.{runs, running-le-count}
use Rattle.bx_base.proofs.SumLemmas.{sum_below-le, sum_below-same, sum_below-next}
use Rattle.bx_planner.specs.Musts.{musts_at, IsTooManyMust}
use Rattle.bx_planner.proofs.FewMusts.{in_set, few_musts}
use Rattle.bx_planner.specs.Rooms.{IsNoChannel}
use Rattle.bx_planner.specs.Weighing.{rows_held}
use Rattle.bx_planner.proofs.Places.{sum_split}

-- one row more, which is counted where it is marked, beside one of its own
pub add_after : (rows : List Row) (marked : ℕ → Bool) (n t : ℕ) (b : Bool) (own before after : ℕ) → marked n ≡ b → before ≡ sum_below n (λ j. cond (marked j && is_running (row_at rows j) t) 1 0) + own → after ≡ before + cond (b && is_running (row_at rows n) t) 1 0 → after ≡ sum_below (n + 1) (λ j. cond (marked j && is_running (row_at rows j) t) 1 0) + own
add_after rows marked n t b own before after e h k =
    let next = sum_below-next n (λ j. cond (marked j && is_running (row_at rows j) t) 1 0) in
    let term : cond {A = ℕ} (marked n && is_running (row_at rows n) t) 1 0 ≡ cond (b && is_running (row_at rows n) t) 1 0 = rw e refl in
    omega (arith, next, term, h, k)

one_of : (r : Bool) → r ≡ true → ◌≡◌ {A = ℕ} (cond r 1 0) 1
one_of r e = rw e refl

none_of : (r : Bool) → r ≡ false → ◌≡◌ {A = ℕ} (cond r 1 0) 0
none_of r e = rw e refl

-- the first moment with too many, the booking among them, is the first of its own that is full
pub first_full : (rows : List Row) (channels : List Bool) (booking : Row) (load : ℕ → ℕ) → ((m : ℕ) → load m ≡ musts_at rows m + cond (is_running booking m) 1 0) → ((m : ℕ) → musts_at rows m ≤ count_of channels) → (t : ℕ) → ((count_of channels < load t) × ((s : ℕ) → s < t → load s ≤ count_of channels)) ↔ IsNoChannel rows channels booking t
first_full rows channels booking load all few t = (
  λ h. elim (cases_Bool (is_running booking t)) [
    | inl r ↦ record {
      running = r;
      full = (let here = h.0 in omega (arith, here, all t, one_of (is_running booking t) r));
      least = λ s b q. (let before = h.1 s b in omega (arith, before, all s, one_of (is_running booking s) q));
    }
    | inr r ↦ (let here = h.0 in absurd (omega (arith, here, all t, few t, none_of (is_running booking t) r)))
  ],
  λ h. (
    (let full = h.full in omega (arith, full, all t, one_of (is_running booking t) h.running)),
    λ s b. elim (cases_Bool (is_running booking s)) [
      | inl r ↦ (let less = h.least s b r in omega (arith, less, all s, one_of (is_running booking s) r))
      | inr r ↦ omega (arith, all s, few s, none_of (is_running booking s) r)
    ],
  ),
)

-- where there is no first moment without a channel, there is none
pub has_room : (rows : List Row) (channels : List Bool) (booking : Row) → ((t : ℕ) → IsNoChannel rows channels booking t → ⊥) → (n s : ℕ) → s < n → is_running booking s ≡ true → musts_at rows s < count_of channels
has_room rows channels booking none zero s h r = absurd (omega arith)
has_room rows channels booking none (suc n) s h r =
    elim (cases_lt s n) [
      | inl a ↦ has_room rows channels booking none n s a r
      | inr a ↦ elim (cases_lt (musts_at rows s) (count_of channels)) [
        | inl b ↦ b
        | inr b ↦ absurd (none s (record { running = r; full = b; least = λ q c e. has_room rows channels booking none n q (omega arith) e }))
      ]
    ]

below_where : (b : Bool) (m n : ℕ) → m ≤ n → cond b 0 m ≤ cond b 0 n
below_where true m n h = omega arith
below_where false m n h = h

module _ (rows : List Row) (i : ℕ) (inside : i < length rows) (free : (row_at rows i).must ≡ false) where
  one_left : (t j : ℕ) → ◌≡◌ {A = ℕ} (cond (eqb j i) 0 (cond ((row_at (rows_held rows i) j).must && is_running (row_at (rows_held rows i) j) t) 1 0)) (cond (eqb j i) 0 (cond ((row_at rows j).must && is_running (row_at rows j) t) 1 0))
  one_left t j =
      elim (cases_eq j i) [ inl s ↦ (rw (eq-eqb j i s) refl) | inr d ↦ (rw (get_or-set_other rows i j (record (row_at rows i) { must = true }) no_row d) refl) ]

  -- the row that is held is one must row more
  musts_held : (t : ℕ) → musts_at (rows_held rows i) t ≡ musts_at rows t + cond (is_running (row_at rows i) t) 1 0
  musts_held t =
      let row = record (row_at rows i) { must = true } in
      let f = λ (j : ℕ). cond {A = ℕ} ((row_at (rows_held rows i) j).must && is_running (row_at (rows_held rows i) j) t) 1 0 in
      let g = λ (j : ℕ). cond {A = ℕ} ((row_at rows j).must && is_running (row_at rows j) t) 1 0 in
      let many = length-set rows i row in
      let split = sum_split (length rows) f i inside in
      let other = sum_split (length rows) g i inside in
      let rest = sum_below-same (length rows) (λ j. cond (eqb j i) 0 (f j)) (λ j. cond (eqb j i) 0 (g j)) (λ j h. one_left t j) in
      let here : f i ≡ cond (is_running (row_at rows i) t) 1 0 = rw (get_or-set_same rows i row no_row inside) refl in
      let none : g i ≡ 0 = rw free refl in
      rw many (omega (arith, split, other, rest, here, none))

  -- with room for the row, a plan can hold it
  pub none_crowded : (channels : List Bool) (set : ℕ → Bool) → IsLawful rows channels set → ((s : ℕ) → is_running (row_at rows i) s ≡ true → musts_at rows s < count_of channels) → (t : ℕ) → IsTooManyMust (rows_held rows i) channels t → ⊥
  none_crowded channels set lawful room t too =
      let sum = musts_held t in
      let crowded = too.here in
      elim (cases_Bool (is_running (row_at rows i) t)) [
        | inl r ↦ (let few = room t r in let one : ◌≡◌ {A = ℕ} (cond (is_running (row_at rows i) t) 1 0) 1 = rw r refl in omega (arith, sum, crowded, few, one))
        | inr r ↦ (let few = few_musts rows channels set lawful t in let nothing : ◌≡◌ {A = ℕ} (cond (is_running (row_at rows i) t) 1 0) 0 = rw r refl in omega (arith, sum, crowded, few, nothing))
      ]

  runs_beside : (set : ℕ → Bool) (t j : ℕ) → (must_holds : (row_at rows j).must ≡ true → set j ≡ true) → cond {A = ℕ} (eqb j i) 0 (cond ((row_at rows j).must && is_running (row_at rows j) t) 1 0) ≤ cond (eqb j i) 0 (cond (runs rows set t j) 1 0)
  runs_beside set t j holds = below_where (eqb j i) _ _ (in_set (row_at rows j).must (set j) (is_running (row_at rows j) t) holds)

  -- where must rows have all channels while it runs, no lawful set has it
  pub never_taken : (channels : List Bool) (t : ℕ) → is_running (row_at rows i) t ≡ true → count_of channels ≤ musts_at rows t → (set : ℕ → Bool) → IsLawful rows channels set → set i ≡ false
  never_taken channels t r full set lawful = false_from_ne_true (set i) (λ holds.
      let f = λ (j : ℕ). cond {A = ℕ} (runs rows set t j) 1 0 in
      let g = λ (j : ℕ). cond {A = ℕ} ((row_at rows j).must && is_running (row_at rows j) t) 1 0 in
      let more = sum_split (length rows) f i inside in
      let less = sum_split (length rows) g i inside in
      let rest = sum_below-le (length rows) (λ j. cond (eqb j i) 0 (g j)) (λ j. cond (eqb j i) 0 (f j)) (λ j h. runs_beside set t j (lawful.has_musts j h)) in
      let one : f i ≡ 1 = rw (holds, r) refl in
      let none : g i ≡ 0 = rw free refl in
      omega (arith, more, less, rest, one, none, full, running-le-count rows channels set lawful.carried.0 lawful.carried.1 t))
