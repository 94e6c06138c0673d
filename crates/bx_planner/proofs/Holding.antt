-- Rows of which one has to be held: sets and pays of them.
use Rattle.std.proofs.Common.{zero, suc, ◌≡◌, ◌≢◌, ℕ, ◌*◌, ◌<◌, Bool, true, false, cond, List, length, refl, sym, ◌∙◌, ap, arith, inl, inr}
use Rattle.std.specs.Prelude.{ℤ, pos, ◌+ℤ◌, slice_set}
use Rattle.std.proofs.lemmas.Int.{ints}
use Rattle.std.proofs.lemmas.Bool.{cases_lt, cases_eq}
use Rattle.std.proofs.lemmas.List.{get_or-set_same, get_or-set_other, length-set, set-get_or, ext_get_or}
use Rattle.bx_base.specs.Sums.{sum_ints_below}
use Rattle.bx_base.specs.Bookings.{Row, row_at, no_row, IsLawful, pay_of}
use Rattle.bx_base.specs.Bound.{Charge, cost_of, term_of, bound_of, sum_of_prices}
use Rattle.bx_base.proofs.SumLemmas.{sum_below-same}
use Rattle.bx_planner.specs.Weighing.{rows_held, freed}
use Rattle.bx_planner.proofs.Places.{SameTimes, times_back, same_times, field_kept, lawful_along}

set_twice : (rows : List Row) (i : ℕ) (a b : Row) → i < length rows → slice_set (slice_set rows i a) i b ≡ slice_set rows i b
set_twice rows i a b h =
    let first = slice_set rows i a in
    let many = length-set rows i a in
    ext_get_or no_row (slice_set first i b) (slice_set rows i b) (length-set first i b ∙ (many ∙ sym (length-set rows i b))) (λ j l.
    elim (cases_eq j i) [
      | inl s ↦ (rw s (get_or-set_same first i b no_row (omega (arith, h, many)) ∙ sym (get_or-set_same rows i b no_row h)))
      | inr d ↦ (get_or-set_other first i j b no_row d ∙ (get_or-set_other rows i j a no_row d ∙ sym (get_or-set_other rows i j b no_row d)))
    ])

free_itself : (row : Row) → row.must ≡ false → ◌≡◌ {A = Row} (record row { must = false }) row
free_itself row h = ap (λ (m : Bool). record row { must = m }) (sym h)

-- a free row that is held and freed again
pub freed_held : (rows : List Row) (i : ℕ) → i < length rows → (row_at rows i).must ≡ false → freed (rows_held rows i) i ≡ rows
freed_held rows i h free =
    let row = row_at rows i in
    let must = record row { must = true } in
    let here : row_at (rows_held rows i) i ≡ must = get_or-set_same rows i must no_row h in
    let again = ap (λ (r : Row). slice_set (rows_held rows i) i (record r { must = false })) here in
    let back = ap (λ (r : Row). slice_set rows i r) (free_itself row free) in
    again ∙ (set_twice rows i must (record row { must = false }) h ∙ (back ∙ set-get_or rows i no_row))

module _ (rows : List Row) (i : ℕ) (inside : i < length rows) where
  pub held_times : SameTimes (rows_held rows i) rows
  held_times = same_times rows i (record (row_at rows i) { must = true }) inside refl refl

  held_musts : (j : ℕ) → (row_at rows j).must ≡ true → (row_at (rows_held rows i) j).must ≡ true
  held_musts j m =
      elim (cases_eq j i) [
        | inl s ↦ (rw s (ap (λ (r : Row). r.must) (get_or-set_same rows i (record (row_at rows i) { must = true }) no_row inside)))
        | inr d ↦ (ap (λ (r : Row). r.must) (get_or-set_other rows i j (record (row_at rows i) { must = true }) no_row d) ∙ m)
      ]

  pub lawful_from_held : (channels : List Bool) (set : ℕ → Bool) → IsLawful (rows_held rows i) channels set → IsLawful rows channels set
  lawful_from_held channels set lawful =
      lawful_along (rows_held rows i) rows channels set held_times (λ j h m. lawful.has_musts j (omega (arith, h, held_times.many)) (held_musts j m)) lawful

  pub holds_held : (channels : List Bool) (set : ℕ → Bool) → IsLawful (rows_held rows i) channels set → set i ≡ true
  holds_held channels set lawful =
      lawful.has_musts i (omega (arith, inside, held_times.many)) (ap (λ (r : Row). r.must) (get_or-set_same rows i (record (row_at rows i) { must = true }) no_row inside))

  pub lawful_held : (channels : List Bool) (set : ℕ → Bool) → IsLawful rows channels set → set i ≡ true → IsLawful (rows_held rows i) channels set
  lawful_held channels set lawful holds =
      lawful_along rows (rows_held rows i) channels set (times_back (rows_held rows i) rows held_times) (λ j h m. elim (cases_eq j i) [
        | inl s ↦ (rw s holds)
        | inr d ↦ lawful.has_musts j (omega (arith, h, held_times.many)) (ap (λ (r : Row). r.must) (sym (get_or-set_other rows i j (record (row_at rows i) { must = true }) no_row d)) ∙ m)
      ]) lawful

  pub pay_held : (set : ℕ → Bool) → pay_of (rows_held rows i) set ≡ pay_of rows set
  pay_held set =
      let pays = field_kept (λ (r : Row). r.pay) rows i (record (row_at rows i) { must = true }) inside refl in
      let same = sum_below-same (length rows) (λ j. cond (set j) (row_at (rows_held rows i) j).pay 0) (λ j. cond (set j) (row_at rows j).pay 0) (λ j h. rw (pays j) refl) in
      rw (held_times.many) same

pub ints_same : (n : ℕ) (f g : ℕ → ℤ) → ((j : ℕ) → j < n → f j ≡ g j) → sum_ints_below n f ≡ sum_ints_below n g
ints_same zero f g h = refl
ints_same (suc n) f g h = let before = ints_same n f g (λ j b. h j (omega arith)) in let last = h n (omega arith) in omega (arith, ints, before, last)

-- sums of whole numbers that differ in one term
pub ints_change : (n : ℕ) (f g : ℕ → ℤ) (k : ℕ) → k < n → ((j : ℕ) → j < n → j ≢ k → f j ≡ g j) → sum_ints_below n f +ℤ g k ≡ sum_ints_below n g +ℤ f k
ints_change zero f g k h e = absurd (omega arith)
ints_change (suc n) f g k h e =
    elim (cases_lt k n) [
      | inl a ↦ (let before = ints_change n f g k a (λ j b d. e j (omega arith) d) in let last = e n (omega arith) (omega arith) in omega (arith, ints, before, last))
      | inr a ↦ (let s : k ≡ n = omega arith in let before = ints_same n f g (λ j b. e j (omega arith) (omega arith)) in rw s (omega (arith, ints, before)))
    ]

-- what a price list charges does not rest on pay and mark
pub cost_alike : (prices : List Charge) (a b : Row) → a.start ≡ b.start → a.end ≡ b.end → cost_of prices a ≡ cost_of prices b
cost_alike prices a b s e = rw (s, e) refl

-- the bound, one row apart
pub bound_change : (rows : List Row) (i : ℕ) (row : Row) (count : ℕ) (prices : List Charge) → i < length rows → bound_of (slice_set rows i row) count prices +ℤ term_of prices (row_at rows i) ≡ bound_of rows count prices +ℤ term_of prices row
bound_change rows i row count prices h =
    let many = length-set rows i row in
    let f = λ (j : ℕ). term_of prices (row_at (slice_set rows i row) j) in
    let g = λ (j : ℕ). term_of prices (row_at rows j) in
    let change = ints_change (length rows) f g i h (λ j b d. ap (λ (r : Row). term_of prices r) (get_or-set_other rows i j row no_row d)) in
    let here : f i ≡ term_of prices row = ap (λ (r : Row). term_of prices r) (get_or-set_same rows i row no_row h) in
    rw many (moved (pos (count * sum_of_prices prices)) (sum_ints_below (length rows) f) (sum_ints_below (length rows) g) (f i) (g i) (term_of prices row) change here)
  where
    moved : (base a b x y z : ℤ) → a +ℤ y ≡ b +ℤ x → x ≡ z → (base +ℤ a) +ℤ y ≡ (base +ℤ b) +ℤ z
    moved base a b x y z e s = omega (arith, ints)
