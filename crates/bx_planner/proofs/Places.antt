-- Rows that differ in one place: which sets of them can be carried, and what these pay.
use Rattle.std.proofs.Common.{zero, suc, ◌≡◌, ◌≢◌, ℕ, ◌+◌, ◌<◌, Bool, true, cond, eqb, List, length, refl, sym, ◌∙◌, ap, subst, arith, inl, inr}
use Rattle.std.specs.Prelude.{slice_set}
use Rattle.std.proofs.lemmas.Bool.{cases_lt, cases_eq, eq-eqb, ne_eqb}
use Rattle.std.proofs.lemmas.List.{get_or-set_same, get_or-set_other, length-set, set-get_or}
use Rattle.bx_base.specs.Sums.{sum_below}
use Rattle.bx_base.specs.Bookings.{Row, row_at, no_row, is_running, IsCarried, IsLawful, pay_of}
use Rattle.bx_base.proofs.SumLemmas.{sum_below-same}
use Rattle.bx_planner.specs.Thresholds.{others, offered}

-- the rows run when the others do
pub record SameTimes (a b : List Row) : Type 0 where
  pub many : length a ≡ length b
  pub starts : (j : ℕ) → (row_at a j).start ≡ (row_at b j).start
  pub ends : (j : ℕ) → (row_at a j).end ≡ (row_at b j).end

running_alike : (x y : Row) (t : ℕ) → x.start ≡ y.start → x.end ≡ y.end → is_running x t ≡ is_running y t
running_alike x y t s e = rw (s, e) refl

pub same_running : (a b : List Row) → SameTimes a b → (j t : ℕ) → is_running (row_at a j) t ≡ is_running (row_at b j) t
same_running a b s j t = running_alike (row_at a j) (row_at b j) t (s.starts j) (s.ends j)

pub times_back : (a b : List Row) → SameTimes a b → SameTimes b a
times_back a b s = record { many = sym s.many; starts = λ j. sym (s.starts j); ends = λ j. sym (s.ends j) }

pub carried_along : (a b : List Row) (channels : List Bool) (set : ℕ → Bool) → SameTimes a b → IsCarried a channels set → IsCarried b channels set
carried_along a b channels set s carried =
    let carries = carried.1 in (
      carried.0,
      record {
        in_service = λ i h. carries.in_service i (omega (arith, h, s.many));
        apart = λ i j l h p q o. carries.apart i j l (omega (arith, h, s.many)) p q (o.0, same_running a b s i o.0 ∙ o.1, same_running a b s j o.0 ∙ o.2);
      },
    )

pub lawful_along : (a b : List Row) (channels : List Bool) (set : ℕ → Bool) → SameTimes a b → ((j : ℕ) → j < length b → (row_at b j).must ≡ true → set j ≡ true) → IsLawful a channels set → IsLawful b channels set
lawful_along a b channels set s musts lawful = record { carried = carried_along a b channels set s lawful.carried; has_musts = musts }

-- what a changed row keeps, all rows keep
pub field_kept : {X : Type 0} (f : Row → X) (rows : List Row) (i : ℕ) (row : Row) → i < length rows → f row ≡ f (row_at rows i) → (j : ℕ) → f (row_at (slice_set rows i row) j) ≡ f (row_at rows j)
field_kept f rows i row h e j =
    elim (cases_eq j i) [ inl s ↦ (rw s (ap f (get_or-set_same rows i row no_row h) ∙ e)) | inr d ↦ ap f (get_or-set_other rows i j row no_row d) ]

pub same_times : (rows : List Row) (i : ℕ) (row : Row) → i < length rows → row.start ≡ (row_at rows i).start → row.end ≡ (row_at rows i).end → SameTimes (slice_set rows i row) rows
same_times rows i row h s e =
    record { many = length-set rows i row; starts = field_kept (λ (r : Row). r.start) rows i row h s; ends = field_kept (λ (r : Row). r.end) rows i row h e }

-- a sum, one term apart
pub sum_split : (n : ℕ) (f : ℕ → ℕ) (i : ℕ) → i < n → sum_below n f ≡ sum_below n (λ j. cond (eqb j i) 0 (f j)) + f i
sum_split zero f i h = absurd (omega arith)
sum_split (suc n) f i h =
    elim (cases_lt i n) [
      | inl a ↦ (let d : n ≢ i = omega arith in let here : ◌≡◌ {A = ℕ} (cond (eqb n i) 0 (f n)) (f n) = rw (ne_eqb n i d) refl in omega (arith, sum_split n f i a, here))
      | inr a ↦ (
          let e : i ≡ n = omega arith in
          let before = sum_below-same n f (λ j. cond (eqb j i) 0 (f j)) (λ j b. (let d : j ≢ i = omega arith in rw (ne_eqb j i d) refl)) in
          let here : ◌≡◌ {A = ℕ} (cond (eqb n i) 0 (f n)) 0 = rw (eq-eqb n i (sym e)) refl in
          let last : f i ≡ f n = ap f e in
          omega (arith, before, here, last))
    ]

module _ (rows : List Row) (i : ℕ) (inside : i < length rows) where
  one_left : (pay : ℕ) (set : ℕ → Bool) (j : ℕ) → ◌≡◌ {A = ℕ} (cond (eqb j i) 0 (cond (set j) (row_at (offered rows i pay) j).pay 0)) (cond (others set i j) (row_at rows j).pay 0)
  one_left pay set j =
      elim (cases_eq j i) [ inl s ↦ (rw (eq-eqb j i s) refl) | inr d ↦ (rw (ne_eqb j i d, get_or-set_other rows i j (record (row_at rows i) { pay = pay }) no_row d) refl) ]

  -- what a set pays where the row at i pays so much
  pub pay_offered : (pay : ℕ) (set : ℕ → Bool) → pay_of (offered rows i pay) set ≡ pay_of rows (others set i) + cond (set i) pay 0
  pay_offered pay set =
      let row = record (row_at rows i) { pay = pay } in
      let many = length-set rows i row in
      let f = λ (j : ℕ). cond {A = ℕ} (set j) (row_at (offered rows i pay) j).pay 0 in
      let split = sum_split (length rows) f i inside in
      let rest = sum_below-same (length rows) (λ j. cond (eqb j i) 0 (f j)) (λ j. cond (others set i j) (row_at rows j).pay 0) (λ j h. one_left pay set j) in
      let here : f i ≡ cond (set i) pay 0 = rw (get_or-set_same rows i row no_row inside) refl in
      rw many (omega (arith, split, rest, here))

  -- what it pays where nothing is changed
  pub pay_split : (set : ℕ → Bool) → pay_of rows set ≡ pay_of rows (others set i) + cond (set i) (row_at rows i).pay 0
  pay_split set = subst (λ (all : List Row). pay_of all set ≡ pay_of rows (others set i) + cond (set i) (row_at rows i).pay 0) (set-get_or rows i no_row) (pay_offered (row_at rows i).pay set)

  offered_times : (pay : ℕ) → SameTimes (offered rows i pay) rows
  offered_times pay = same_times rows i (record (row_at rows i) { pay = pay }) inside refl refl

  offered_must : (pay j : ℕ) → (row_at (offered rows i pay) j).must ≡ (row_at rows j).must
  offered_must pay = field_kept (λ (r : Row). r.must) rows i (record (row_at rows i) { pay = pay }) inside refl

  -- what it pays does not count for what is lawful
  pub lawful_from_offered : (channels : List Bool) (pay : ℕ) (set : ℕ → Bool) → IsLawful (offered rows i pay) channels set → IsLawful rows channels set
  lawful_from_offered channels pay set lawful =
      let times = offered_times pay in
      lawful_along (offered rows i pay) rows channels set times (λ j h m. lawful.has_musts j (omega (arith, h, times.many)) (offered_must pay j ∙ m)) lawful

  pub lawful_offered : (channels : List Bool) (pay : ℕ) (set : ℕ → Bool) → IsLawful rows channels set → IsLawful (offered rows i pay) channels set
  lawful_offered channels pay set lawful =
      let times = offered_times pay in
      lawful_along rows (offered rows i pay) channels set (times_back (offered rows i pay) rows times) (λ j h m. lawful.has_musts j (omega (arith, h, times.many)) (sym (offered_must pay j) ∙ m)) lawful
