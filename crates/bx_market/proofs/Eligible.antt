-- The bookings of a batch that take part, and those among them that a plan accepts.
use Rattle.std.proofs.Common.{◌≡◌, ℕ, zero, suc, ◌+◌, ◌<◌, ◌&&◌, Bool, true, false, true≢false, cond, ltb, List, [], ◌∷◌, ◌++◌, length, drop, append_assoc, Option, refl, sym, subst, ap, ◌∙◌, arith}
use Rattle.std.proofs.lemmas.Bool.{and_parts, ltb-true}
use Rattle.std.proofs.lemmas.List.{get_or_past}
use Rattle.bx_base.specs.Bookings.{Row, row_at}
use Rattle.bx_base.specs.Plans.{is_accepted}
use Rattle.bx_base.specs.Sums.{sum_below}
use Rattle.bx_base.proofs.SumLemmas.{sum_below-same}
use Rattle.bx_colour.specs.Colouring.{is_in}
use Rattle.bx_market.specs.Choices.{eligible_marks}
use Rattle.bx_market.specs.Choosing.{free_row, free_rows, chosen_marks}
use Rattle.bx_market.proofs.Totals.{all_of, total, marked, sum_below-first}

pub eligible_count : (moment count : ℕ) (batch : List Row) → length (eligible_marks moment count batch) ≡ length batch
eligible_count moment count [] = refl
eligible_count moment count (row ∷ batch) = omega (arith, eligible_count moment (cond (ltb moment row.start && ltb count 16000) (count + 1) count) batch)

-- each of them starts later
pub eligible_later : (moment count : ℕ) (batch : List Row) (i : ℕ) → is_in (eligible_marks moment count batch) i ≡ true → moment < (row_at batch i).start
eligible_later moment count [] i h = absurd (true≢false (sym h ∙ get_or_past [] i false (omega arith)))
eligible_later moment count (row ∷ batch) zero h = ltb-true moment row.start (and_parts (ltb moment row.start) (ltb count 16000) h).0
eligible_later moment count (row ∷ batch) (suc i) h = eligible_later moment (cond (ltb moment row.start && ltb count 16000) (count + 1) count) batch i h

-- how many of the first are marked
abbrev pub marked_before : List Bool → ℕ → ℕ
marked_before marks n = sum_below n (λ i. cond (is_in marks i) 1 0)

one_first : (moment count : ℕ) (start : ℕ) (n rest : ℕ) (b : Bool) → (ltb moment start && ltb count 16000) ≡ b → n ≡ cond b 1 0 + rest → cond b (count + 1) count + rest < 16000 → count + n < 16000
one_first moment count start n rest true e is lt = omega (arith, is, lt)
one_first moment count start n rest false e is lt = omega (arith, is, lt)

-- the day has a place for each, after those before it
pub eligible_places : (moment count : ℕ) (batch : List Row) (i : ℕ) → is_in (eligible_marks moment count batch) i ≡ true → count + marked_before (eligible_marks moment count batch) i < 16000
eligible_places moment count [] i h = absurd (true≢false (sym h ∙ get_or_past [] i false (omega arith)))
eligible_places moment count (row ∷ batch) zero h = let lt = ltb-true count 16000 (and_parts (ltb moment row.start) (ltb count 16000) h).1 in omega (arith, lt)
eligible_places moment count (row ∷ batch) (suc i) h =
    let b = ltb moment row.start && ltb count 16000 in
    let next = cond b (count + 1) count in
    let marks = eligible_marks moment next batch in
    let first : marked_before (b ∷ marks) (suc i) ≡ cond b 1 0 + marked_before marks i = sum_below-first i (λ k. cond (is_in (b ∷ marks) k) 1 0) in
    one_first moment count row.start (marked_before (b ∷ marks) (suc i)) (marked_before marks i) b refl first (eligible_places moment next batch i h)

-- ---- those that a plan accepts

pub chosen_count : (eligible : List Bool) (assigned : List (Option ℕ)) (place : ℕ) → length (chosen_marks eligible assigned place) ≡ length eligible
chosen_count [] assigned place = refl
chosen_count (o ∷ eligible) assigned place = omega (arith, chosen_count eligible assigned (cond o (place + 1) place))

pub chosen_eligible : (eligible : List Bool) (assigned : List (Option ℕ)) (place i : ℕ) → is_in (chosen_marks eligible assigned place) i ≡ true → is_in eligible i ≡ true
chosen_eligible [] assigned place i h = h
chosen_eligible (o ∷ eligible) assigned place zero h = (and_parts o (is_accepted assigned place) h).0
chosen_eligible (o ∷ eligible) assigned place (suc i) h = chosen_eligible eligible assigned (cond o (place + 1) place) i h

module _ (f : Row → ℕ) (same : (row : Row) → f (free_row row) ≡ f row) where
  -- what they come to in the plan they come to in the batch
  pub chosen_total : (batch : List Row) (eligible : List Bool) (assigned : List (Option ℕ)) (place : ℕ) → length eligible ≡ length batch → marked f (free_rows batch eligible) (λ k. is_accepted assigned (place + k)) ≡ total f batch (chosen_marks eligible assigned place)
  chosen_total [] [] assigned place count = refl
  chosen_total (row ∷ batch) (false ∷ eligible) assigned place count = let rest = chosen_total batch eligible assigned place (omega (arith, count)) in omega (arith, rest)
  chosen_total (row ∷ batch) (true ∷ eligible) assigned place count =
      let more = free_rows batch eligible in
      let rest = chosen_total batch eligible assigned (place + 1) (omega (arith, count)) in
      let peeled : marked f (free_row row ∷ more) (λ k. is_accepted assigned (place + k)) ≡ cond (is_accepted assigned (place + 0)) (f (free_row row)) 0 + marked f more (λ k. is_accepted assigned (place + suc k)) = sum_below-first (length more) (λ k. cond (is_accepted assigned (place + k)) (f (row_at (free_row row ∷ more) k)) 0) in
      let shifted = sum_below-same (length more) (λ k. cond (is_accepted assigned (place + suc k)) (f (row_at more k)) 0) (λ k. cond (is_accepted assigned (place + 1 + k)) (f (row_at more k)) 0) (λ k lt. let e : place + suc k ≡ place + 1 + k = omega arith in ap (λ (n : ℕ). cond (is_accepted assigned n) (f (row_at more k)) 0) e) in
      let here : cond (is_accepted assigned (place + 0)) (f (free_row row)) 0 ≡ cond (is_accepted assigned place) (f row) 0 =
      let e : place + 0 ≡ place = omega arith in ap (λ (n : ℕ). cond (is_accepted assigned n) (f (free_row row)) 0) e ∙ ap (λ (n : ℕ). cond (is_accepted assigned place) n 0) (same row) in
      omega (arith, peeled, shifted, here, rest)
  chosen_total batch eligible assigned place count = absurd (omega (arith, count))

-- ---- another choice among them

-- the marks of those that take part
abbrev pub picked : List Bool → List Bool → List Bool
picked [] marks = []
picked (o ∷ eligible) [] = []
picked (true ∷ eligible) (mark ∷ marks) = mark ∷ picked eligible marks
picked (false ∷ eligible) (mark ∷ marks) = picked eligible marks

module _ (f : Row → ℕ) (same : (row : Row) → f (free_row row) ≡ f row) where
  pub picked_total : (batch : List Row) (eligible marks : List Bool) → length eligible ≡ length batch → length marks ≡ length batch → ((i : ℕ) → is_in marks i ≡ true → is_in eligible i ≡ true) → total f (free_rows batch eligible) (picked eligible marks) ≡ total f batch marks
  picked_total [] [] marks count many part = refl
  picked_total (row ∷ batch) (o ∷ eligible) [] count many part = absurd (omega (arith, many))
  picked_total (row ∷ batch) (true ∷ eligible) (mark ∷ marks) count many part =
      let rest = picked_total batch eligible marks (omega (arith, count)) (omega (arith, many)) (λ i h. part (suc i) h) in
      let here : cond mark (f (free_row row)) 0 ≡ cond mark (f row) 0 = ap (λ (n : ℕ). cond mark n 0) (same row) in
      omega (arith, rest, here)
  picked_total (row ∷ batch) (false ∷ eligible) (true ∷ marks) count many part = absurd (true≢false (sym (part 0 refl)))
  picked_total (row ∷ batch) (false ∷ eligible) (false ∷ marks) count many part =
      let rest = picked_total batch eligible marks (omega (arith, count)) (omega (arith, many)) (λ i h. part (suc i) h) in
      omega (arith, rest)
  picked_total batch eligible marks count many part = absurd (omega (arith, count))

module _ (f : Row → ℕ) (same : (row : Row) → f (free_row row) ≡ f row) where
  -- all that take part
  pub all_free_total : (batch : List Row) (eligible : List Bool) → length eligible ≡ length batch → total f (free_rows batch eligible) (all_of (free_rows batch eligible)) ≡ total f batch eligible
  all_free_total [] [] count = refl
  all_free_total (row ∷ batch) (true ∷ eligible) count = let rest = all_free_total batch eligible (omega (arith, count)) in let here = same row in omega (arith, rest, here)
  all_free_total (row ∷ batch) (false ∷ eligible) count = let rest = all_free_total batch eligible (omega (arith, count)) in omega (arith, rest)
  all_free_total batch eligible count = absurd (omega (arith, count))

pub free_rows_free : (batch : List Row) (eligible : List Bool) (i : ℕ) → i < length (free_rows batch eligible) → (row_at (free_rows batch eligible) i).must ≡ false
free_rows_free [] eligible i lt = absurd (omega (arith, lt))
free_rows_free (row ∷ batch) [] i lt = absurd (omega (arith, lt))
free_rows_free (row ∷ batch) (true ∷ eligible) zero lt = refl
free_rows_free (row ∷ batch) (true ∷ eligible) (suc i) lt = free_rows_free batch eligible i (omega (arith, lt))
free_rows_free (row ∷ batch) (false ∷ eligible) i lt = free_rows_free batch eligible i lt

-- ---- one booking more is looked at

free_next : (batch : List Row) (eligible : List Bool) (i : ℕ) → i < length batch → length eligible ≡ length batch → free_rows (drop i batch) (drop i eligible) ≡ cond (is_in eligible i) (free_row (row_at batch i) ∷ free_rows (drop (suc i) batch) (drop (suc i) eligible)) (free_rows (drop (suc i) batch) (drop (suc i) eligible))
free_next [] eligible i lt count = absurd (omega (arith, lt))
free_next (row ∷ batch) [] i lt count = absurd (omega (arith, count))
free_next (row ∷ batch) (true ∷ eligible) zero lt count = refl
free_next (row ∷ batch) (false ∷ eligible) zero lt count = refl
free_next (row ∷ batch) (e ∷ eligible) (suc i) lt count = free_next batch eligible i (omega (arith, lt)) (omega (arith, count))

module _ (batch : List Row) (eligible : List Bool) (i : ℕ) (lt : i < length batch) (count : length eligible ≡ length batch) (old new whole : List Row) (before : old ++ free_rows (drop i batch) (drop i eligible) ≡ whole) where
  abbrev rest : List Row
  rest = free_rows (drop (suc i) batch) (drop (suc i) eligible)

  at_next : new ++ rest ≡ whole → new ++ free_rows (drop (i + 1) batch) (drop (i + 1) eligible) ≡ whole
  at_next e = let n : suc i ≡ i + 1 = omega arith in subst (λ (k : ℕ). new ++ free_rows (drop k batch) (drop k eligible) ≡ whole) n e

  pub free_then : is_in eligible i ≡ true → (row : Row) → row ≡ free_row (row_at batch i) → new ≡ old ++ row ∷ [] → new ++ free_rows (drop (i + 1) batch) (drop (i + 1) eligible) ≡ whole
  free_then marked row is added =
      let next : free_rows (drop i batch) (drop i eligible) ≡ free_row (row_at batch i) ∷ rest = free_next batch eligible i lt count ∙ ap (λ (b : Bool). cond b (free_row (row_at batch i) ∷ rest) rest) marked in
      at_next (ap (λ (l : List Row). l ++ rest) (added ∙ ap (λ (r : Row). old ++ r ∷ []) is) ∙ (append_assoc old (free_row (row_at batch i) ∷ []) rest ∙ (ap (λ (l : List Row). old ++ l) (sym next) ∙ before)))

  pub free_else : is_in eligible i ≡ false → new ≡ old → new ++ free_rows (drop (i + 1) batch) (drop (i + 1) eligible) ≡ whole
  free_else unmarked same =
      let next : free_rows (drop i batch) (drop i eligible) ≡ rest = free_next batch eligible i lt count ∙ ap (λ (b : Bool). cond b (free_row (row_at batch i) ∷ rest) rest) unmarked in
      at_next (ap (λ (l : List Row). l ++ rest) same ∙ (ap (λ (l : List Row). old ++ l) (sym next) ∙ before))
