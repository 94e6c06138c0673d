-- A proved plan beside a row that it refuses, or one after its rows.
use Rattle.std.proofs.Common.{suc, ◌≡◌, ℕ, ◌+◌, ◌-◌, ◌*◌, ◌<◌, ◌≤◌, Bool, true, false, cond, ◌&&◌, List, [], ◌∷◌, ◌++◌, length, Option, None, Ok, is_some, refl, sym, ◌∙◌, ap, arith, inl, inr}
use Rattle.std.specs.Prelude.{ℤ, pos, ◌+ℤ◌, slice_set}
use Rattle.std.proofs.lemmas.Int.{ints}
use Rattle.std.proofs.lemmas.Bool.{cases_lt, false_from_ne_true}
use Rattle.std.proofs.lemmas.List.{get_or_past, get_or_append_left, length_push}
use Rattle.std.proofs.Math.Seq.{get_or-append_seam, set-append_seam}
use Rattle.bx_base.specs.Sums.{sum_below, sum_ints_below}
use Rattle.bx_base.specs.Bookings.{Row, row_at, no_row, is_running, IsLawful}
use Rattle.bx_base.specs.Bound.{Charge, Proves, cost_of, term_of, bound_of, sum_of_prices}
use Rattle.bx_base.specs.Channels.{count_of}
use Rattle.bx_base.specs.PlanParts.{Parts}
use Rattle.bx_base.specs.Plans.{is_accepted}
use Rattle.bx_base.proofs.SumLemmas.{sum_below-same, sum_below-next}
use Rattle.bx_check.specs.Check.{IsOutcome}
use Rattle.bx_check.proofs.Sound.{sound-lawful_itself}
use Rattle.bx_planner.specs.Musts.{musts_at}
use Rattle.bx_planner.proofs.Tightness.{proof_is_tight}
use Rattle.bx_planner.specs.Quotes.{with_asked}
use Rattle.bx_planner.specs.Thresholds.{offered}
use Rattle.bx_planner.specs.Weighing.{IsSettledRow, rows_held, freed}
use Rattle.bx_planner.proofs.Holding.{ints_same, bound_change}

pub is_free : (plan : Parts) (i : ℕ) → IsOutcome plan.rows plan.channels plan (Ok plan.total) → i < length plan.rows → is_accepted plan.assigned i ≡ false → (row_at plan.rows i).must ≡ false
is_free plan i outcome h out = false_from_ne_true (row_at plan.rows i).must (λ m. let rows_held = (sound-lawful_itself plan.rows plan.channels plan outcome.0).has_musts i h m in cc)

same_bound : (a b x y : ℤ) (total : ℕ) → a +ℤ x ≡ b +ℤ y → x ≡ y → b ≡ pos total → a ≡ pos total
same_bound a b x y total e s t = omega (arith, ints)

dear_term : (prices : List Charge) (row : Row) → row.must ≡ false → row.pay ≤ cost_of prices row → term_of prices row ≡ pos 0
dear_term prices row free dear = rw free (ap (λ (n : ℕ). pos n) (none_left row.pay (cost_of prices row) dear))
  where
    none_left : (p c : ℕ) → p ≤ c → p - c ≡ 0
    none_left p c h = omega arith

-- a row that the plan refuses
pub settle_refused : (plan : Parts) (i : ℕ) → IsOutcome plan.rows plan.channels plan (Ok plan.total) → i < length plan.rows → is_accepted plan.assigned i ≡ false → IsSettledRow plan plan.rows i
settle_refused plan i outcome h out =
    let lawful = sound-lawful_itself plan.rows plan.channels plan outcome.0 in
    let row = row_at plan.rows i in
    let free = is_free plan i outcome h out in
    let proves : Proves plan.rows plan.channels plan.prices (is_accepted plan.assigned) = record { lawful = lawful; exact = outcome.3 ∙ ap (λ (n : ℕ). pos n) outcome.1 } in
    let dear = (proof_is_tight plan.rows plan.channels plan.prices (is_accepted plan.assigned) proves).left i h free out in
    let change = bound_change plan.rows i (record row { pay = 0 }) (count_of plan.channels) plan.prices h in
    record {
      inside = h;
      free = free;
      left_out = out;
      others_known = λ j l d. l;
      lawful = lawful;
      paid = sym outcome.1;
      proved = same_bound (bound_of (offered plan.rows i 0) (count_of plan.channels) plan.prices) (bound_of plan.rows (count_of plan.channels) plan.prices) (term_of plan.prices row) (term_of plan.prices (record row { pay = 0 })) plan.total change (dear_term plan.prices row free dear ∙ sym (dear_term plan.prices (record row { pay = 0 }) free (omega arith))) outcome.3;
    }

-- rows with one more after them
module _ (rows : List Row) (more : Row) where
  abbrev all : List Row
  all = rows ++ more ∷ []

  pub row_before : (j : ℕ) → j < length rows → row_at all j ≡ row_at rows j
  row_before j h = get_or_append_left rows (more ∷ []) no_row j h

  pub row_last : row_at all (length rows) ≡ more
  row_last = get_or-append_seam rows more [] no_row

  pub sum_more : (f : Row → ℕ → ℕ) → sum_below (length all) (λ j. f (row_at all j) j) ≡ sum_below (length rows) (λ j. f (row_at rows j) j) + f more (length rows)
  sum_more f =
      let n = length rows in
      let next = sum_below-next n (λ j. f (row_at all j) j) in
      let before = sum_below-same n (λ j. f (row_at all j) j) (λ j. f (row_at rows j) j) (λ j h. ap (λ (r : Row). f r j) (row_before j h)) in
      let last = ap (λ (r : Row). f r n) row_last in
      rw (length_push rows more) (omega (arith, next, before, last))

  ints_next : (n : ℕ) (f : ℕ → ℤ) → sum_ints_below (n + 1) f ≡ sum_ints_below n f +ℤ f n
  ints_next n f = let s : n + 1 ≡ suc n = omega arith in rw s refl

  pub bound_more : (count : ℕ) (prices : List Charge) → bound_of all count prices ≡ bound_of rows count prices +ℤ term_of prices more
  bound_more count prices =
      let n = length rows in
      let next = ints_next n (λ j. term_of prices (row_at all j)) in
      let before = ints_same n (λ j. term_of prices (row_at all j)) (λ j. term_of prices (row_at rows j)) (λ j h. ap (λ (r : Row). term_of prices r) (row_before j h)) in
      let last = ap (λ (r : Row). term_of prices r) row_last in
      rw (length_push rows more) (joined (pos (count * sum_of_prices prices)) (sum_ints_below (n + 1) (λ j. term_of prices (row_at all j))) (sum_ints_below n (λ j. term_of prices (row_at all j))) (sum_ints_below n (λ j. term_of prices (row_at rows j))) (term_of prices (row_at all n)) (term_of prices more) next before last)
    where
      joined : (base whole a b x y : ℤ) → whole ≡ a +ℤ x → a ≡ b → x ≡ y → base +ℤ whole ≡ (base +ℤ b) +ℤ y
      joined base whole a b x y e s t = omega (arith, ints)

  pub lawful_more : (channels : List Bool) (set : ℕ → Bool) → more.must ≡ false → set (length rows) ≡ false → IsLawful rows channels set → IsLawful all channels set
  lawful_more channels set free out lawful =
      let carries = lawful.carried.1 in
      let known = λ (j : ℕ) (h : j < length all) (p : set j ≡ true). within j h p in
      record {
        carried = (
          lawful.carried.0,
          record {
            in_service = λ j h p. carries.in_service j (within j h p) p;
            apart = λ j k l h p q o. (
                let last = within k h q in
                carries.apart j k l last p q (o.0, (ap (λ (r : Row). is_running r o.0) (sym (row_before j (omega arith))) ∙ o.1), (ap (λ (r : Row). is_running r o.0) (sym (row_before k last)) ∙ o.2)));
          },
        );
        has_musts = λ j h m. elim (cases_lt j (length rows)) [
          | inl a ↦ lawful.has_musts j a (ap (λ (r : Row). r.must) (sym (row_before j a)) ∙ m)
          | inr a ↦ (
              let s : j ≡ length rows = (let n = length_push rows more in omega (arith, h, n, a)) in
              let t : more.must ≡ true = ap (λ (r : Row). r.must) (sym row_last) ∙ (ap (λ (k : ℕ). (row_at all k).must) (sym s) ∙ m) in
              cc)
        ];
      }
    where
      within : (j : ℕ) → j < length all → set j ≡ true → j < length rows
      within j h p =
          elim (cases_lt j (length rows)) [
            | inl a ↦ a
            | inr a ↦ (
                let s : j ≡ length rows = (let n = length_push rows more in omega (arith, h, n, a)) in
                let t : set (length rows) ≡ true = ap set (sym s) ∙ p in
                absurd (cc))
          ]

-- a booking after the rows of the plan
module _ (plan : Parts) (booking : Row) (outcome : IsOutcome plan.rows plan.channels plan (Ok plan.total)) (one_each : length plan.assigned ≡ length plan.rows) where
  abbrev more : Row
  more = record booking { must = false }

  left_out : is_accepted plan.assigned (length plan.rows) ≡ false
  left_out = ap (λ (o : Option ℕ). is_some o) (get_or_past plan.assigned (length plan.rows) None (omega (arith, one_each)))

  pub settle_asked : IsSettledRow plan (with_asked plan.rows booking) (length plan.rows)
  settle_asked =
      let n = length plan.rows in
      let many = length_push plan.rows more in
      let set = is_accepted plan.assigned in
      let last = row_last plan.rows more in
      let paid = sum_more plan.rows more (λ r j. cond (set j) r.pay 0) in
      let none : ◌≡◌ {A = ℕ} (cond (set n) more.pay 0) 0 = rw left_out refl in
      let right = outcome.1 in
      let nothing = record more { pay = 0 } in
      let seam : offered (with_asked plan.rows booking) n 0 ≡ plan.rows ++ nothing ∷ [] =
      ap (λ (r : Row). slice_set (with_asked plan.rows booking) n (record r { pay = 0 })) last ∙ set-append_seam plan.rows more [] nothing in
      let bound = bound_more plan.rows nothing (count_of plan.channels) plan.prices in
      let term = dear_term plan.prices nothing refl (omega arith) in
      record {
        inside = omega (arith, many);
        free = ap (λ (r : Row). r.must) last;
        left_out = left_out;
        others_known = λ j h d. omega (arith, h, d, many);
        lawful = lawful_more plan.rows more plan.channels set refl left_out (sound-lawful_itself plan.rows plan.channels plan outcome.0);
        paid = omega (arith, paid, none, right);
        proved = ap (λ (all : List Row). bound_of all (count_of plan.channels) plan.prices) seam ∙ (bound ∙ (ap (λ (z : ℤ). bound_of plan.rows (count_of plan.channels) plan.prices +ℤ z) term ∙ (nothing_more (bound_of plan.rows (count_of plan.channels) plan.prices) ∙ outcome.3)));
      }
    where
      nothing_more : (z : ℤ) → z +ℤ pos 0 ≡ z
      nothing_more z = omega (arith, ints)

-- a free booking after them is no must row
pub musts_asked : (rows : List Row) (booking : Row) (t : ℕ) → musts_at (with_asked rows booking) t ≡ musts_at rows t
musts_asked rows booking t =
    let more = record booking { must = false } in
    let sum = sum_more rows more (λ r j. cond (r.must && is_running r t) 1 0) in
    omega (arith, sum)

-- the same booking as one that has to be held
pub held_asked : (rows : List Row) (booking : Row) → rows_held (with_asked rows booking) (length rows) ≡ rows ++ record booking { must = true } ∷ []
held_asked rows booking =
    let more = record booking { must = false } in
    ap (λ (r : Row). slice_set (with_asked rows booking) (length rows) (record r { must = true })) (row_last rows more) ∙ set-append_seam rows more [] (record booking { must = true })

pub freed_asked : (rows : List Row) (booking : Row) → freed (rows ++ record booking { must = true } ∷ []) (length rows) ≡ with_asked rows booking
freed_asked rows booking =
    let must = record booking { must = true } in
    ap (λ (r : Row). slice_set (rows ++ must ∷ []) (length rows) (record r { must = false })) (row_last rows must) ∙ set-append_seam rows must [] (record booking { must = false })
