-- A selection is best: what runs of it and what it pays is what the plan has beside all that is held, so another one that paid more would be a better plan.
use Rattle.std.proofs.Common.{◌≡◌, ℕ, zero, suc, ◌+◌, ◌<◌, ◌≤◌, ◌&&◌, Bool, true, false, true≢false, cond, List, [], ◌∷◌, ◌++◌, replicate, length, IfOk, Result, Ok, Err, Option, None, is_some, not, refl, sym, subst, ap, ap₂, ◌∙◌, arith}
use Rattle.std.proofs.lemmas.Bool.{and_parts, false≢true}
use Rattle.std.proofs.lemmas.List.{get_or_past, get_or_append_left, length-append, length-map, map-append}
use Rattle.bx_base.specs.Bookings.{Row, row_at, no_row, is_running, AreBookings, Carries, IsLawful, pay_of}
use Rattle.bx_base.specs.Channels.{count_of}
use Rattle.bx_base.specs.Plans.{is_accepted}
use Rattle.bx_base.proofs.Duality.{running-le-count}
use Rattle.bx_base.proofs.SumLemmas.{sum_below-same, sum_below-le}
use Rattle.bx_colour.specs.Colouring.{is_in, running_at, FitsChannels}
use Rattle.bx_day.specs.Day.{Day}
use Rattle.bx_day.specs.Invariant.{is_refused}
use Rattle.bx_day.specs.declared.entry.Entry.{Entry}
use Rattle.bx_planner.specs.Choices.{IsBest}
use Rattle.bx_planner.specs.Musts.{IsTooManyMust}
use Rattle.bx_planner.specs.Tight.{runs_at}
use Rattle.bx_planner.proofs.EnoughRoom.{carried_from_room}
use Rattle.bx_sales.specs.Selling.{rows_of, marks_of}
use Rattle.bx_market.specs.Choosing.{free_row, free_rows, chosen_marks, AreMustRows, FitsTogether, IsSelection, IsBestSelection}
use Rattle.bx_market.proofs.Totals.{all_marks, pays_more, total, marked, all_of, pays, runs, marked-total, total-append, marked-append, running_marked, running_total}
use Rattle.bx_market.proofs.Eligible.{all_free_total, chosen_count, chosen_eligible, chosen_total, picked, picked_total, free_rows_free}
use Rattle.bx_market.proofs.AllPromised.{must_in}

-- what is known of an answer that is well, put another way
pub ok_map : {A E : Type 0} (P Q : A → Type 0) (r : Result A E) → ((a : A) → P a → Q a) → IfOk r P → IfOk r Q
ok_map P Q (Ok a) on p = on a p
ok_map P Q (Err e) on p = tt

pub all_in : (rows : List Row) (i : ℕ) → i < length rows → is_in (all_of rows) i ≡ true
all_in [] i lt = absurd (omega (arith, lt))
all_in (row ∷ rows) zero lt = refl
all_in (row ∷ rows) (suc i) lt = all_in rows i (omega (arith, lt))

pub all_count : (rows : List Row) → length (all_of rows) ≡ length rows
all_count rows = length-map rows (λ (row : Row). true)

-- one mark for each booking of the day
pub marks_count : (d : Day) → length (marks_of d) ≡ length (rows_of d)
marks_count d = length-map d.entries (λ (e : Entry). not (is_refused e.standing)) ∙ sym (length-map d.entries (λ (e : Entry). e.booking))

no_channel : (parts : List Bool) (place i : ℕ) → is_in (chosen_marks parts [] place) i ≡ true → ⊥
no_channel [] place i h = true≢false (sym h ∙ get_or_past [] i false (omega arith))
no_channel (o ∷ parts) place zero h = let p = and_parts o (is_accepted [] place) h in true≢false (sym p.1 ∙ none_at place) where
  none_at : (k : ℕ) → is_accepted [] k ≡ false
  none_at k = ap (is_some {T = ℕ}) (get_or_past [] k None (omega arith))
no_channel (o ∷ parts) place (suc i) h = no_channel parts (cond o (place + 1) place) i h

less_or_same : (a b r : Bool) → (a ≡ true → b ≡ true) → cond {A = ℕ} (a && r) 1 0 ≤ cond (b && r) 1 0
less_or_same false b r h = omega arith
less_or_same true true r h = omega arith
less_or_same true false r h = absurd (false≢true (h refl))

-- what runs of both
pub together : (held batch : List Row) (marks : List Bool) (t : ℕ) → running_at held (replicate (length held) true) t + running_at batch marks t ≡ total (runs t) held (all_of held) + total (runs t) batch marks
together held batch marks t = ap₂ (λ (m n : ℕ). m + n) (ap (λ (ms : List Bool). running_at held ms t) (all_marks held) ∙ running_total held (all_of held) t) (running_total batch marks t)

module _ (channels : List Bool) (held batch : List Row) (parts : List Bool) (each : length parts ≡ length batch) (all_must : AreMustRows held) where
  abbrev asked : List Row
  asked = free_rows batch parts

  abbrev plan_rows : List Row
  plan_rows = held ++ asked

  module _ (other : List Bool) (choice : IsSelection channels held batch parts other) where
    abbrev other_marks : List Bool
    other_marks = all_of held ++ picked parts other

    other_in_plan : (f : Row → ℕ) → ((row : Row) → f (free_row row) ≡ f row) → marked f plan_rows (is_in other_marks) ≡ total f held (all_of held) + total f batch other
    other_in_plan f same =
        marked-total f plan_rows other_marks ∙ total-append f held asked (all_of held) (picked parts other) (all_count held)
        ∙ ap (λ (n : ℕ). total f held (all_of held) + n) (picked_total f same batch parts other each choice.one_each choice.among)

    other_room : (t : ℕ) → runs_at plan_rows (is_in other_marks) t ≤ count_of channels
    other_room t =
        let same = running_marked plan_rows (is_in other_marks) t ∙ other_in_plan (runs t) (λ row. refl) ∙ sym (together held batch other t) in
        let most = choice.fits t in
        omega (arith, same, most)

    other_musts : (i : ℕ) → i < length plan_rows → (row_at plan_rows i).must ≡ true → is_in other_marks i ≡ true
    other_musts i lt must = must_in held asked (picked parts other) (free_rows_free batch parts) i lt must

    other_lawful : AreBookings plan_rows → IsLawful plan_rows channels (is_in other_marks)
    other_lawful bookings = record {
      carried = carried_from_room plan_rows channels (is_in other_marks) (λ i lt. (bookings.each i lt).in_order) other_room 200000 (λ i lt. let a = (bookings.each i lt).in_order in let b = (bookings.each i lt).in_day in omega (arith, a, b));
      has_musts = other_musts;
    }

    -- where what is held is not carried
    none_fits : (t : ℕ) → IsTooManyMust plan_rows channels t → ⊥
    none_fits t many =
        let le = sum_below-le (length plan_rows) (λ i. cond ((row_at plan_rows i).must && is_running (row_at plan_rows i) t) 1 0) (λ i. cond (is_in other_marks i && is_running (row_at plan_rows i) t) 1 0) (λ i lt. less_or_same (row_at plan_rows i).must (is_in other_marks i) (is_running (row_at plan_rows i) t) (other_musts i lt)) in
        let room = other_room t in
        let here = many.here in
        omega (arith, le, room, here)

  module _ (assigned : List (Option ℕ)) where
    abbrev chosen : List Bool
    chosen = chosen_marks parts assigned (length held)

    chosen_each : length chosen ≡ length batch
    chosen_each = chosen_count parts assigned (length held) ∙ each

    module _ (lawful : IsLawful plan_rows channels (is_accepted assigned)) where
      kept_all : (i : ℕ) → i < length held → is_accepted assigned i ≡ true
      kept_all i lt = lawful.has_musts i (let n = length-append held asked in omega (arith, n, lt)) (ap (λ (r : Row). r.must) (get_or_append_left held asked no_row i lt) ∙ all_must i lt)

      chosen_in_plan : (f : Row → ℕ) → ((row : Row) → f (free_row row) ≡ f row) → marked f plan_rows (is_accepted assigned) ≡ total f held (all_of held) + total f batch chosen
      chosen_in_plan f same =
          let both = marked-append f held asked (is_accepted assigned) in
          let all = sum_below-same (length held) (λ i. cond (is_accepted assigned i) (f (row_at held i)) 0) (λ i. cond (is_in (all_of held) i) (f (row_at held i)) 0) (λ i lt. ap (λ (b : Bool). cond b (f (row_at held i)) 0) (kept_all i lt ∙ sym (all_in held i lt))) in
          let count = marked-total f held (all_of held) in
          let rest = chosen_total f same batch parts assigned (length held) each in
          omega (arith, both, all, count, rest)

      chosen_fits : (assignment : ℕ → ℕ) → Carries plan_rows channels (is_accepted assigned) assignment → FitsTogether channels held batch chosen
      chosen_fits assignment carries t =
          let same = together held batch chosen t ∙ sym (chosen_in_plan (runs t) (λ row. refl)) ∙ sym (running_marked plan_rows (is_accepted assigned) t) in
          let most = running-le-count plan_rows channels (is_accepted assigned) assignment carries t in
          omega (arith, same, most)

      pub chosen_best : AreBookings plan_rows → (most : ℕ) → most ≡ pay_of plan_rows (is_accepted assigned) → IsBest plan_rows channels most → IsBestSelection channels held batch parts chosen
      chosen_best bookings most paid best = record {
        one_each = chosen_each;
        among = chosen_eligible parts assigned (length held);
        fits = λ i h. chosen_fits lawful.carried.0 lawful.carried.1;
        best = λ other choice.
            let le = best (is_in (other_marks other choice)) (other_lawful other choice bookings) in
            let theirs : pay_of plan_rows (is_in (other_marks other choice)) ≡ total pays held (all_of held) + total pays batch other = other_in_plan other choice pays (λ row. refl) in
            let ours : pay_of plan_rows (is_accepted assigned) ≡ total pays held (all_of held) + total pays batch chosen = chosen_in_plan pays (λ row. refl) in
            let a : pay_of batch (is_in other) ≡ total pays batch other = marked-total pays batch other in
            let b : pay_of batch (is_in chosen) ≡ total pays batch chosen = marked-total pays batch chosen in
            omega (arith, le, theirs, ours, a, b, paid);
      }

  -- where what is held is not carried, nothing is chosen
  pub none_best : (t place : ℕ) → IsTooManyMust plan_rows channels t → IsBestSelection channels held batch parts (chosen_marks parts [] place)
  none_best t place many = record {
    one_each = chosen_count parts [] place ∙ each;
    among = chosen_eligible parts [] place;
    fits = λ i h. absurd (no_channel parts place i h);
    best = λ other choice. absurd (none_fits other choice t many);
  }

  -- where all of them fit, they are the best choice
  pub all_best : FitsChannels plan_rows (replicate (length plan_rows) true) channels → IsBestSelection channels held batch parts parts
  all_best fit = record {
    one_each = each;
    among = λ i h. h;
    fits = λ i h t.
        let f = runs t in
        let ours = together held batch parts t in
        let all : running_at plan_rows (replicate (length plan_rows) true) t ≡ total f plan_rows (all_of plan_rows) = ap (λ (ms : List Bool). running_at plan_rows ms t) (all_marks plan_rows) ∙ running_total plan_rows (all_of plan_rows) t in
        let split : total f plan_rows (all_of plan_rows) ≡ total f held (all_of held) + total f asked (all_of asked) = ap (total f plan_rows) (map-append (λ (row : Row). true) held asked) ∙ total-append f held asked (all_of held) (all_of asked) (all_count held) in
        let free = all_free_total f (λ row. refl) batch parts each in
        let most = fit.enough t in
        omega (arith, ours, all, split, free, most);
    best = λ other choice. sum_below-le (length batch) (λ i. cond (is_in other i) (row_at batch i).pay 0) (λ i. cond (is_in parts i) (row_at batch i).pay 0) (λ i lt. pays_more (is_in other i) (is_in parts i) (row_at batch i).pay (choice.among i));
  }

  -- the same of what was found one by one
  module _ (rows : List Row) (place : ℕ) (assigned : List (Option ℕ)) (found : List Bool) (rows_are : rows ≡ plan_rows) (place_is : place ≡ length held) (found_is : found ≡ chosen_marks parts assigned place) where
    same_chosen : found ≡ chosen_marks parts assigned (length held)
    same_chosen = found_is ∙ ap (chosen_marks parts assigned) place_is

    pub found_best : AreBookings rows → (most : ℕ) → IsLawful rows channels (is_accepted assigned) → most ≡ pay_of rows (is_accepted assigned) → IsBest rows channels most → IsBestSelection channels held batch parts found
    found_best bookings most lawful paid best =
        subst (IsBestSelection channels held batch parts) (sym same_chosen)
        (chosen_best assigned (subst (λ (rs : List Row). IsLawful rs channels (is_accepted assigned)) rows_are lawful) (subst AreBookings rows_are bookings) most
        (paid ∙ ap (λ (rs : List Row). pay_of rs (is_accepted assigned)) rows_are) (subst (λ (rs : List Row). IsBest rs channels most) rows_are best))

    pub found_none : assigned ≡ [] → (t : ℕ) → IsTooManyMust rows channels t → IsBestSelection channels held batch parts found
    found_none none t many =
        subst (IsBestSelection channels held batch parts) (sym (same_chosen ∙ ap (λ (a : List (Option ℕ)). chosen_marks parts a (length held)) none))
        (none_best t (length held) (subst (λ (rs : List Row). IsTooManyMust rs channels t) rows_are many))

  pub found_all : (rows : List Row) (found : List Bool) → rows ≡ plan_rows → found ≡ parts → FitsChannels rows (replicate (length rows) true) channels → IsBestSelection channels held batch parts found
  found_all rows found rows_are found_is fit =
      subst (IsBestSelection channels held batch parts) (sym found_is) (all_best (subst (λ (rs : List Row). FitsChannels rs (replicate (length rs) true) channels) rows_are fit))
