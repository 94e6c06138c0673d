-- What is kept where a channel is lost: the best selection of what is to come, beside all that has begun.
use Rattle.std.proofs.Common.{◌≡◌, ℕ, zero, suc, ◌+◌, ◌<◌, ◌&&◌, ◌||◌, not, Bool, true, false, true≢false, cond, List, [], ◌∷◌, map, length, replicate, Some, None, refl, sym, subst, ap, ◌∙◌, arith, inl, inr, nat_lt, if◌then◌else◌}
use Rattle.std.proofs.lemmas.Bool.{and_parts, cases_lt, false≢true}
use Rattle.std.proofs.lemmas.List.{get_or_past, length-map}
use Rattle.bx_base.specs.Bookings.{Row, pay_of}
use Rattle.bx_base.specs.Channels.{has_channel}
use Rattle.bx_colour.specs.Beside.{counts_on, marks_beside}
use Rattle.bx_colour.specs.Colouring.{is_in, running_at}
use Rattle.bx_day.specs.Day.{Day, entry_at, is_unoffered}
use Rattle.bx_day.specs.Invariant.{is_refused}
use Rattle.bx_day.specs.declared.entry.Entry.{Entry}
use Rattle.bx_sales.specs.GoingOn.{is_to_come, own_at, own_of, FitsBeside}
use Rattle.bx_sales.specs.Selling.{rows_of, marks_of}
use Rattle.bx_sales.proofs.Beside.{own_begun, own_none, waiting_accepted}
use Rattle.bx_sales.proofs.Places.{rows_size, mark_there, own_there}
use Rattle.bx_sales.proofs.Rows.{same_bools}
use Rattle.bx_market.specs.Choosing.{FitsTogether, IsSelection, IsBestSelection}
use Rattle.bx_market.specs.Leaving.{MayBeKept, IsBestKept}
use Rattle.bx_market.specs.LeavingSteps.{is_ahead, ahead_marks, has_begun_on, begun_rows, with_begun, AreAhead}
use Rattle.bx_market.proofs.AllPromised.{must_more}
use Rattle.bx_market.proofs.BestBatch.{beside_size}
use Rattle.bx_market.proofs.Chosen.{together}
use Rattle.bx_market.proofs.Totals.{total, all_of, pays, runs, marked-total, running_total}

-- ---- one booking, by whether it waits, has a later start, or is refused

pub ahead_comes : (u v r : Bool) → (u && v) ≡ true → (if u then v else r) ≡ true
ahead_comes true v r h = h
ahead_comes false v r h = absurd (false≢true h)

-- what counts of it, where it is to come or not, and is chosen or not
one_counts : (channels : List Bool) (comes chosen : Bool) (c n : ℕ) → (chosen ≡ true → comes ≡ true) → cond ((not comes || chosen) && counts_on channels (if comes then None else Some c)) n 0 ≡ cond (not comes && has_channel channels c) n 0 + cond chosen n 0
one_counts channels true true c n h = omega arith
one_counts channels true false c n h = omega arith
one_counts channels false false c n h = omega arith
one_counts channels false true c n h = absurd (false≢true (h refl))

one_pays : (comes chosen : Bool) (n : ℕ) → (chosen ≡ true → comes ≡ true) → cond (not comes || chosen) n 0 ≡ cond (not comes) n 0 + cond chosen n 0
one_pays true true n h = omega arith
one_pays true false n h = omega arith
one_pays false false n h = omega arith
one_pays false true n h = absurd (false≢true (h refl))

-- of what may be kept, what is to come and what has begun are all
one_same : (u v r other : Bool) → (other ≡ true → not r ≡ true) → ((if u then v else r) ≡ false → other ≡ true) → (not (if u then v else r) || (other && (u && v))) ≡ other
one_same true true r true p b = refl
one_same true true r false p b = refl
one_same true false r other p b = sym (b refl)
one_same false v true true p b = absurd (false≢true (p refl))
one_same false v true false p b = refl
one_same false v false other p b = sym (b refl)

one_promised : (u v r chosen : Bool) → (u ≡ true → r ≡ false) → (chosen ≡ true → (u && v) ≡ true) → (not (if u then v else r) || chosen) ≡ true → not r ≡ true
one_promised true v r chosen w h k = ap not (w refl)
one_promised false v true true w h k = absurd (false≢true (h refl))
one_promised false v true false w h k = absurd (false≢true k)
one_promised false v false chosen w h k = refl

-- ---- place by place

pub with_there : (t : ℕ) (es : List Entry) (chosen : List Bool) (i : ℕ) → length chosen ≡ length es → i < length es → is_in (with_begun t es chosen) i ≡ (not (is_to_come t (entry_at es i)) || is_in chosen i)
with_there t [] chosen i count lt = absurd (omega (arith, lt))
with_there t (e ∷ es) [] i count lt = absurd (omega (arith, count))
with_there t (e ∷ es) (c ∷ chosen) zero count lt = refl
with_there t (e ∷ es) (c ∷ chosen) (suc i) count lt = with_there t es chosen i (omega (arith, count)) (omega (arith, lt))

pub with_size : (t : ℕ) (es : List Entry) (chosen : List Bool) → length chosen ≡ length es → length (with_begun t es chosen) ≡ length es
with_size t [] chosen count = refl
with_size t (e ∷ es) [] count = absurd (omega (arith, count))
with_size t (e ∷ es) (c ∷ chosen) count = ap suc (with_size t es chosen (omega (arith, count)))

pub ahead_there : (t : ℕ) (es : List Entry) (i : ℕ) → i < length es → is_in (ahead_marks t es) i ≡ is_ahead t (entry_at es i)
ahead_there t [] i lt = absurd (omega (arith, lt))
ahead_there t (e ∷ es) zero lt = refl
ahead_there t (e ∷ es) (suc i) lt = ahead_there t es i (omega (arith, lt))

abbrev those_ahead : ℕ → List Entry → List Bool → List Bool
those_ahead t [] other = []
those_ahead t (e ∷ es) [] = []
those_ahead t (e ∷ es) (mark ∷ other) = (mark && is_ahead t e) ∷ those_ahead t es other

those_there : (t : ℕ) (es : List Entry) (other : List Bool) (i : ℕ) → length other ≡ length es → i < length es → is_in (those_ahead t es other) i ≡ (is_in other i && is_ahead t (entry_at es i))
those_there t [] other i count lt = absurd (omega (arith, lt))
those_there t (e ∷ es) [] i count lt = absurd (omega (arith, count))
those_there t (e ∷ es) (c ∷ other) zero count lt = refl
those_there t (e ∷ es) (c ∷ other) (suc i) count lt = those_there t es other i (omega (arith, count)) (omega (arith, lt))

those_size : (t : ℕ) (es : List Entry) (other : List Bool) → length other ≡ length es → length (those_ahead t es other) ≡ length es
those_size t [] other count = refl
those_size t (e ∷ es) [] count = absurd (omega (arith, count))
those_size t (e ∷ es) (c ∷ other) count = ap suc (those_size t es other (omega (arith, count)))

-- what is marked has a place
in_size : (marks : List Bool) (i : ℕ) → is_in marks i ≡ true → i < length marks
in_size marks i h = elim (cases_lt i (length marks)) [ inl lt ↦ lt | inr past ↦ absurd (true≢false (sym h ∙ get_or_past marks i false past)) ]

-- ---- sums

first_comes : (t : ℕ) (e : Entry) (es : List Entry) (c : Bool) (chosen : List Bool) → AreAhead t (e ∷ es) (c ∷ chosen) → c ≡ true → is_to_come t e ≡ true
first_comes t e es c chosen among h = ahead_comes (is_unoffered e.standing) (nat_lt t e.booking.start) (is_refused e.standing) (among 0 h)

module _ (f : Row → ℕ) (same : (row : Row) → f (record row { must = true }) ≡ f row) where
  pub kept_total : (channels : List Bool) (t : ℕ) (es : List Entry) (chosen : List Bool) → length chosen ≡ length es → AreAhead t es chosen
      → total f (map (λ (e : Entry). e.booking) es) (marks_beside (map (own_at t) es) channels (with_begun t es chosen)) ≡ total f (begun_rows channels t es) (all_of (begun_rows channels t es)) + total f (map (λ (e : Entry). e.booking) es) chosen
  kept_total channels t [] chosen count among = refl
  kept_total channels t (e ∷ es) [] count among = absurd (omega (arith, count))
  kept_total channels t (e ∷ es) (c ∷ chosen) count among =
      let rest = kept_total channels t es chosen (omega (arith, count)) (λ i h. among (suc i) h) in
      let one = one_counts channels (is_to_come t e) c e.channel (f e.booking) (first_comes t e es c chosen among) in
      let held = must_more f same e.booking (begun_rows channels t es) (has_begun_on channels t e) in
      omega (arith, rest, one, held)

  abbrev begun_pays : ℕ → List Entry → ℕ
  begun_pays t es = total f (map (λ (e : Entry). e.booking) es) (map (λ (e : Entry). not (is_to_come t e)) es)

  pub with_total : (t : ℕ) (es : List Entry) (chosen : List Bool) → length chosen ≡ length es → AreAhead t es chosen → total f (map (λ (e : Entry). e.booking) es) (with_begun t es chosen) ≡ begun_pays t es + total f (map (λ (e : Entry). e.booking) es) chosen
  with_total t [] chosen count among = refl
  with_total t (e ∷ es) [] count among = absurd (omega (arith, count))
  with_total t (e ∷ es) (c ∷ chosen) count among =
      let rest = with_total t es chosen (omega (arith, count)) (λ i h. among (suc i) h) in
      let one = one_pays (is_to_come t e) c (f e.booking) (first_comes t e es c chosen among) in
      omega (arith, rest, one)

-- ---- the day

module _ (left : List Bool) (d : Day) where
  abbrev t : ℕ
  t = d.moment

  abbrev es : List Entry
  es = d.entries

  abbrev at : ℕ → Entry
  at i = entry_at es i

  abbrev held : List Row
  held = begun_rows left t es

  own_size : length (own_of d) ≡ length es
  own_size = length-map es (own_at t)

  module _ (chosen : List Bool) (count : length chosen ≡ length es) (among : AreAhead t es chosen) where
    counts : (m : ℕ) → running_at (rows_of d) (marks_beside (own_of d) left (with_begun t es chosen)) m ≡ running_at held (replicate (length held) true) m + running_at (rows_of d) chosen m
    counts m = running_total (rows_of d) (marks_beside (own_of d) left (with_begun t es chosen)) m ∙ kept_total (runs m) (λ row. refl) left t es chosen count among ∙ sym (together held (rows_of d) chosen m)

    fits_there : FitsTogether left held (rows_of d) chosen → FitsBeside left d (rows_of d) (with_begun t es chosen)
    fits_there fits = record {
      one_each = (let a = beside_size (own_of d) left (with_begun t es chosen) (own_size ∙ sym (with_size t es chosen count)) in let b = with_size t es chosen count in let n = rows_size d in omega (arith, a, b, n));
      enough = λ m. let most = fits m in let e = counts m in omega (arith, most, e);
    }

    fits_here : FitsBeside left d (rows_of d) (with_begun t es chosen) → FitsTogether left held (rows_of d) chosen
    fits_here fits m = let most = fits.enough m in let e = counts m in omega (arith, most, e)

    pays_there : pay_of (rows_of d) (is_in (with_begun t es chosen)) ≡ begun_pays pays (λ row. refl) t es + pay_of (rows_of d) (is_in chosen)
    pays_there =
        let all : pay_of (rows_of d) (is_in (with_begun t es chosen)) ≡ total pays (rows_of d) (with_begun t es chosen) = marked-total pays (rows_of d) (with_begun t es chosen) in
        let some : pay_of (rows_of d) (is_in chosen) ≡ total pays (rows_of d) chosen = marked-total pays (rows_of d) chosen in
        let both = with_total pays (λ row. refl) t es chosen count among in
        omega (arith, all, some, both)

  -- ---- another set that may be kept

  module _ (other : List Bool) (may : MayBeKept left (marks_of d) d other) where
    begun_in : (i : ℕ) → i < length es → is_to_come t (at i) ≡ false → is_in other i ≡ true
    begun_in i lt h = may.begun i (at i).channel (own_there t es i lt ∙ ap (λ b. if b then None else Some (at i).channel) h)

    other_is : with_begun t es (those_ahead t es other) ≡ other
    other_is =
        let count = those_size t es other may.one_each in
        same_bools (with_begun t es (those_ahead t es other)) other (with_size t es (those_ahead t es other) count ∙ sym may.one_each) (λ i lt.
        let inside : i < length es = omega (arith, lt, may.one_each) in
        with_there t es (those_ahead t es other) i count inside
        ∙ ap (λ (b : Bool). not (is_to_come t (at i)) || b) (those_there t es other i may.one_each inside)
        ∙ one_same (is_unoffered (at i).standing) (nat_lt t (at i).booking.start) (is_refused (at i).standing) (is_in other i)
        (λ h. sym (mark_there es i inside) ∙ may.promised i h) (begun_in i inside))

    those_among : AreAhead t es (those_ahead t es other)
    those_among i h =
        let lt : i < length es = let n = those_size t es other may.one_each in let k = in_size (those_ahead t es other) i h in omega (arith, n, k) in
        ahead_there t es i lt ∙ (and_parts (is_in other i) (is_ahead t (at i)) (sym (those_there t es other i may.one_each lt) ∙ h)).1

    those_selected : IsSelection left held (rows_of d) (ahead_marks t es) (those_ahead t es other)
    those_selected = record {
      one_each = those_size t es other may.one_each ∙ sym (rows_size d);
      among = those_among;
      fits = fits_here (those_ahead t es other) (those_size t es other may.one_each) those_among (subst (FitsBeside left d (rows_of d)) (sym other_is) may.fits);
    }

  -- ---- the best selection

  module _ (chosen : List Bool) (best : IsBestSelection left held (rows_of d) (ahead_marks t es) chosen) where
    chosen_size : length chosen ≡ length es
    chosen_size = best.one_each ∙ rows_size d

    pub best_kept : IsBestKept left (marks_of d) d (with_begun t es chosen)
    best_kept = record {
      one_each = with_size t es chosen chosen_size;
      promised = λ i h. (
          let lt : i < length es = let n = with_size t es chosen chosen_size in let k = in_size (with_begun t es chosen) i h in omega (arith, n, k) in
          mark_there es i lt
          ∙ one_promised (is_unoffered (at i).standing) (nat_lt t (at i).booking.start) (is_refused (at i).standing) (is_in chosen i) (waiting_accepted (at i).standing)
          (λ k. sym (ahead_there t es i lt) ∙ best.among i k) (sym (with_there t es chosen i chosen_size lt) ∙ h));
      begun = λ i c own. (
          let b = own_begun d i c own in
          with_there t es chosen i chosen_size b.0 ∙ ap (λ (comes : Bool). not comes || is_in chosen i) b.1);
      fits = λ i own h. (
          let lt : i < length es = let n = with_size t es chosen chosen_size in let k = in_size (with_begun t es chosen) i h in omega (arith, n, k) in
          let comes = own_none d i lt own in
          let marked : is_in chosen i ≡ true = sym (ap (λ (b : Bool). not b || is_in chosen i) comes) ∙ sym (with_there t es chosen i chosen_size lt) ∙ h in
          fits_there chosen chosen_size best.among (best.fits i marked));
      best = λ other may. (
          let theirs = those_selected other may in
          let le = best.best (those_ahead t es other) theirs in
          let a = pays_there (those_ahead t es other) (those_size t es other may.one_each) (those_among other may) in
          let b = pays_there chosen chosen_size best.among in
          let same : pay_of (rows_of d) (is_in (with_begun t es (those_ahead t es other))) ≡ pay_of (rows_of d) (is_in other) = ap (λ (ms : List Bool). pay_of (rows_of d) (is_in ms)) (other_is other may) in
          omega (arith, le, a, b, same));
    }
