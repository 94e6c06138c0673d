-- What each change of a day leaves as it is.
use Rattle.std.proofs.Common.{◌≡◌, ◌≢◌, ℕ, ◌-◌, ◌<◌, ◌≤◌, not, Bool, true, false, List, length, replicate, arith, refl, sym, subst, ap, ◌∙◌, inl, inr, nat_lt, length-set}
use Rattle.std.proofs.lemmas.Bool.{true≢false, cases_eq, ltb-true}
use Rattle.std.proofs.lemmas.List.{length-append, length-replicate}
use Rattle.bx_base.specs.Bookings.{Row, row_at}
use Rattle.bx_colour.specs.Colouring.{is_in}
use Rattle.bx_day.specs.Changed.{IsOverBy}
use Rattle.bx_day.specs.Day.{Day, entry_at}
use Rattle.bx_day.specs.Invariant.{EntryFits, is_refused}
use Rattle.bx_day.specs.Restoring.{IsState}
use Rattle.bx_day.specs.declared.entry.Entry.{Entry}
use Rattle.bx_day.specs.declared.entry.Standing.{Standing}
use Rattle.bx_day.specs.declared.entry.Standing.TheVariants.{Carried}
use Rattle.bx_day.proofs.Once.{each_at}
use Rattle.bx_sales.specs.Changing.{HasOtherEnd, MayBeCancelled, MayBeChanged, marks_without, rows_changed_in}
use Rattle.bx_sales.specs.GoingOn.{is_to_come, IsSameCall, KeepsBegun}
use Rattle.bx_sales.specs.Selling.{rows_of, marks_of}
use Rattle.bx_sales.specs.SellingAll.{AreLater, rows_and, marks_and}
use Rattle.bx_sales.proofs.Beside.{come_later, begun_accepted, started}
use Rattle.bx_sales.proofs.Places.{rows_size, marks_size, row_there, mark_there, other_mark, no_mark, other_row, this_row, first_row, more_row, first_mark}

over_by_end : (t : ℕ) (e : Entry) (s : Standing) → EntryFits t (record e { standing = s }) → IsOverBy s e.booking.end
over_by_end t e (Carried from until) f = f.2
over_by_end t e s f = tt

pub as_many : (d : Day) → length (marks_of d) ≡ length (rows_of d)
as_many d = marks_size d ∙ sym (rows_size d)

module _ (d : Day) (x : IsState d) where
  abbrev at : ℕ → Entry
  at i = entry_at d.entries i

  abbrev comes : ℕ → Bool
  comes i = is_to_come d.moment (at i)

  pub itself : (i : ℕ) → i < length d.entries → IsSameCall d.moment (at i) (at i).booking
  itself i lt = record {
    start = refl;
    end = inl refl;
    over = over_by_end d.moment (at i) (at i).standing (each_at (EntryFits d.moment) d.entries i lt x.exchange.day.each);
    number = refl;
    inward = refl;
  }

  accepted_mark : (i : ℕ) → i < length d.entries → comes i ≡ false → is_in (marks_of d) i ≡ true
  accepted_mark i lt h = mark_there d.entries i lt ∙ ap not (begun_accepted (nat_lt d.moment (at i).booking.start) (at i).standing h)

  come_start : (i : ℕ) → i < length d.entries → comes i ≡ true → is_in (marks_of d) i ≡ true → d.moment < (at i).booking.start
  come_start i lt h marked =
      let accepted : is_refused (at i).standing ≡ false = twice (is_refused (at i).standing) (sym (mark_there d.entries i lt) ∙ marked) in
      ltb-true d.moment (at i).booking.start (come_later (nat_lt d.moment (at i).booking.start) (at i).standing h accepted)
    where
      twice : (b : Bool) → not b ≡ true → b ≡ false
      twice false h = refl
      twice true h = sym h

  -- ---- with more behind them

  pub keeps_and : (rows : List Row) → AreLater d.moment rows → KeepsBegun d (rows_and d rows) (marks_and d rows)
  keeps_and rows later =
      let n = rows_size d in
      let m = marks_size d in
      let there : (i : ℕ) → i < length d.entries → row_at (rows_and d rows) i ≡ (at i).booking = λ i lt. first_row (rows_of d) rows i (omega (arith, lt, n)) ∙ row_there d.entries i lt in
      let mark : (i : ℕ) → i < length d.entries → is_in (marks_and d rows) i ≡ is_in (marks_of d) i = λ i lt. first_mark (marks_of d) (replicate (length rows) true) i (omega (arith, lt, m)) in
      record {
        longer = (let k = length-append (rows_of d) rows in omega (arith, k, n));
        marked = λ i lt h. mark i lt ∙ accepted_mark i lt h;
        begun = λ i lt h. subst (IsSameCall d.moment (at i)) (sym (there i lt)) (itself i lt);
        ahead = λ i lt h marked. (
            let early = come_start i lt h (sym (mark i lt) ∙ marked) in
            let start = ap (λ (r : Row). r.start) (there i lt) in
            omega (arith, early, start));
        fresh = λ i low lt marked. (
            let past : length (rows_of d) ≤ i = omega (arith, low, n) in
            let k = length-append (rows_of d) rows in
            let early = later (i - length (rows_of d)) (omega (arith, past, lt, k)) in
            let start = ap (λ (r : Row). r.start) (more_row (rows_of d) rows i past) in
            omega (arith, early, start));
      }

  pub count_and : (rows : List Row) → length (marks_and d rows) ≡ length (rows_and d rows)
  count_and rows =
      let a = length-append (marks_of d) (replicate (length rows) true) in
      let b = length-append (rows_of d) rows in
      let c = length-replicate (length rows) true in
      let same = as_many d in
      omega (arith, a, b, c, same)

  -- ---- as they are

  pub keeps_same : KeepsBegun d (rows_of d) (marks_of d)
  keeps_same =
      let n = rows_size d in
      record {
        longer = omega (arith, n);
        marked = accepted_mark;
        begun = λ i lt h. subst (IsSameCall d.moment (at i)) (sym (row_there d.entries i lt)) (itself i lt);
        ahead = λ i lt h marked. (
            let early = come_start i lt h marked in
            let start = ap (λ (r : Row). r.start) (row_there d.entries i lt) in
            omega (arith, early, start));
        fresh = λ i low lt. absurd (omega (arith, low, lt, n));
      }

  -- ---- without one that is ahead

  module _ (row : ℕ) (may : MayBeCancelled d row) where
    abbrev place : ℕ
    place = row - 1

    inside : place < length d.entries
    inside = let p = may.promised in (let a = p.named in let b = p.inside in omega (arith, a, b))

    not_this : (i : ℕ) → i < length d.entries → comes i ≡ false → i ≢ place
    not_this i lt h is =
        let by = started d x.ahead i lt h in
        let early = may.ahead in
        let same = ap (λ k. (at k).booking.start) is in
        omega (arith, by, early, same)

    marked_before : (i : ℕ) → is_in (marks_without d row) i ≡ true → is_in (marks_of d) i ≡ true
    marked_before i marked = elim (cases_eq i place) [
      | inl here ↦ absurd (true≢false (sym marked ∙ no_mark (marks_of d) place i here))
      | inr other ↦ sym (other_mark (marks_of d) place i other) ∙ marked
    ]

    pub keeps_without : KeepsBegun d (rows_of d) (marks_without d row)
    keeps_without = record {
      longer = keeps_same.longer;
      marked = λ i lt h. other_mark (marks_of d) place i (not_this i lt h) ∙ accepted_mark i lt h;
      begun = keeps_same.begun;
      ahead = λ i lt h marked. keeps_same.ahead i lt h (marked_before i marked);
      fresh = λ i low lt marked. keeps_same.fresh i low lt (marked_before i marked);
    }

    pub count_without : length (marks_without d row) ≡ length (rows_of d)
    count_without = length-set (marks_of d) place false ∙ as_many d

  -- ---- with another one in a row

  module _ (row : ℕ) (b : Row) (may : MayBeChanged d row b) where
    abbrev spot : ℕ
    spot = row - 1

    spot_inside : spot < length d.entries
    spot_inside = let p = may.promised in (let m = p.named in let n = p.inside in omega (arith, m, n))

    within : spot < length (rows_of d)
    within = let n = rows_size d in let i = spot_inside in omega (arith, i, n)

    size : length (rows_changed_in (rows_of d) row b) ≡ length d.entries
    size = length-set (rows_of d) spot b ∙ rows_size d

    same_there : HasOtherEnd d.moment (at spot) b → IsSameCall d.moment (at spot) b
    same_there h = record { start = h.start; end = inr (h.running, h.later); over = h.over; number = h.number; inward = h.inward }

    begun_spot : comes spot ≡ false → IsSameCall d.moment (at spot) b
    begun_spot h = elim may.may [
      | inl ahead ↦ absurd (let by = started d x.ahead spot spot_inside h in let early = ahead.0 in omega (arith, by, early))
      | inr other ↦ same_there other
    ]

    ahead_spot : comes spot ≡ true → is_in (marks_of d) spot ≡ true → d.moment < b.start
    ahead_spot h marked = elim may.may [
      | inl ahead ↦ ahead.1
      | inr other ↦ absurd (let early = come_start spot spot_inside h marked in let by = other.begun in omega (arith, early, by))
    ]

    pub keeps_changed : KeepsBegun d (rows_changed_in (rows_of d) row b) (marks_of d)
    keeps_changed = record {
      longer = (let n = size in omega (arith, n));
      marked = accepted_mark;
      begun = λ i lt h. elim (cases_eq i spot) [
        | inl here ↦ subst (λ k. IsSameCall d.moment (at k) (row_at (rows_changed_in (rows_of d) row b) k)) (sym here)
            (subst (IsSameCall d.moment (at spot)) (sym (this_row (rows_of d) spot b within)) (begun_spot (sym (ap comes here) ∙ h)))
        | inr other ↦ subst (IsSameCall d.moment (at i)) (sym (other_row (rows_of d) spot b i other)) (keeps_same.begun i lt h)
      ];
      ahead = λ i lt h marked. elim (cases_eq i spot) [
        | inl here ↦ (
            let early = ahead_spot (sym (ap comes here) ∙ h) (sym (ap (is_in (marks_of d)) here) ∙ marked) in
            let start = ap (λ (r : Row). r.start) (ap (row_at (rows_changed_in (rows_of d) row b)) here ∙ this_row (rows_of d) spot b within) in
            omega (arith, early, start))
        | inr other ↦ (
            let early = keeps_same.ahead i lt h marked in
            let start = ap (λ (r : Row). r.start) (other_row (rows_of d) spot b i other) in
            omega (arith, early, start))
      ];
      fresh = λ i low lt. absurd (let n = size in omega (arith, low, lt, n));
    }

    pub count_changed : length (marks_of d) ≡ length (rows_changed_in (rows_of d) row b)
    count_changed = let n = size in let m = marks_size d in omega (arith, n, m)
