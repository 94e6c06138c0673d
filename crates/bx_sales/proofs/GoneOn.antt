-- A day that has gone on with other rows has these rows, and the marked ones are accepted.
use Rattle.std.proofs.Common.{◌≡◌, ℕ, suc, ◌+◌, ◌<◌, ◌≤◌, not, Bool, true, false, List, [], ◌∷◌, map, length, Option, Some, None, is_some, arith, refl, sym, ap, ap₂, ◌∙◌, inl, inr, slice_index_or}
use Rattle.std.proofs.lemmas.Bool.{true≢false, cases_lt}
use Rattle.bx_base.specs.Bookings.{Row, row_at}
use Rattle.bx_colour.specs.ChangedRows.{choices_of}
use Rattle.bx_colour.specs.Colouring.{is_in}
use Rattle.bx_colour.proofs.FirstFitChanged.{marked_among}
use Rattle.bx_day.specs.Changed.{was_never_live, past_or_planned, with_past, referred, with_references, changed, AgreesAt, AgreesWith}
use Rattle.bx_day.specs.Day.{Day, entry_at, entry_of, entries_from}
use Rattle.bx_day.specs.Invariant.{is_refused}
use Rattle.bx_day.specs.declared.entry.Entry.{Entry}
use Rattle.bx_day.specs.declared.entry.Standing.{Standing}
use Rattle.bx_day.specs.declared.entry.Standing.TheVariants.{Refused, Unoffered}
use Rattle.bx_day.proofs.Changed.{kept, past_size, at_past, beyond_past}
use Rattle.bx_day.proofs.ChangedPlan.{referred_size, referred_at, beyond_referred}
use Rattle.bx_day.proofs.OpeningDay.{opening_size, opening_at}
use Rattle.bx_sales.specs.GoingOn.{own_of, GoesOnBeside}
use Rattle.bx_sales.specs.Selling.{rows_of, marks_of}

-- ---- lists, index by index

pub same_rows : (es : List Entry) (rows : List Row) → length es ≡ length rows → ((i : ℕ) → i < length rows → (entry_at es i).booking ≡ row_at rows i) → map (λ (e : Entry). e.booking) es ≡ rows
same_rows [] [] count same = refl
same_rows [] (r ∷ rows) count same = absurd (omega (arith, count))
same_rows (e ∷ es) [] count same = absurd (omega (arith, count))
same_rows (e ∷ es) (r ∷ rows) count same = ap₂ (λ z zs. z ∷ zs) (same 0 (omega arith)) (same_rows es rows (omega (arith, count)) (λ i lt. same (suc i) (omega (arith, lt))))

pub same_marks : (es : List Entry) (marks : List Bool) → length es ≡ length marks → ((i : ℕ) → i < length marks → not (is_refused (entry_at es i).standing) ≡ is_in marks i) → map (λ (e : Entry). not (is_refused e.standing)) es ≡ marks
same_marks [] [] count same = refl
same_marks [] (m ∷ marks) count same = absurd (omega (arith, count))
same_marks (e ∷ es) [] count same = absurd (omega (arith, count))
same_marks (e ∷ es) (m ∷ marks) count same = ap₂ (λ z zs. z ∷ zs) (same 0 (omega arith)) (same_marks es marks (omega (arith, count)) (λ i lt. same (suc i) (omega (arith, lt))))

-- ---- one booking

booking_of : (k : ℕ) (b : Row) (a : Option ℕ) → (entry_of k b a).booking ≡ b
booking_of k b None = refl
booking_of k b (Some c) = refl

accepted_new : (k : ℕ) (b : Row) (a : Option ℕ) → not (is_refused (entry_of k b a).standing) ≡ is_some a
accepted_new k b None = refl
accepted_new k b (Some c) = refl

accepted_kept : (k : ℕ) (b : Row) (s : Standing) (a : Option ℕ) → (was_never_live s ≡ false → is_some a ≡ true) → not (is_refused (past_or_planned s (entry_of k b a).standing)) ≡ is_some a
accepted_kept k b Refused a begun = accepted_new k b a
accepted_kept k b Unoffered a begun = accepted_new k b a
accepted_kept k b s a begun = sym (begun refl)

-- what was live once has a channel in a plan that agrees
begun_given : (t : ℕ) (e : Entry) (row : Row) (a : Option ℕ) → AgreesAt t e row a → was_never_live e.standing ≡ false → is_some a ≡ true
begun_given t e row a (inl idle) live = absurd (true≢false (sym idle.0 ∙ live))
begun_given t e row a (inr begun) live = ap is_some begun.channel

-- ---- the day

module _ (d : Day) (rows : List Row) (assigned : List (Option ℕ)) (x : AgreesWith d rows assigned) where
  abbrev planned : List Entry
  planned = entries_from 1 rows assigned

  abbrev news : List Entry
  news = with_references d.entries planned

  abbrev all : List Entry
  all = with_past d.entries news

  room : length d.entries ≤ length planned
  room = let le : length d.entries ≤ length rows = x.longer in omega (arith, le, opening_size 1 rows assigned)

  news_size : length news ≡ length rows
  news_size = referred_size d.entries planned room ∙ opening_size 1 rows assigned

  fewer : length d.entries ≤ length news
  fewer = let le : length d.entries ≤ length rows = x.longer in omega (arith, le, news_size)

  pub changed_size : length all ≡ length rows
  changed_size = past_size d.entries news fewer ∙ news_size

  planned_at : (i : ℕ) → i < length rows → entry_at planned i ≡ entry_of (i + 1) (row_at rows i) (slice_index_or assigned i None)
  planned_at i lt = opening_at 1 (i + 1) rows assigned i (let q : 1 + i ≡ i + 1 = omega arith in q) lt

  pub kept_at : (i : ℕ) → i < length d.entries → entry_at all i ≡ kept (entry_at d.entries i) (referred (entry_at d.entries i) (entry_of (i + 1) (row_at rows i) (slice_index_or assigned i None)))
  kept_at i lt =
      at_past d.entries news i fewer lt
      ∙ ap (kept (entry_at d.entries i)) (referred_at d.entries planned i room lt ∙ ap (referred (entry_at d.entries i)) (planned_at i (let n = x.longer in omega (arith, lt, n))))

  pub new_at : (i : ℕ) → length d.entries ≤ i → i < length rows → entry_at all i ≡ entry_of (i + 1) (row_at rows i) (slice_index_or assigned i None)
  new_at i low lt = beyond_past d.entries news i fewer low ∙ beyond_referred d.entries planned i room low ∙ planned_at i lt

  pub booking_at : (i : ℕ) → i < length rows → (entry_at all i).booking ≡ row_at rows i
  booking_at i lt = elim (cases_lt i (length d.entries)) [
    | inl old ↦ ap (λ (e : Entry). e.booking) (kept_at i old) ∙ booking_of (i + 1) (row_at rows i) (slice_index_or assigned i None)
    | inr new ↦ ap (λ (e : Entry). e.booking) (new_at i new lt) ∙ booking_of (i + 1) (row_at rows i) (slice_index_or assigned i None)
  ]

  accepted_at : (i : ℕ) → i < length rows → not (is_refused (entry_at all i).standing) ≡ is_some (slice_index_or assigned i None)
  accepted_at i lt = elim (cases_lt i (length d.entries)) [
    | inl old ↦ ap (λ (e : Entry). not (is_refused e.standing)) (kept_at i old)
        ∙ accepted_kept (i + 1) (row_at rows i) (entry_at d.entries i).standing (slice_index_or assigned i None) (begun_given d.moment (entry_at d.entries i) (row_at rows i) (slice_index_or assigned i None) (x.each i old))
    | inr new ↦ ap (λ (e : Entry). not (is_refused e.standing)) (new_at i new lt) ∙ accepted_new (i + 1) (row_at rows i) (slice_index_or assigned i None)
  ]

  pub rows_changed : rows_of (changed rows assigned d) ≡ rows
  rows_changed = same_rows all rows changed_size booking_at

module _ (channels : List Bool) (rows : List Row) (marks : List Bool) (d d1 : Day) (count : length marks ≡ length rows) (g : GoesOnBeside channels rows marks d d1) where
  pub rows_then : rows_of d1 ≡ rows
  rows_then = ap rows_of g.day ∙ rows_changed d rows g.assigned g.change.agrees

  pub marks_then : marks_of d1 ≡ marks
  marks_then =
      let n = changed_size d rows g.assigned g.change.agrees in
      ap marks_of g.day ∙ same_marks (changed rows g.assigned d).entries marks (n ∙ sym count) (λ i inside.
      let lt : i < length rows = omega (arith, inside, count) in
      accepted_at d rows g.assigned g.change.agrees i lt ∙ marked_among rows (choices_of (own_of d) channels) marks g.assigned i (is_in marks i) g.first_fit refl lt)
