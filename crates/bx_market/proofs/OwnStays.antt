-- What has begun is the same after a day has gone on with its bookings, or with one more: it is on its channel as before.
use Rattle.std.proofs.Common.{◌≡◌, ℕ, ◌+◌, ◌<◌, ◌≤◌, ◌&&◌, Bool, true, false, List, [], ◌∷◌, length, Option, Some, None, is_some, arith, refl, sym, ap, ap₂, ◌∙◌, inl, inr, nat_lt, slice_index_or, if◌then◌else◌}
use Rattle.std.proofs.lemmas.Bool.{cases_lt, lt-ltb}
use Rattle.std.proofs.lemmas.List.{get_or_past, length-map}
use Rattle.bx_base.specs.Bookings.{Row, row_at}
use Rattle.bx_colour.specs.Beside.{counts_on, marks_beside}
use Rattle.bx_colour.specs.ChangedRows.{IsFirstFitAmong, choices_of}
use Rattle.bx_colour.specs.Colouring.{is_in}
use Rattle.bx_colour.proofs.RoomBeside.{marked_beside}
use Rattle.bx_day.specs.Changed.{was_never_live, past_or_planned, changed, AgreesWith}
use Rattle.bx_day.specs.Day.{Day, entry_at, entry_of, is_unoffered}
use Rattle.bx_day.specs.Invariant.{is_refused}
use Rattle.bx_day.specs.declared.entry.Entry.{Entry}
use Rattle.bx_day.specs.declared.entry.Standing.{Standing}
use Rattle.bx_day.specs.declared.entry.Standing.TheVariants.{Refused, Unoffered}
use Rattle.bx_day.proofs.Once.{decide}
use Rattle.bx_sales.specs.GoingOn.{is_to_come, own_at, own_of, KeepsBegun}
use Rattle.bx_sales.specs.Selling.{rows_of, rows_with, marks_with, IsSold}
use Rattle.bx_sales.proofs.Beside.{come_idle, marked_given, has_begun}
use Rattle.bx_sales.proofs.GoneOn.{changed_size, kept_at, new_at, booking_at}
use Rattle.bx_sales.proofs.Places.{own_there, rows_size, row_there, first_row}
use Rattle.bx_sales.proofs.Rows.{same_bools}

-- ---- one booking

-- whether a booking of this standing and start is to come
abbrev comes_by : ℕ → ℕ → Standing → Bool
comes_by t start s = if is_unoffered s then nat_lt t start else is_refused s

come_planned : (t k : ℕ) (b : Row) (s : Standing) (a : Option ℕ) → was_never_live s ≡ true → (is_some a ≡ true → t < b.start) → comes_by t b.start (past_or_planned s (entry_of k b a).standing) ≡ true
come_planned t k b Refused None idle ahead = refl
come_planned t k b Refused (Some c) idle ahead = lt-ltb t b.start (ahead refl)
come_planned t k b Unoffered None idle ahead = refl
come_planned t k b Unoffered (Some c) idle ahead = lt-ltb t b.start (ahead refl)
come_planned t k b s a idle ahead = absurd cc

come_new : (t k : ℕ) (b : Row) (a : Option ℕ) → (is_some a ≡ true → t < b.start) → comes_by t b.start (entry_of k b a).standing ≡ true
come_new t k b None ahead = refl
come_new t k b (Some c) ahead = lt-ltb t b.start (ahead refl)

stay_planned : (t start : ℕ) (s : Standing) → comes_by t start s ≡ false → comes_by t start (past_or_planned s Unoffered) ≡ false
stay_planned t start Refused h = absurd cc
stay_planned t start Unoffered h = h
stay_planned t start s h = refl

-- ---- the day after

module _ (d : Day) (channels : List Bool) (rows : List Row) (marks : List Bool) (assigned : List (Option ℕ)) (keeps : KeepsBegun d rows marks) (fit : IsFirstFitAmong rows (choices_of (own_of d) channels) marks assigned) (agrees : AgreesWith d rows assigned)
    (same : (i : ℕ) → i < length d.entries → row_at rows i ≡ (entry_at d.entries i).booking) where
  abbrev after : Day
  after = changed rows assigned d

  abbrev at : ℕ → Entry
  at i = entry_at d.entries i

  abbrev there : ℕ → Entry
  there i = entry_at after.entries i

  abbrev given : ℕ → Option ℕ
  given i = slice_index_or assigned i None

  size : length after.entries ≡ length rows
  size = changed_size d rows assigned agrees

  within : (i : ℕ) → i < length d.entries → i < length rows
  within i lt = let n = keeps.longer in omega (arith, lt, n)

  come_there : (i : ℕ) → i < length d.entries → is_to_come d.moment (at i) ≡ true → is_to_come d.moment (there i) ≡ true
  come_there i lt h =
      ap₂ (λ (s : Standing) (b : Row). comes_by d.moment b.start s) (ap (λ (e : Entry). e.standing) (kept_at d rows assigned agrees i lt)) (booking_at d rows assigned agrees i (within i lt))
      ∙ come_planned d.moment (i + 1) (row_at rows i) (at i).standing (given i) (come_idle (nat_lt d.moment (at i).booking.start) (at i).standing h)
      (λ some. keeps.ahead i lt h (marked_given d rows marks keeps channels assigned fit i some))

  given_there : (i : ℕ) → i < length d.entries → is_to_come d.moment (at i) ≡ false → given i ≡ Some (at i).channel
  given_there i lt h = (has_begun d rows marks keeps channels assigned fit i lt h).channel

  stay_there : (i : ℕ) → i < length d.entries → is_to_come d.moment (at i) ≡ false → is_to_come d.moment (there i) ≡ false
  stay_there i lt h =
      ap₂ (λ (s : Standing) (b : Row). comes_by d.moment b.start s)
      (ap (λ (e : Entry). e.standing) (kept_at d rows assigned agrees i lt) ∙ ap (λ (o : Option ℕ). past_or_planned (at i).standing (entry_of (i + 1) (row_at rows i) o).standing) (given_there i lt h))
      (booking_at d rows assigned agrees i (within i lt) ∙ same i lt)
      ∙ stay_planned d.moment (at i).booking.start (at i).standing h

  channel_there : (i : ℕ) → i < length d.entries → is_to_come d.moment (at i) ≡ false → (there i).channel ≡ (at i).channel
  channel_there i lt h =
      ap (λ (e : Entry). e.channel) (kept_at d rows assigned agrees i lt) ∙ ap (λ (o : Option ℕ). (entry_of (i + 1) (row_at rows i) o).channel) (given_there i lt h)

  new_there : (i : ℕ) → length d.entries ≤ i → i < length rows → is_to_come d.moment (there i) ≡ true
  new_there i low lt =
      ap₂ (λ (s : Standing) (b : Row). comes_by d.moment b.start s) (ap (λ (e : Entry). e.standing) (new_at d rows assigned agrees i low lt)) (booking_at d rows assigned agrees i lt)
      ∙ come_new d.moment (i + 1) (row_at rows i) (given i) (λ some. keeps.fresh i low lt (marked_given d rows marks keeps channels assigned fit i some))

  own_both : (i : ℕ) → i < length d.entries → own_at d.moment (there i) ≡ own_at d.moment (at i)
  own_both i lt = decide (is_to_come d.moment (at i))
      (λ h. ap (λ b. if b then None else Some (there i).channel) (come_there i lt h) ∙ sym (ap (λ b. if b then None else Some (at i).channel) h))
      (λ h. ap (λ b. if b then None else Some (there i).channel) (stay_there i lt h) ∙ ap Some (channel_there i lt h) ∙ sym (ap (λ b. if b then None else Some (at i).channel) h))

  own_past : (i : ℕ) → length d.entries ≤ i → slice_index_or (own_of after) i None ≡ None
  own_past i past = elim (cases_lt i (length rows)) [
    | inl lt ↦ own_there d.moment after.entries i (let n = size in omega (arith, lt, n)) ∙ ap (λ b. if b then None else Some (there i).channel) (new_there i past lt)
    | inr beyond ↦ get_or_past (own_of after) i None (let n = length-map after.entries (own_at d.moment) in let m = size in omega (arith, beyond, n, m))
  ]

  pub own_after : (i : ℕ) → slice_index_or (own_of after) i None ≡ slice_index_or (own_of d) i None
  own_after i = elim (cases_lt i (length d.entries)) [
    | inl lt ↦ (
        let inside : i < length after.entries = let n = size in let w = within i lt in omega (arith, n, w) in
        own_there d.moment after.entries i inside ∙ own_both i lt ∙ sym (own_there d.moment d.entries i lt))
    | inr past ↦ own_past i past ∙ sym (get_or_past (own_of d) i None (let n = length-map d.entries (own_at d.moment) in omega (arith, past, n)))
  ]

-- one more is sold
pub own_sold : (channels : List Bool) (row : Row) (d d1 : Day) → IsSold channels row d d1 → (i : ℕ) → slice_index_or (own_of d1) i None ≡ slice_index_or (own_of d) i None
own_sold channels row d d1 s i =
    let g = s.gone_on in
    let same : (k : ℕ) → k < length d.entries → row_at (rows_with d row) k ≡ (entry_at d.entries k).booking = λ k lt.
    first_row (rows_of d) (row ∷ []) k (let n = rows_size d in omega (arith, n, lt)) ∙ row_there d.entries k lt in
    ap (λ (x : Day). slice_index_or (own_of x) i None) g.day ∙ own_after d channels (rows_with d row) (marks_with d) g.assigned g.keeps g.first_fit g.change.agrees same i

-- so the same counts
pub same_beside : (own own' : List (Option ℕ)) (channels marks : List Bool) → ((i : ℕ) → slice_index_or own' i None ≡ slice_index_or own i None) → marks_beside own' channels marks ≡ marks_beside own channels marks
same_beside own own' channels marks same =
    same_bools (marks_beside own' channels marks) (marks_beside own channels marks) (size_of own' marks ∙ sym (size_of own marks)) (λ i lt.
    marked_beside own' channels marks i ∙ ap (λ (o : Option ℕ). is_in marks i && counts_on channels o) (same i) ∙ sym (marked_beside own channels marks i))
  where
    size_of : (own : List (Option ℕ)) (marks : List Bool) → length (marks_beside own channels marks) ≡ length marks
    size_of [] marks = refl
    size_of (o ∷ own) [] = refl
    size_of (o ∷ own) (m ∷ marks) = let rest = size_of own marks in omega (arith, rest)
