-- A day that goes on with other rows twice: what has begun is the same in between, so it might have gone on with the last ones at once.
use Rattle.std.proofs.Common.{◌≡◌, ℕ, ◌+◌, ◌<◌, ◌≤◌, Bool, true, false, List, [], ◌∷◌, length, Option, Some, None, is_some, arith, refl, sym, subst, ap, ap₂, ◌∙◌, inl, inr, nat_lt, slice_index_or, if◌then◌else◌}
use Rattle.std.proofs.lemmas.Bool.{true≢false, false≢true, cases_lt, lt-ltb, le-ltb}
use Rattle.std.proofs.lemmas.List.{get_or_past, length-map}
use Rattle.bx_base.specs.Bookings.{Row, row_at}
use Rattle.bx_colour.specs.ChangedRows.{IsFirstFitAmong, choices_of}
use Rattle.bx_day.specs.Changed.{was_never_live, past_or_planned, with_past, with_references, changed, EndsAlike, IsOverBy, AgreesWith, AreReferredByRow}
use Rattle.bx_day.specs.Day.{Day, entry_at, entry_of, entries_from, is_unoffered}
use Rattle.bx_day.specs.Invariant.{is_refused}
use Rattle.bx_day.specs.Reading.{IsNumbered}
use Rattle.bx_day.specs.declared.entry.Entry.{Entry}
use Rattle.bx_day.specs.declared.entry.Standing.{Standing}
use Rattle.bx_day.specs.declared.entry.Standing.TheVariants.{Refused, Unoffered}
use Rattle.bx_day.proofs.Law.{row_of_entry, reference_of_entry}
use Rattle.bx_day.proofs.Once.{decide}
use Rattle.bx_day.proofs.OpeningDay.{opening_size}
use Rattle.bx_sales.specs.GoingOn.{is_to_come, own_at, own_of, IsSameCall, KeepsBegun}
use Rattle.bx_sales.proofs.Beside.{WaitsAhead, started, come_idle, marked_given, has_begun}
use Rattle.bx_sales.proofs.GoneOn.{changed_size, kept_at, new_at, booking_at}
use Rattle.bx_sales.proofs.Places.{own_there}

-- ---- one booking

-- both ends are the same as a third one, or yet to come as it is
ends_between : (t a b c : ℕ) → EndsAlike t a b → EndsAlike t a c → EndsAlike t b c
ends_between t a b c (inl p) (inl q) = inl (q ∙ sym p)
ends_between t a b c (inl p) (inr q) = inr ((let l = q.0 in omega (arith, p, l)), q.1)
ends_between t a b c (inr p) (inl q) = inr (p.1, (let l = p.0 in omega (arith, q, l)))
ends_between t a b c (inr p) (inr q) = inr (p.1, q.1)

-- whether a booking of this standing and start is to come
abbrev comes_by : ℕ → ℕ → Standing → Bool
comes_by t start s = if is_unoffered s then nat_lt t start else is_refused s

come_planned : (t k : ℕ) (b : Row) (s : Standing) (a : Option ℕ) → was_never_live s ≡ true → (is_some a ≡ true → t < b.start) → comes_by t b.start (past_or_planned s (entry_of k b a).standing) ≡ true
come_planned t k b Refused None idle ahead = refl
come_planned t k b Refused (Some c) idle ahead = lt-ltb t b.start (ahead refl)
come_planned t k b Unoffered None idle ahead = refl
come_planned t k b Unoffered (Some c) idle ahead = lt-ltb t b.start (ahead refl)
come_planned t k b s a idle ahead = absurd (false≢true idle)

come_new : (t k : ℕ) (b : Row) (a : Option ℕ) → (is_some a ≡ true → t < b.start) → comes_by t b.start (entry_of k b a).standing ≡ true
come_new t k b None ahead = refl
come_new t k b (Some c) ahead = lt-ltb t b.start (ahead refl)

stay_planned : (t start : ℕ) (s : Standing) (v : Bool) → (if is_unoffered s then v else is_refused s) ≡ false → start ≤ t → comes_by t start (past_or_planned s Unoffered) ≡ false
stay_planned t start Refused v h by = absurd (true≢false h)
stay_planned t start Unoffered v h by = le-ltb t start by
stay_planned t start s v h by = refl

over_planned : (s : Standing) (end : ℕ) → IsOverBy s end → IsOverBy (past_or_planned s Unoffered) end
over_planned Refused end h = tt
over_planned Unoffered end h = tt
over_planned s end h = h

again : (s p n : Standing) → was_never_live p ≡ true → past_or_planned (past_or_planned s p) n ≡ past_or_planned s n
again Refused p n idle = ap (λ b. if b then n else p) idle
again Unoffered p n idle = ap (λ b. if b then n else p) idle
again s p n idle = refl

-- ---- entries of the openings of two plans

abbrev AreAlike : List Entry → List Entry → Type 0
AreAlike [] ns = Unit {0}
AreAlike (p ∷ ps) [] = ⊥
AreAlike (p ∷ ps) (n ∷ ns) = (was_never_live p.standing ≡ true) × (p.reference ≡ n.reference) × AreAlike ps ns

idle_of : (k : ℕ) (b : Row) (a : Option ℕ) → was_never_live (entry_of k b a).standing ≡ true
idle_of k b None = refl
idle_of k b (Some c) = refl

same_reference : (k : ℕ) (b b' : Row) (a a' : Option ℕ) → (entry_of k b a).reference ≡ (entry_of k b' a').reference
same_reference k b b' a a' = reference_of_entry k b a ∙ sym (reference_of_entry k b' a')

alike : (k : ℕ) (rows rows' : List Row) (a a' : List (Option ℕ)) → length rows ≤ length rows' → AreAlike (entries_from k rows a) (entries_from k rows' a')
alike k [] rows' a a' le = tt
alike k (b ∷ bs) [] a a' le = absurd (omega (arith, le))
alike k (b ∷ bs) (c ∷ cs) [] [] le = (idle_of k b None, same_reference k b c None None, alike (k + 1) bs cs [] [] (omega (arith, le)))
alike k (b ∷ bs) (c ∷ cs) [] (y ∷ ys) le = (idle_of k b None, same_reference k b c None y, alike (k + 1) bs cs [] ys (omega (arith, le)))
alike k (b ∷ bs) (c ∷ cs) (x ∷ xs) [] le = (idle_of k b x, same_reference k b c x None, alike (k + 1) bs cs xs [] (omega (arith, le)))
alike k (b ∷ bs) (c ∷ cs) (x ∷ xs) (y ∷ ys) le = (idle_of k b x, same_reference k b c x y, alike (k + 1) bs cs xs ys (omega (arith, le)))

all_anew : (ps ns : List Entry) → AreAlike ps ns → with_past ps (with_references ps ns) ≡ ns
all_anew [] ns h = refl
all_anew (p ∷ ps) [] h = absurd h
all_anew (p ∷ ps) (n ∷ ns) h =
    ap₂ (λ (s : Standing) (r : ℕ). record n { standing = s; reference = r } ∷ with_past ps (with_references ps ns)) (ap (λ b. if b then n.standing else p.standing) h.0) h.1
    ∙ ap (λ (l : List Entry). n ∷ l) (all_anew ps ns h.2)

twice : (es ps ns : List Entry) → length es ≤ length ps → AreAlike ps ns
    → with_past (with_past es (with_references es ps)) (with_references (with_past es (with_references es ps)) ns) ≡ with_past es (with_references es ns)
twice [] ps ns le h = all_anew ps ns h
twice (e ∷ es) [] ns le h = absurd (omega (arith, le))
twice (e ∷ es) (p ∷ ps) [] le h = absurd h
twice (e ∷ es) (p ∷ ps) (n ∷ ns) le h =
    ap (λ (s : Standing). record n { standing = s; reference = e.reference } ∷ with_past (with_past es (with_references es ps)) (with_references (with_past es (with_references es ps)) ns)) (again e.standing p.standing n.standing h.0)
    ∙ ap (λ (l : List Entry). record n { standing = past_or_planned e.standing n.standing; reference = e.reference } ∷ l) (twice es ps ns (omega (arith, le)) h.2)

-- ---- the day in between

module _ (d : Day) (waits : WaitsAhead d) (channels : List Bool) (rows : List Row) (marks : List Bool) (assigned : List (Option ℕ)) (keeps : KeepsBegun d rows marks) (fit : IsFirstFitAmong rows (choices_of (own_of d) channels) marks assigned) (agrees : AgreesWith d rows assigned) where
  abbrev between : Day
  between = changed rows assigned d

  abbrev at : ℕ → Entry
  at i = entry_at d.entries i

  abbrev there : ℕ → Entry
  there i = entry_at between.entries i

  abbrev given : ℕ → Option ℕ
  given i = slice_index_or assigned i None

  pub size : length between.entries ≡ length rows
  size = changed_size d rows assigned agrees

  within : (i : ℕ) → i < length d.entries → i < length rows
  within i lt = let n = keeps.longer in omega (arith, lt, n)

  given_start : (i : ℕ) → length d.entries ≤ i → i < length rows → is_some (given i) ≡ true → d.moment < (row_at rows i).start
  given_start i low lt some = keeps.fresh i low lt (marked_given d rows marks keeps channels assigned fit i some)

  come_there : (i : ℕ) → i < length d.entries → is_to_come d.moment (at i) ≡ true → is_to_come d.moment (there i) ≡ true
  come_there i lt h =
      ap₂ (λ (s : Standing) (b : Row). comes_by d.moment b.start s) (ap (λ (e : Entry). e.standing) (kept_at d rows assigned agrees i lt)) (booking_at d rows assigned agrees i (within i lt))
      ∙ come_planned d.moment (i + 1) (row_at rows i) (at i).standing (given i) (come_idle (nat_lt d.moment (at i).booking.start) (at i).standing h)
      (λ some. keeps.ahead i lt h (marked_given d rows marks keeps channels assigned fit i some))

  given_there : (i : ℕ) → i < length d.entries → is_to_come d.moment (at i) ≡ false → given i ≡ Some (at i).channel
  given_there i lt h = (has_begun d rows marks keeps channels assigned fit i lt h).channel

  standing_there : (i : ℕ) → i < length d.entries → is_to_come d.moment (at i) ≡ false → (there i).standing ≡ past_or_planned (at i).standing Unoffered
  standing_there i lt h =
      ap (λ (e : Entry). e.standing) (kept_at d rows assigned agrees i lt)
      ∙ ap (λ (o : Option ℕ). past_or_planned (at i).standing (entry_of (i + 1) (row_at rows i) o).standing) (given_there i lt h)

  stay_there : (i : ℕ) → i < length d.entries → is_to_come d.moment (at i) ≡ false → is_to_come d.moment (there i) ≡ false
  stay_there i lt h =
      ap₂ (λ (s : Standing) (b : Row). comes_by d.moment b.start s) (standing_there i lt h) (booking_at d rows assigned agrees i (within i lt))
      ∙ stay_planned d.moment (row_at rows i).start (at i).standing (nat_lt d.moment (at i).booking.start) h (let by = started d waits i lt h in let same = (keeps.begun i lt h).start in omega (arith, by, same))

  channel_there : (i : ℕ) → i < length d.entries → is_to_come d.moment (at i) ≡ false → (there i).channel ≡ (at i).channel
  channel_there i lt h =
      ap (λ (e : Entry). e.channel) (kept_at d rows assigned agrees i lt) ∙ ap (λ (o : Option ℕ). (entry_of (i + 1) (row_at rows i) o).channel) (given_there i lt h)

  new_there : (i : ℕ) → length d.entries ≤ i → i < length rows → is_to_come d.moment (there i) ≡ true
  new_there i low lt =
      ap₂ (λ (s : Standing) (b : Row). comes_by d.moment b.start s) (ap (λ (e : Entry). e.standing) (new_at d rows assigned agrees i low lt)) (booking_at d rows assigned agrees i lt)
      ∙ come_new d.moment (i + 1) (row_at rows i) (given i) (given_start i low lt)

  -- what has begun is the same, on the same channels
  pub own_same : (i : ℕ) → slice_index_or (own_of between) i None ≡ slice_index_or (own_of d) i None
  own_same i = elim (cases_lt i (length d.entries)) [
    | inl lt ↦ (
        let inside : i < length between.entries = let n = size in let w = within i lt in omega (arith, n, w) in
        own_there d.moment between.entries i inside ∙ own_both i lt ∙ sym (own_there d.moment d.entries i lt))
    | inr past ↦ own_past i past ∙ sym (get_or_past (own_of d) i None (let n = length-map d.entries (own_at d.moment) in omega (arith, past, n)))
  ]
    where
      own_both : (i : ℕ) → i < length d.entries → own_at d.moment (there i) ≡ own_at d.moment (at i)
      own_both i lt = decide (is_to_come d.moment (at i))
          (λ h. ap (λ b. if b then None else Some (there i).channel) (come_there i lt h) ∙ sym (ap (λ b. if b then None else Some (at i).channel) h))
          (λ h. ap (λ b. if b then None else Some (there i).channel) (stay_there i lt h) ∙ ap Some (channel_there i lt h) ∙ sym (ap (λ b. if b then None else Some (at i).channel) h))

      own_past : (i : ℕ) → length d.entries ≤ i → slice_index_or (own_of between) i None ≡ None
      own_past i past = elim (cases_lt i (length rows)) [
        | inl lt ↦ own_there d.moment between.entries i (let n = size in omega (arith, lt, n)) ∙ ap (λ b. if b then None else Some (there i).channel) (new_there i past lt)
        | inr beyond ↦ get_or_past (own_of between) i None (let n = length-map between.entries (own_at d.moment) in let m = size in omega (arith, beyond, n, m))
      ]

  -- references stay, and those of new ones are their rows
  pub referred_there : IsNumbered d.entries → AreReferredByRow d.entries → AreReferredByRow between.entries
  referred_there numbered by_row i inside =
      let lt : i < length rows = let n = size in omega (arith, inside, n) in
      elim (cases_lt i (length d.entries)) [
        | inl old ↦ (
            ap (λ (e : Entry). e.reference) (kept_at d rows assigned agrees i old) ∙ by_row i old ∙ numbered i old
            ∙ sym (ap (λ (e : Entry). e.row) (kept_at d rows assigned agrees i old) ∙ row_of_entry (i + 1) (row_at rows i) (given i)))
        | inr new ↦ (
            ap (λ (e : Entry). e.reference) (new_at d rows assigned agrees i new lt) ∙ reference_of_entry (i + 1) (row_at rows i) (given i)
            ∙ sym (ap (λ (e : Entry). e.row) (new_at d rows assigned agrees i new lt) ∙ row_of_entry (i + 1) (row_at rows i) (given i)))
      ]

  module _ (rows' : List Row) (longer : length rows ≤ length rows') where
    pub changed_twice : (assigned' : List (Option ℕ)) → changed rows' assigned' between ≡ changed rows' assigned' d
    changed_twice assigned' =
        ap (λ (es : List Entry). record d { entries = es }) (twice d.entries (entries_from 1 rows assigned) (entries_from 1 rows' assigned') room (alike 1 rows rows' assigned assigned' longer))
      where
        room : length d.entries ≤ length (entries_from 1 rows assigned)
        room = let n = opening_size 1 rows assigned in let k = keeps.longer in omega (arith, n, k)

    module _ (marks' : List Bool) (last : KeepsBegun d rows' marks') where
      -- what has begun there has begun before
      begun_before : (i : ℕ) → i < length between.entries → is_to_come d.moment (there i) ≡ false → (i < length d.entries) × (is_to_come d.moment (at i) ≡ false)
      begun_before i inside h = elim (cases_lt i (length d.entries)) [
        | inl lt ↦ (lt, decide (is_to_come d.moment (at i)) (λ come. absurd (true≢false (sym (come_there i lt come) ∙ h))) (λ stay. stay))
        | inr past ↦ absurd (true≢false (sym (new_there i past (let n = size in omega (arith, inside, n))) ∙ h))
      ]

      come_before : (i : ℕ) → i < length d.entries → is_to_come d.moment (there i) ≡ true → is_to_come d.moment (at i) ≡ true
      come_before i lt h = decide (is_to_come d.moment (at i)) (λ come. come) (λ stay. absurd (true≢false (sym h ∙ stay_there i lt stay)))

      same_call : (i : ℕ) → i < length d.entries → is_to_come d.moment (at i) ≡ false → IsSameCall d.moment (there i) (row_at rows' i)
      same_call i lt h =
          let first = keeps.begun i lt h in
          let second = last.begun i lt h in
          let b = booking_at d rows assigned agrees i (within i lt) in
          record {
            start = second.start ∙ sym (ap (λ (r : Row). r.start) b ∙ first.start);
            end = subst (λ (e : ℕ). EndsAlike d.moment e (row_at rows' i).end) (sym (ap (λ (r : Row). r.end) b)) (ends_between d.moment (at i).booking.end (row_at rows i).end (row_at rows' i).end first.end second.end);
            over = subst (λ (s : Standing). IsOverBy s (row_at rows' i).end) (sym (standing_there i lt h)) (over_planned (at i).standing (row_at rows' i).end second.over);
            number = second.number ∙ sym (ap (λ (r : Row). r.number) b ∙ first.number);
            inward = second.inward ∙ sym (ap (λ (r : Row). r.inward) b ∙ first.inward);
          }

      pub keeps_then : KeepsBegun between rows' marks'
      keeps_then = record {
        longer = (let n = size in omega (arith, n, longer));
        marked = λ i inside h. (let b = begun_before i inside h in last.marked i b.0 b.1);
        begun = λ i inside h. (let b = begun_before i inside h in same_call i b.0 b.1);
        ahead = λ i inside h marked. elim (cases_lt i (length d.entries)) [
          | inl lt ↦ last.ahead i lt (come_before i lt h) marked
          | inr past ↦ last.fresh i past (let n = size in omega (arith, inside, n, longer)) marked
        ];
        fresh = λ i low lt marked. last.fresh i (let n = size in let k = keeps.longer in omega (arith, low, n, k)) lt marked;
      }
