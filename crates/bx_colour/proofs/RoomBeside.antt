-- Rows are swept in the order of starts, so what has a channel of its own comes before all that has none. It finds that channel free, since whoever
-- holds it at its start overlaps it and has the same one of its own. Where another row finds none of the channels free, a row that counts on them
-- holds each of them, and with that row itself one too many run.
use Rattle.std.proofs.Common.{◌≡◌, ℕ, zero, suc, ◌<◌, Bool, true, false, cond, ◌&&◌, List, [], ◌∷◌, length, get_or, Option, Some, None, is_some, arith, refl, sym, ap, subst, ◌∙◌, inl, inr}
use Rattle.std.specs.Prelude.{slice_index_or}
use Rattle.std.proofs.lemmas.Bool.{cases_lt, and_parts, and_from, le-leb, lt-ltb, true≢false}
use Rattle.bx_base.specs.Bookings.{Row, row_at, AreBookings, Overlap, is_running, Carries}
use Rattle.bx_base.specs.Channels.{has_channel}
use Rattle.bx_base.specs.Orders.{index_in as row_in}
use Rattle.bx_base.specs.Plans.{channel_at}
use Rattle.bx_base.proofs.Duality.{running-le-count}
use Rattle.bx_colour.specs.Beside.{counts_on, marks_beside, AreBegunApart}
use Rattle.bx_colour.specs.ChangedRows.{IsFirstFitAmong, choice_of, choices_of}
use Rattle.bx_colour.specs.Colouring.{is_in, channel_of, FitsChannels, IsGiven, IsEarlier}
use Rattle.bx_colour.specs.Orders.{IsOrder}
use Rattle.bx_colour.proofs.Counting.{one_too_many}
use Rattle.bx_colour.proofs.FirstFitBeside.{own_alone}
use Rattle.bx_colour.proofs.FirstFitChanged.{earlier_starts}
use Rattle.bx_colour.proofs.OutcomeAmong.{accepts_same, given_to, channel_is, kept_apart}
use Rattle.bx_colour.proofs.RunningLemmas.{runs}
use Rattle.bx_colour.proofs.Sweeping.{has_one, not_before_itself}
use Rattle.bx_colour.proofs.SweepingAmong.{IsSweptAmong, no_channel_yet, running_on, taken_from_until}

and_true : (b : Bool) → b ≡ (b && true)
and_true true = refl
and_true false = refl

pub marked_beside : (own : List (Option ℕ)) (channels accepted : List Bool) (i : ℕ) → is_in (marks_beside own channels accepted) i ≡ (is_in accepted i && counts_on channels (slice_index_or own i None))
marked_beside [] channels accepted i = and_true (is_in accepted i)
marked_beside (o ∷ own) channels [] i = refl
marked_beside (o ∷ own) channels (a ∷ accepted) zero = refl
marked_beside (o ∷ own) channels (a ∷ accepted) (suc i) = marked_beside own channels accepted i

length_beside : (own : List (Option ℕ)) (channels accepted : List Bool) → length (marks_beside own channels accepted) ≡ length accepted
length_beside [] channels accepted = refl
length_beside (o ∷ own) channels [] = refl
length_beside (o ∷ own) channels (a ∷ accepted) = ap suc (length_beside own channels accepted)

-- what counts on these channels takes one of them, and what takes one of them counts
takes_one : (channels : List Bool) (o : Option ℕ) (n : ℕ) → has_channel (choice_of o channels) n ≡ true → counts_on channels o ≡ true → has_channel channels n ≡ true
takes_one channels None n chosen counts = chosen
takes_one channels (Some c) n chosen counts = subst (λ m. has_channel channels m ≡ true) (sym (own_alone channels c n chosen)) counts

counts_so : (channels : List Bool) (o : Option ℕ) (n : ℕ) → has_channel (choice_of o channels) n ≡ true → has_channel channels n ≡ true → counts_on channels o ≡ true
counts_so channels None n chosen has = refl
counts_so channels (Some c) n chosen has = subst (λ m. has_channel channels m ≡ true) (own_alone channels c n chosen) has

-- what is coloured so fits
module _ (rows : List Row) (own : List (Option ℕ)) (channels accepted : List Bool) (assigned : List (Option ℕ)) (one_each : length accepted ≡ length rows) (fit : IsFirstFitAmong rows (choices_of own channels) accepted assigned) where
  counted : (i : ℕ) → is_in (marks_beside own channels accepted) i ≡ true → (is_in accepted i ≡ true) × (counts_on channels (slice_index_or own i None) ≡ true)
  counted i m = and_parts (is_in accepted i) (counts_on channels (slice_index_or own i None)) (sym (marked_beside own channels accepted i) ∙ m)

  accepted_then : (i : ℕ) → is_in (marks_beside own channels accepted) i ≡ true → is_some (channel_of assigned i) ≡ true
  accepted_then i m = accepts_same rows (choices_of own channels) accepted assigned one_each fit i ∙ (counted i m).0

  carried : Carries rows channels (is_in (marks_beside own channels accepted)) (channel_at assigned)
  carried = record {
    in_service = λ i lt m.
        let g = given_to rows (choices_of own channels) accepted assigned one_each fit i (accepted_then i m) in
        let is = channel_is rows (choices_of own channels) accepted assigned one_each fit i g.0 g.1 in
        subst (λ n. has_channel channels n ≡ true) (sym is) (takes_one channels (slice_index_or own i None) g.0 g.2.in_service (counted i m).1);
    apart = λ i j lt h a b overlap. kept_apart rows (choices_of own channels) accepted assigned one_each fit i j lt h (accepted_then i a) (accepted_then j b) overlap;
  }

  pub fits_beside : FitsChannels rows (marks_beside own channels accepted) channels
  fits_beside = record {
    one_each = length_beside own channels accepted ∙ one_each;
    enough = λ moment. running-le-count rows channels (is_in (marks_beside own channels accepted)) (channel_at assigned) carried moment;
  }

-- where a row finds none free, too many run
module _ (rows : List Row) (own : List (Option ℕ)) (channels accepted : List Bool) (order : List (ℕ × ℕ)) (bookings : AreBookings rows) (is_order : IsOrder rows accepted order) (k : ℕ) (here : k < length order) (assigned : List (Option ℕ)) (until : List ℕ) (swept : IsSweptAmong rows (choices_of own channels) order k assigned until) where
  abbrev next : ℕ
  next = row_in order k

  abbrev marks : List Bool
  marks = marks_beside own channels accepted

  -- the channel that a row counts with
  abbrev held : ℕ → Option ℕ
  held j = cond (is_in marks j) (channel_of assigned j) None

  accepted_row : (j c : ℕ) → channel_of assigned j ≡ Some c → is_in accepted j ≡ true
  accepted_row j c e = let m = swept.only j c e in subst (λ r. is_in accepted r ≡ true) m.2 (is_order.each m.0 (omega (arith, m.1, here))).passes

  inside : (j c : ℕ) → channel_of assigned j ≡ Some c → j < length rows
  inside j c e = omega (arith, has_one assigned j c e, swept.one_each)

  -- a row has one of the channels that it had to choose from
  chosen : (j c : ℕ) → channel_of assigned j ≡ Some c → has_channel (choices_of own channels j) c ≡ true
  chosen j c e =
      let m = swept.only j c e in
      let g = subst (λ r. IsGiven rows (choices_of own channels r) assigned r) m.2 (swept.done m.0 m.1) in
      let same : g.0 ≡ c = cc (g.1, e) in
      subst (λ n. has_channel (choices_of own channels j) n ≡ true) same g.2.in_service

  met_own : (t : ℕ) → AreBegunApart t rows own accepted → (c j : ℕ) → slice_index_or own next None ≡ Some c → IsEarlier rows j next → Overlap (row_at rows j) (row_at rows next) → channel_of assigned j ≡ Some c → (o : Option ℕ) → slice_index_or own j None ≡ o → ⊥
  met_own t h c j is before overlap has None e =
      let entry = is_order.each k here in
      omega (arith, h.ahead j (inside j c has) (accepted_row j c has) e, earlier_starts rows j next before, h.begun next c entry.within entry.passes is)
  met_own t h c j is before overlap has (Some d) e =
      let entry = is_order.each k here in
      let choice = subst (λ (o : Option ℕ). has_channel (choice_of o channels) c ≡ true) e (chosen j c has) in
      let own_j : slice_index_or own j None ≡ Some c = e ∙ ap Some (sym (own_alone channels d c choice)) in
      elim (cases_lt j next) [
        | inl below ↦ h.apart j next c below entry.within (accepted_row j c has) entry.passes own_j is overlap
        | inr past ↦ elim (cases_lt next j) [
          | inl above ↦ h.apart next j c above (inside j c has) entry.passes (accepted_row j c has) is own_j (overlap.0, overlap.2, overlap.1)
          | inr same ↦ (let q : j ≡ next = omega (arith, past, same) in not_before_itself rows next (subst (λ r. IsEarlier rows r next) q before))
        ]
      ]

  own_not_taken : (t : ℕ) → AreBegunApart t rows own accepted → (c : ℕ) → slice_index_or own next None ≡ Some c → (row_at rows next).start < get_or until c 0 → ⊥
  own_not_taken t h c is late =
      let taken = taken_from_until rows (choices_of own channels) accepted order bookings is_order k here assigned until swept c late in
      met_own t h c taken.0 is taken.2 taken.3 taken.4 (slice_index_or own taken.0 None) refl

  held_only : (j c : ℕ) (b : Bool) → is_in marks j ≡ b → cond b (channel_of assigned j) None ≡ Some c → (j < length rows) × (is_in marks j ≡ true)
  held_only j c true e is = (inside j c is, e)
  held_only j c false e is = absurd (true≢false (sym (ap is_some is)))

  held_so : (j n : ℕ) → has_channel channels n ≡ true → channel_of assigned j ≡ Some n → held j ≡ Some n
  held_so j n has is =
      let counts = counts_so channels (slice_index_or own j None) n (chosen j n is) has in
      let mark : is_in marks j ≡ true = marked_beside own channels accepted j ∙ and_from (is_in accepted j) (counts_on channels (slice_index_or own j None)) (accepted_row j n is) counts in
      ap (λ (b : Bool). cond b (channel_of assigned j) None) mark ∙ is

  not_all_taken : slice_index_or own next None ≡ None → ((n : ℕ) → has_channel channels n ≡ true → (row_at rows next).start < get_or until n 0) → FitsChannels rows marks channels → ⊥
  not_all_taken is full fits =
      let entry = is_order.each k here in
      let moment = (row_at rows next).start in
      let on_each : (n : ℕ) → has_channel channels n ≡ true → (j : ℕ) × (held j ≡ Some n) × (is_running (row_at rows j) moment ≡ true) = λ n has.
      (let on = running_on rows (choices_of own channels) accepted order bookings is_order k here assigned until swept n (full n has) in
      (on.0, held_so on.0 n has on.1, on.2)) in
      let counts : counts_on channels (slice_index_or own next None) ≡ true = ap (counts_on channels) is in
      let mark : is_in marks next ≡ true = marked_beside own channels accepted next ∙ and_from (is_in accepted next) (counts_on channels (slice_index_or own next None)) entry.passes counts in
      let starts = and_from _ _ (le-leb moment moment (omega arith)) (lt-ltb moment (row_at rows next).end (bookings.each next entry.within).in_order) in
      let run : runs rows marks moment next ≡ true = and_from (is_in marks next) (is_running (row_at rows next) moment) mark starts in
      let none : held next ≡ None = ap (λ (b : Bool). cond b (channel_of assigned next) None) mark ∙ no_channel_yet rows (choices_of own channels) accepted order bookings is_order k here assigned until swept in
      let many = one_too_many rows channels marks held moment on_each (λ j c e. held_only j c (is_in marks j) refl e) next entry.within none run in
      omega (arith, many, fits.enough moment)

  -- where a row finds none free, what counts does not fit
  pub too_many_run : (t : ℕ) → AreBegunApart t rows own accepted → ((c : ℕ) → slice_index_or own next None ≡ Some c → has_channel (choices_of own channels next) c ≡ true) → ((n : ℕ) → has_channel (choices_of own channels next) n ≡ true → (row_at rows next).start < get_or until n 0) → FitsChannels rows marks channels → ⊥
  too_many_run t h there full fits = by_own (slice_index_or own next None) refl where
    by_own : (o : Option ℕ) → slice_index_or own next None ≡ o → ⊥
    by_own (Some c) e = own_not_taken t h c e (full c (there c e))
    by_own None e = not_all_taken e (λ n has. full n (subst (λ (o : Option ℕ). has_channel (choice_of o channels) n ≡ true) (sym e) has)) fits
