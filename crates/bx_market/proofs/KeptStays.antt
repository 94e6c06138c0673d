-- What was chosen to be kept is what is kept, when the others are given up and all have left the lost channel; and it still pays most.
use Rattle.std.proofs.Common.{◌≡◌, ℕ, ◌+◌, ◌<◌, ◌≤◌, ◌&&◌, ◌||◌, not, Bool, true, false, true≢false, List, length, Some, None, arith, refl, sym, subst, ap, ap₂, ◌∙◌, inl, inr, slice_index_or, nat_lt, if◌then◌else◌}
use Rattle.std.proofs.lemmas.Bool.{and_parts, cases_eq, cases_lt, false≢true}
use Rattle.std.proofs.lemmas.List.{get_or_past, length-map}
use Rattle.bx_base.specs.Bookings.{Row, pay_of}
use Rattle.bx_colour.specs.Beside.{marks_beside}
use Rattle.bx_colour.specs.Colouring.{is_in, FitsChannels}
use Rattle.bx_day.specs.Day.{Day, entry_at, is_unoffered}
use Rattle.bx_day.specs.Invariant.{is_refused}
use Rattle.bx_day.specs.declared.entry.Entry.{Entry}
use Rattle.bx_day.specs.declared.entry.Standing.{Standing}
use Rattle.bx_day.proofs.Once.{decide}
use Rattle.bx_sales.specs.GoingOn.{is_to_come, own_at, own_of, FitsBeside}
use Rattle.bx_sales.specs.Left.{left_in_service}
use Rattle.bx_sales.specs.Leaving.{IsChannelLeft}
use Rattle.bx_sales.specs.Selling.{rows_of, marks_of}
use Rattle.bx_sales.proofs.Beside.{waiting_accepted, begun_accepted}
use Rattle.bx_sales.proofs.GoneOn.{same_rows, same_marks, rows_then, marks_then}
use Rattle.bx_sales.proofs.Places.{rows_size, marks_size, row_there, mark_there, own_there}
use Rattle.bx_market.specs.Leaving.{IsBestKept}
use Rattle.bx_market.specs.LeavingSteps.{is_ahead, with_begun, IsSameEntry, AreSameBut, IsLaterEntry, IsGivenUpWhere, IsNowKept, AreAhead}
use Rattle.bx_market.proofs.Chosen.{marks_count}
use Rattle.bx_market.proofs.Kept.{ahead_comes, with_there, with_size, ahead_there}
use Rattle.bx_market.proofs.OwnStays.{own_after, same_beside}

-- ---- one booking after another

pub same_then : (a b c : Entry) → IsSameEntry a b → IsSameEntry b c → IsSameEntry a c
same_then a b c first second = record {
  booking = second.booking ∙ first.booking;
  standing = second.standing ∙ first.standing;
  channel = λ accepted. second.channel (ap is_refused first.standing ∙ accepted) ∙ first.channel accepted;
}

given_up_then : (w : Bool) (a b c : Entry) → IsGivenUpWhere w a b → IsSameEntry b c → IsGivenUpWhere w a c
given_up_then true a b c first second = (second.booking ∙ first.0, ap is_refused second.standing ∙ first.1)
given_up_then false a b c first second = same_then a b c first second

then_given_up : (w : Bool) (a b c : Entry) → IsSameEntry a b → IsGivenUpWhere w b c → IsGivenUpWhere w a c
then_given_up true a b c first second = (second.0 ∙ first.booking, second.1)
then_given_up false a b c first second = same_then a b c first second

ahead_same : (t s : ℕ) (a b : Entry) → s ≡ t → IsSameEntry a b → is_ahead s b ≡ is_ahead t a
ahead_same t s a b now same = ap₂ (λ (u : Bool) (v : Bool). u && v) (ap is_unoffered same.standing) (ap₂ nat_lt now (ap (λ (r : Row). r.start) same.booking))

-- ---- those that are not chosen are given up, one after another

-- the first of them are settled, and the others as they were
pub record AreSettledUpTo (chosen : List Bool) (index : ℕ) (old now : Day) : Type 0 where
  pub moment : now.moment ≡ old.moment
  pub maintenance : now.maintenance ≡ old.maintenance
  pub count : length now.entries ≡ length old.entries
  pub before : (i : ℕ) → i < index → i < length old.entries → IsGivenUpWhere (is_ahead old.moment (entry_at old.entries i) && not (is_in chosen i)) (entry_at old.entries i) (entry_at now.entries i)
  pub others : (i : ℕ) → index ≤ i → i < length old.entries → IsSameEntry (entry_at old.entries i) (entry_at now.entries i)

pub none_settled : (chosen : List Bool) (d : Day) → AreSettledUpTo chosen 0 d d
none_settled chosen d = record {
  moment = refl;
  maintenance = refl;
  count = refl;
  before = λ i lt. absurd (omega (arith, lt));
  others = λ i from lt. record { booking = refl; standing = refl; channel = λ accepted. refl };
}

pub one_settled : (chosen : List Bool) (index : ℕ) (old now next : Day) → AreSettledUpTo chosen index old now → index < length old.entries → AreSameBut index now next
    → (marked : Bool) → marked ≡ is_in chosen index
    → IsGivenUpWhere (is_ahead now.moment (entry_at now.entries index) && not marked) (entry_at now.entries index) (entry_at next.entries index) → AreSettledUpTo chosen (index + 1) old next
one_settled chosen index old now next s lt same marked is here = record {
  moment = same.moment ∙ s.moment;
  maintenance = same.maintenance ∙ s.maintenance;
  count = same.count ∙ s.count;
  before = λ i less inside. elim (cases_eq i index) [
    | inl at ↦ subst (λ (k : ℕ). IsGivenUpWhere (is_ahead old.moment (entry_at old.entries k) && not (is_in chosen k)) (entry_at old.entries k) (entry_at next.entries k)) (sym at) this
    | inr other ↦ (
        let k = s.count in
        given_up_then (is_ahead old.moment (entry_at old.entries i) && not (is_in chosen i)) (entry_at old.entries i) (entry_at now.entries i) (entry_at next.entries i)
        (s.before i (omega (arith, less, other)) inside) (same.each i (omega (arith, inside, k)) other))
  ];
  others = λ i from inside. (
      let k = s.count in
      same_then (entry_at old.entries i) (entry_at now.entries i) (entry_at next.entries i) (s.others i (omega (arith, from)) inside) (same.each i (omega (arith, inside, k)) (λ e. omega (arith, from, e))));
} where
  stayed : IsSameEntry (entry_at old.entries index) (entry_at now.entries index)
  stayed = s.others index (omega arith) lt

  this : IsGivenUpWhere (is_ahead old.moment (entry_at old.entries index) && not (is_in chosen index)) (entry_at old.entries index) (entry_at next.entries index)
  this =
      then_given_up (is_ahead old.moment (entry_at old.entries index) && not (is_in chosen index)) (entry_at old.entries index) (entry_at now.entries index) (entry_at next.entries index) stayed
      (subst (λ (w : Bool). IsGivenUpWhere w (entry_at now.entries index) (entry_at next.entries index))
      (ap₂ (λ (a : Bool) (m : Bool). a && not m) (ahead_same old.moment now.moment (entry_at old.entries index) (entry_at now.entries index) s.moment stayed) is) here)

-- ---- all of them

one_mark : (u v r c : Bool) → (u ≡ true → r ≡ false) → (c ≡ true → (u && v) ≡ true) → ((u && v) && not c) ≡ false → not r ≡ (not (if u then v else r) || c)
one_mark true true r true w h k = ap not (w refl)
one_mark true true r false w h k = absurd (true≢false k)
one_mark true false r true w h k = absurd (false≢true (h refl))
one_mark true false r false w h k = ap not (w refl)
one_mark false v r true w h k = absurd (false≢true (h refl))
one_mark false v true false w h k = refl
one_mark false v false false w h k = refl

one_gone : (u v r c : Bool) → ((u && v) && not c) ≡ true → false ≡ (not (if u then v else r) || c)
one_gone true true r false k = refl
one_gone true true r true k = absurd (false≢true k)
one_gone true false r c k = absurd (false≢true k)
one_gone false v r c k = absurd (false≢true k)

unoffered_not : (u r : Bool) → (u ≡ true → r ≡ false) → r ≡ true → u ≡ false
unoffered_not true r w h = absurd (true≢false (sym h ∙ w refl))
unoffered_not false r w h = refl

module _ (t : ℕ) (e e1 : Entry) where
  mark_after : (c w : Bool) → (is_ahead t e && not c) ≡ w → (c ≡ true → is_ahead t e ≡ true) → IsGivenUpWhere w e e1 → not (is_refused e1.standing) ≡ (not (is_to_come t e) || c)
  mark_after c true is among given =
      ap not given.1 ∙ one_gone (is_unoffered e.standing) (nat_lt t e.booking.start) (is_refused e.standing) c is
  mark_after c false is among same =
      ap (λ (s : Standing). not (is_refused s)) same.standing ∙ one_mark (is_unoffered e.standing) (nat_lt t e.booking.start) (is_refused e.standing) c (waiting_accepted e.standing) among is

  comes_refused : is_refused e1.standing ≡ true → is_to_come t e1 ≡ true
  comes_refused h =
      let waits = unoffered_not (is_unoffered e1.standing) (is_refused e1.standing) (waiting_accepted e1.standing) h in
      ap (λ b. if b then nat_lt t e1.booking.start else is_refused e1.standing) waits ∙ h

  own_same_entry : IsSameEntry e e1 → own_at t e1 ≡ own_at t e
  own_same_entry same =
      let comes : is_to_come t e1 ≡ is_to_come t e = ap₂ (λ (s : Standing) (b : Row). if is_unoffered s then nat_lt t b.start else is_refused s) same.standing same.booking in
      decide (is_to_come t e)
      (λ yes. ap (λ b. if b then None else Some e1.channel) (comes ∙ yes) ∙ sym (ap (λ b. if b then None else Some e.channel) yes))
      (λ begun.
      let accepted = begun_accepted (nat_lt t e.booking.start) e.standing begun in
      ap (λ b. if b then None else Some e1.channel) (comes ∙ begun) ∙ ap Some (same.channel accepted) ∙ sym (ap (λ b. if b then None else Some e.channel) begun))

  own_after_one : (w c : Bool) → (is_ahead t e && not c) ≡ w → IsGivenUpWhere w e e1 → own_at t e1 ≡ own_at t e
  own_after_one true c is given =
      let ahead = (and_parts (is_ahead t e) (not c) is).0 in
      let comes = ahead_comes (is_unoffered e.standing) (nat_lt t e.booking.start) (is_refused e.standing) ahead in
      ap (λ b. if b then None else Some e1.channel) (comes_refused given.1) ∙ sym (ap (λ b. if b then None else Some e.channel) comes)
  own_after_one false c is same = own_same_entry same

  booking_after : (w : Bool) → IsGivenUpWhere w e e1 → e1.booking ≡ e.booking
  booking_after true given = given.0
  booking_after false same = same.booking

pub all_settled : (chosen : List Bool) (old now : Day) → length chosen ≡ length old.entries → AreAhead old.moment old.entries chosen → AreSettledUpTo chosen (length chosen) old now → IsNowKept (with_begun old.moment old.entries chosen) old now
all_settled chosen old now count among s = record {
  moment = s.moment;
  maintenance = s.maintenance;
  rows = same_rows now.entries (rows_of old) (s.count ∙ sym (rows_size old)) (λ i lt.
      let inside : i < length old.entries = let n = rows_size old in omega (arith, lt, n) in
      booking_after old.moment (at i) (there i) (gone i) (s.before i (omega (arith, inside, count)) inside) ∙ sym (row_there old.entries i inside));
  marks = same_marks now.entries (with_begun old.moment old.entries chosen) (s.count ∙ sym (with_size old.moment old.entries chosen count)) (λ i lt.
      let inside : i < length old.entries = let n = with_size old.moment old.entries chosen count in omega (arith, lt, n) in
      mark_after old.moment (at i) (there i) (is_in chosen i) (gone i) refl (λ h. sym (ahead_there old.moment old.entries i inside) ∙ among i h) (s.before i (omega (arith, inside, count)) inside)
      ∙ sym (with_there old.moment old.entries chosen i count inside));
  own = λ i. elim (cases_lt i (length old.entries)) [
    | inl inside ↦ (
        let k = s.count in
        own_there now.moment now.entries i (omega (arith, inside, k)) ∙ ap (λ (m : ℕ). own_at m (there i)) s.moment
        ∙ own_after_one old.moment (at i) (there i) (gone i) (is_in chosen i) refl (s.before i (omega (arith, inside, count)) inside) ∙ sym (own_there old.moment old.entries i inside))
    | inr past ↦ (
        let k = s.count in
        get_or_past (own_of now) i None (let n = length-map now.entries (own_at now.moment) in omega (arith, past, n, k))
        ∙ sym (get_or_past (own_of old) i None (let n = length-map old.entries (own_at old.moment) in omega (arith, past, n))))
  ];
} where
  at : ℕ → Entry
  at i = entry_at old.entries i

  there : ℕ → Entry
  there i = entry_at now.entries i

  gone : ℕ → Bool
  gone i = is_ahead old.moment (at i) && not (is_in chosen i)

-- ---- what is promised stays where bookings start later

-- the same marks after a booking starts later
pub marks_later : (place : ℕ) (d d1 : Day) → place < length d.entries → AreSameBut place d d1 → IsLaterEntry (entry_at d.entries place) (entry_at d1.entries place) → marks_of d1 ≡ marks_of d
marks_later place d d1 lt same later =
    same_marks d1.entries (marks_of d) (same.count ∙ sym (marks_size d)) (λ i less.
    let inside : i < length d.entries = let n = marks_size d in omega (arith, less, n) in
    ap (λ (s : Standing). not (is_refused s)) (standing_at i inside) ∙ sym (mark_there d.entries i inside))
  where
    standing_at : (i : ℕ) → i < length d.entries → (entry_at d1.entries i).standing ≡ (entry_at d.entries i).standing
    standing_at i inside = elim (cases_eq i place) [
      | inl here ↦ subst (λ (k : ℕ). (entry_at d1.entries k).standing ≡ (entry_at d.entries k).standing) (sym here) later.standing
      | inr other ↦ (same.each i inside other).standing
    ]

-- ---- all have left the lost channel

pub kept_left : (channels : List Bool) (c : ℕ) (d d1 : Day) → IsChannelLeft channels c d d1 → IsNowKept (marks_of d) d d1
kept_left channels c d d1 is =
    let g = is.recoloured in record {
      moment = ap (λ (x : Day). x.moment) g.day;
      maintenance = ap (λ (x : Day). x.maintenance) g.day;
      rows = rows_then (left_in_service channels d) (rows_of d) (marks_of d) d d1 (marks_count d) g;
      marks = marks_then (left_in_service channels d) (rows_of d) (marks_of d) d d1 (marks_count d) g;
      own = λ i. ap (λ (x : Day). slice_index_or (own_of x) i None) g.day ∙ own_after d (left_in_service channels d) (rows_of d) (marks_of d) g.assigned g.keeps g.first_fit g.change.agrees (λ k lt. row_there d.entries k lt) i;
    }

pub kept_itself : (d d1 : Day) → d1 ≡ d → IsNowKept (marks_of d) d d1
kept_itself d d1 same = subst (IsNowKept (marks_of d) d) (sym same) (record { moment = refl; maintenance = refl; rows = refl; marks = refl; own = λ i. refl })

pub kept_then : (kept : List Bool) (a b c : Day) → IsNowKept kept a b → IsNowKept (marks_of b) b c → IsNowKept kept a c
kept_then kept a b c first second = record {
  moment = second.moment ∙ first.moment;
  maintenance = second.maintenance ∙ first.maintenance;
  rows = second.rows ∙ first.rows;
  marks = second.marks ∙ first.marks;
  own = λ i. second.own i ∙ first.own i;
}

-- ---- what is kept still pays most

module _ (left before kept : List Bool) (d d1 : Day) (now : IsNowKept kept d d1) where
  size : length d1.entries ≡ length d.entries
  size = sym (rows_size d1) ∙ ap length now.rows ∙ rows_size d

  fits_back : (ms : List Bool) → FitsBeside left d1 (rows_of d1) ms → FitsBeside left d (rows_of d) ms
  fits_back ms fits =
      subst (λ (l : List Bool). FitsChannels (rows_of d) l left) (same_beside (own_of d) (own_of d1) left ms now.own)
      (subst (λ (rs : List Row). FitsChannels rs (marks_beside (own_of d1) left ms) left) now.rows fits)

  fits_on : (ms : List Bool) → FitsBeside left d (rows_of d) ms → FitsBeside left d1 (rows_of d1) ms
  fits_on ms fits =
      subst (λ (rs : List Row). FitsChannels rs (marks_beside (own_of d1) left ms) left) (sym now.rows)
      (subst (λ (l : List Bool). FitsChannels (rows_of d) l left) (sym (same_beside (own_of d) (own_of d1) left ms now.own)) fits)

  kept_now : IsBestKept left before d kept → IsBestKept left before d1 kept
  kept_now best = record {
    one_each = best.one_each ∙ sym size;
    promised = best.promised;
    begun = λ i c own. best.begun i c (sym (now.own i) ∙ own);
    fits = λ i own h. fits_on kept (best.fits i (sym (now.own i) ∙ own) h);
    best = λ other may. subst (λ (rs : List Row). pay_of rs (is_in other) ≤ pay_of rs (is_in kept)) (sym now.rows) (best.best other (record {
      one_each = may.one_each ∙ size;
      promised = may.promised;
      begun = λ i c own. may.begun i c (now.own i ∙ own);
      fits = fits_back other may.fits;
    }));
  }

  pub best_then : IsBestKept left before d kept → IsBestKept left before d1 (marks_of d1)
  best_then best = subst (IsBestKept left before d1) (sym now.marks) (kept_now best)
