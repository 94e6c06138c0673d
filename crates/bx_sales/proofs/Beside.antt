-- What has begun keeps its channel where all others are coloured beside it, so the day goes on with that plan.
use Rattle.std.proofs.Common.{◌≡◌, ℕ, ◌<◌, ◌≤◌, Bool, true, false, List, length, Option, Some, None, is_some, arith, refl, sym, subst, ap, ◌∙◌, inl, inr, nat_le, nat_lt, slice_set, slice_index_or, replicate, get_or, get_or-set_other, if◌then◌else◌}
use Rattle.std.proofs.lemmas.Bool.{true≢false, false≢true, cases_eq, cases_lt, and_from, le-leb, lt-ltb}
use Rattle.std.proofs.lemmas.List.{get_or_past, get_or-replicate, length-map}
use Rattle.bx_base.specs.Bookings.{Row, row_at, is_running}
use Rattle.bx_base.specs.Channels.{has_channel}
use Rattle.bx_colour.specs.Beside.{AreBegunApart}
use Rattle.bx_colour.specs.ChangedRows.{IsFirstFitAmong, choice_of, choices_of, AreChoicesIn}
use Rattle.bx_colour.specs.Colouring.{is_in}
use Rattle.bx_day.specs.Changed.{was_never_live, HasBegunAs, AgreesAt, AgreesWith, AreReferredByRow, EndsAlike}
use Rattle.bx_day.specs.Day.{Day, entry_at, is_unoffered}
use Rattle.bx_day.specs.Invariant.{is_refused, Apart}
use Rattle.bx_day.specs.Restoring.{IsState}
use Rattle.bx_day.specs.declared.entry.Entry.{Entry}
use Rattle.bx_day.specs.declared.entry.Standing.{Standing}
use Rattle.bx_day.specs.declared.entry.Standing.TheVariants.{Refused, Unoffered}
use Rattle.bx_day.proofs.LiveTurns.{pairs_at}
use Rattle.bx_day.proofs.Once.{decide, none≢some}
use Rattle.bx_day.proofs.SlotLemmas.{some_is}
use Rattle.bx_day.proofs.Tick.{runs_at}
use Rattle.bx_sales.specs.GoingOn.{is_to_come, own_at, own_of, KeepsBegun}
use Rattle.bx_sales.proofs.Places.{own_there}

-- ---- a set with the channels that are kept

-- the channels of the first of these are in the set
pub record AreSomeIn (service : List Bool) (own : List (Option ℕ)) (left : List Bool) (k : ℕ) : Type 0 where
  pub of_left : (c : ℕ) → has_channel left c ≡ true → has_channel service c ≡ true
  pub of_own : (i c : ℕ) → i < k → slice_index_or own i None ≡ Some c → has_channel service c ≡ true

-- a channel alone
pub alone : (c n : ℕ) → has_channel (slice_set (replicate 32 false) c true) n ≡ true → n ≡ c
alone c n h = elim (cases_eq n c) [
  | inl same ↦ same
  | inr other ↦ absurd (true≢false (sym h ∙ get_or-set_other (replicate 32 false) c n true false other ∙ nothing n))
]
  where
    nothing : (n : ℕ) → ◌≡◌ {A = Bool} (get_or (replicate 32 false) n false) false
    nothing n = elim (cases_lt n 32) [ inl lt ↦ get_or-replicate 32 n false false lt | inr past ↦ get_or_past (replicate 32 false) n false past ]

-- what is there is in the list
pub some_inside : (own : List (Option ℕ)) (i c : ℕ) → slice_index_or own i None ≡ Some c → i < length own
some_inside own i c q = elim (cases_lt i (length own)) [ inl lt ↦ lt | inr past ↦ absurd (none≢some c (sym (get_or_past own i None past) ∙ q)) ]

pub all_in : (service : List Bool) (own : List (Option ℕ)) (left : List Bool) → AreSomeIn service own left (length own) → AreChoicesIn service own left
all_in service own left h i c = at (slice_index_or own i None) refl
  where
    at : (o : Option ℕ) → slice_index_or own i None ≡ o → has_channel (choice_of o left) c ≡ true → has_channel service c ≡ true
    at None q has = h.of_left c has
    at (Some k) q has = subst (λ n. has_channel service n ≡ true) (sym (alone k c has)) (h.of_own i k (some_inside own i k q) q)

-- ---- one booking

pub come_idle : (b : Bool) (s : Standing) → (if is_unoffered s then b else is_refused s) ≡ true → was_never_live s ≡ true
come_idle b Refused h = refl
come_idle b Unoffered h = refl
come_idle b s h = absurd (false≢true h)

pub come_later : (b : Bool) (s : Standing) → (if is_unoffered s then b else is_refused s) ≡ true → is_refused s ≡ false → b ≡ true
come_later b Unoffered h accepted = h
come_later b Refused h accepted = absurd (true≢false accepted)
come_later b s h accepted = absurd (false≢true h)

pub begun_accepted : (b : Bool) (s : Standing) → (if is_unoffered s then b else is_refused s) ≡ false → is_refused s ≡ false
begun_accepted b Refused h = absurd (true≢false h)
begun_accepted b s h = refl

pub waiting_accepted : (s : Standing) → is_unoffered s ≡ true → is_refused s ≡ false
waiting_accepted Unoffered h = refl
waiting_accepted s h = absurd (false≢true h)

-- one that is accepted and whose start has come has begun
pub begun_by : (b : Bool) (s : Standing) → is_refused s ≡ false → b ≡ false → (if is_unoffered s then b else is_refused s) ≡ false
begun_by b Refused accepted late = absurd (true≢false accepted)
begun_by b Unoffered accepted late = late
begun_by b s accepted late = refl

-- by whether it is to come
own_by : (c n : ℕ) (b : Bool) → (if b then None else Some c) ≡ Some n → (b ≡ false) × (c ≡ n)
own_by c n true is = absurd (none≢some n is)
own_by c n false is = (refl, some_is c n is)

come_by : (c : ℕ) (b : Bool) → (if b then None else Some c) ≡ None → b ≡ true
come_by c true is = refl
come_by c false is = absurd (none≢some c (sym is))

-- ---- the day

-- what is accepted and starts later waits
abbrev pub WaitsAhead : Day → Type 0
WaitsAhead d = (i : ℕ) → i < length d.entries → is_refused (entry_at d.entries i).standing ≡ false → d.moment < (entry_at d.entries i).booking.start → is_unoffered (entry_at d.entries i).standing ≡ true

module _ (d : Day) where
  abbrev at : ℕ → Entry
  at i = entry_at d.entries i

  abbrev comes : ℕ → Bool
  comes i = is_to_come d.moment (at i)

  -- what has begun had its start by now
  pub started : WaitsAhead d → (i : ℕ) → i < length d.entries → comes i ≡ false → (at i).booking.start ≤ d.moment
  started waits_ahead i lt h = elim (cases_lt d.moment (at i).booking.start) [
    | inl early ↦ (
        let accepted = begun_accepted (nat_lt d.moment (at i).booking.start) (at i).standing h in
        let waits = waits_ahead i lt accepted early in
        let come : comes i ≡ true = ap (λ b. if b then nat_lt d.moment (at i).booking.start else is_refused (at i).standing) waits ∙ lt-ltb d.moment (at i).booking.start early in
        absurd (true≢false (sym come ∙ h)))
    | inr by ↦ by
  ]

  own_inside : (i c : ℕ) → slice_index_or (own_of d) i None ≡ Some c → i < length d.entries
  own_inside i c q = elim (cases_lt i (length d.entries)) [
    | inl lt ↦ lt
    | inr past ↦ absurd (none≢some c (sym (get_or_past (own_of d) i None (let n = length-map d.entries (own_at d.moment) in omega (arith, past, n))) ∙ q))
  ]

  -- one with a channel of its own has begun, on that
  pub own_begun : (i c : ℕ) → slice_index_or (own_of d) i None ≡ Some c → (i < length d.entries) × (comes i ≡ false) × ((at i).channel ≡ c)
  own_begun i c q =
      let lt = own_inside i c q in
      let by = own_by (at i).channel c (comes i) (sym (own_there d.moment d.entries i lt) ∙ q) in
      (lt, by.0, by.1)

  pub own_none : (i : ℕ) → i < length d.entries → slice_index_or (own_of d) i None ≡ None → comes i ≡ true
  own_none i lt q = come_by (at i).channel (comes i) (sym (own_there d.moment d.entries i lt) ∙ q)

  pub own_some : (i : ℕ) → i < length d.entries → comes i ≡ false → slice_index_or (own_of d) i None ≡ Some (at i).channel
  own_some i lt h = own_there d.moment d.entries i lt ∙ ap (λ b. if b then None else Some (at i).channel) h

  module _ (x : IsState d) (rows : List Row) (marks : List Bool) (keeps : KeepsBegun d rows marks) where
    start_there : (i : ℕ) → i < length d.entries → comes i ≡ false → (row_at rows i).start ≤ d.moment
    start_there i lt h = let by = started x.ahead i lt h in let same = (keeps.begun i lt h).start in omega (arith, by, same)

    -- by the end of the row, a moment up to now is before its end as it is
    before_end : (m before after : ℕ) → m ≤ d.moment → m < after → EndsAlike d.moment before after → m < before
    before_end m before after by less (inl q) = omega (arith, less, q)
    before_end m before after by less (inr p) = let l = p.0 in omega (arith, by, l)

    runs_then : (i m s : ℕ) → i < length d.entries → comes i ≡ false → is_running (row_at rows i) s ≡ true → (at i).booking.start ≤ m → m ≤ d.moment → m ≤ s → is_running (at i).booking m ≡ true
    runs_then i m s lt h runs from by early =
        let r = runs_at (row_at rows i) s runs in
        let l = r.1 in
        let less = before_end m (at i).booking.end (row_at rows i).end by (omega (arith, early, l)) (keeps.begun i lt h).end in
        and_from (nat_le (at i).booking.start m) (nat_lt m (at i).booking.end) (le-leb (at i).booking.start m from) (lt-ltb m (at i).booking.end less)

    apart_there : (i j c : ℕ) → i < j → j < length d.entries → comes i ≡ false → comes j ≡ false → (at i).channel ≡ c → (at j).channel ≡ c → (s : ℕ) → is_running (row_at rows i) s ≡ true → is_running (row_at rows j) s ≡ true → ⊥
    apart_there i j c less inside hi hj ci cj s ri rj =
        let lt : i < length d.entries = omega (arith, less, inside) in
        let p = pairs_at Apart d.entries i j less inside x.exchange.day.pairs in
        let ai = begun_accepted (nat_lt d.moment (at i).booking.start) (at i).standing hi in
        let aj = begun_accepted (nat_lt d.moment (at j).booking.start) (at j).standing hj in
        let si = started x.ahead i lt hi in
        let sj = started x.ahead j inside hj in
        let fi = (runs_at (row_at rows i) s ri).0 in
        let fj = (runs_at (row_at rows j) s rj).0 in
        let qi = (keeps.begun i lt hi).start in
        let qj = (keeps.begun j inside hj).start in
        elim (cases_lt (at i).booking.start (at j).booking.start) [
          | inl first ↦ (
              let m = (at j).booking.start in
              p.planned ai aj (ci ∙ sym cj) m (runs_then i m s lt hi ri (omega (arith, first)) sj (omega (arith, fj, qj))) (runs_then j m s inside hj rj (omega arith) sj (omega (arith, fj, qj))))
          | inr second ↦ (
              let m = (at i).booking.start in
              p.planned ai aj (ci ∙ sym cj) m (runs_then i m s lt hi ri (omega arith) si (omega (arith, fi, qi))) (runs_then j m s inside hj rj second si (omega (arith, fi, qi))))
        ]

    pub begun_apart : AreBegunApart d.moment rows (own_of d) marks
    begun_apart = record {
      begun = λ i c lt marked own. (let b = own_begun i c own in start_there i b.0 b.1);
      ahead = λ i lt marked none. elim (cases_lt i (length d.entries)) [
        | inl inside ↦ keeps.ahead i inside (own_none i inside none) marked
        | inr past ↦ keeps.fresh i past lt marked
      ];
      apart = λ i j c less lt mi mj oi oj overlap. (
          let bi = own_begun i c oi in
          let bj = own_begun j c oj in
          apart_there i j c less bj.0 bi.1 bj.1 bi.2 bj.2 overlap.0 overlap.1 overlap.2);
    }

  -- ---- the plan agrees with the day so far

  module _ (rows : List Row) (marks : List Bool) (keeps : KeepsBegun d rows marks) (channels : List Bool) (assigned : List (Option ℕ)) (fit : IsFirstFitAmong rows (choices_of (own_of d) channels) marks assigned) where
    pub marked_given : (i : ℕ) → is_some (slice_index_or assigned i None) ≡ true → is_in marks i ≡ true
    marked_given i some = decide (is_in marks i) (λ yes. yes) (λ no. absurd (false≢true (sym (ap is_some (fit.refused i no)) ∙ some)))

    pub has_begun : (i : ℕ) → i < length d.entries → comes i ≡ false → HasBegunAs d.moment (at i) (row_at rows i) (slice_index_or assigned i None)
    has_begun i lt h =
        let same = keeps.begun i lt h in
        let g = fit.given i (let n = keeps.longer in omega (arith, lt, n)) (keeps.marked i lt h) in
        let only = alone (at i).channel g.0 (subst (λ o. has_channel (choice_of o channels) g.0 ≡ true) (own_some i lt h) g.2.in_service) in
        record {
          accepted = begun_accepted (nat_lt d.moment (at i).booking.start) (at i).standing h;
          start = same.start;
          end = same.end;
          over = same.over;
          number = same.number;
          inward = same.inward;
          channel = g.1 ∙ ap Some only;
        }

    agrees_at : (i : ℕ) → i < length d.entries → AgreesAt d.moment (at i) (row_at rows i) (slice_index_or assigned i None)
    agrees_at i lt = decide (comes i)
        (λ h. inl (come_idle (nat_lt d.moment (at i).booking.start) (at i).standing h, (λ some. keeps.ahead i lt h (marked_given i some))))
        (λ h. inr (has_begun i lt h))

    pub agrees_beside : (length d.entries < length rows → AreReferredByRow d.entries) → AgreesWith d rows assigned
    agrees_beside by_row = record {
      longer = keeps.longer;
      each = agrees_at;
      later = λ i low lt some. keeps.fresh i low lt (marked_given i some);
      by_row = by_row;
    }
