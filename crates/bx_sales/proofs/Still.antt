-- Where bookings keep their channels, but for one that starts with the next second, or one that is given up, the plan agrees with the day.
use Rattle.std.proofs.Common.{◌≡◌, ◌≢◌, ℕ, ◌-◌, ◌+◌, ◌<◌, ◌≤◌, zero, suc, Bool, true, false, List, [], ◌∷◌, length, map, Option, Some, None, is_some, unwrap_or, arith, refl, sym, subst, ap, ◌∙◌, inl, inr, nat_le, nat_lt, set, slice_set, slice_index_or, length-set, get_or-set_other, if◌then◌else◌}
use Rattle.std.proofs.lemmas.Bool.{true≢false, false≢true, cases_eq, and_from, le-leb, lt-ltb}
use Rattle.std.proofs.lemmas.List.{length-map}
use Rattle.bx_base.specs.Bookings.{Row, row_at, is_running, Carries}
use Rattle.bx_base.specs.Channels.{has_channel}
use Rattle.bx_base.specs.Plans.{is_accepted, channel_at}
use Rattle.bx_day.specs.Changed.{was_never_live, AgreesAt, AgreesWith}
use Rattle.bx_day.specs.Day.{Day, entry_at, is_unoffered}
use Rattle.bx_day.specs.Invariant.{is_refused, Apart}
use Rattle.bx_day.specs.Restoring.{IsState}
use Rattle.bx_day.specs.declared.entry.Entry.{Entry}
use Rattle.bx_day.specs.declared.entry.Standing.{Standing}
use Rattle.bx_day.specs.declared.entry.Standing.TheVariants.{Refused, Unoffered}
use Rattle.bx_day.proofs.LiveTurns.{pairs_at}
use Rattle.bx_day.proofs.Once.{decide}
use Rattle.bx_day.proofs.SlotLemmas.{some_is}
use Rattle.bx_day.proofs.Tick.{runs_at}
use Rattle.bx_sales.specs.Changing.{IsPromised, rows_changed_in}
use Rattle.bx_sales.specs.Leaving.{promised_channel, promised_channels, next_start, GoesOnStill, IsStranded, IsAnyStranded, MayBeDelayed, MayBeDropped}
use Rattle.bx_sales.specs.RowsApart.{AreRowsApart}
use Rattle.bx_sales.specs.Selling.{rows_of}
use Rattle.bx_sales.proofs.Keeping.{itself}
use Rattle.bx_sales.proofs.Places.{rows_size, row_there, other_row, this_row, promised_there, given_before}

refused_idle : (s : Standing) → is_refused s ≡ true → was_never_live s ≡ true
refused_idle Refused h = refl
refused_idle s h = absurd (false≢true h)

waiting_idle : (s : Standing) → is_unoffered s ≡ true → was_never_live s ≡ true
waiting_idle Unoffered h = refl
waiting_idle s h = absurd (false≢true h)

some_of : (o : Option ℕ) → is_some o ≡ true → o ≡ Some (unwrap_or o 0)
some_of (Some c) given = refl
some_of None given = absurd (false≢true given)

-- channels that a set has carry rows of which those that overlap have different ones
pub carried_by : (rows : List Row) (assigned : List (Option ℕ)) (service : List Bool) → ((i c : ℕ) → slice_index_or assigned i None ≡ Some c → has_channel service c ≡ true) → AreRowsApart rows assigned → Carries rows service (is_accepted assigned) (channel_at assigned)
carried_by rows assigned service own apart = record {
  in_service = λ i lt given. own i (channel_at assigned i) (some_of (slice_index_or assigned i None) given);
  apart = apart;
}

-- what has a channel is promised, and has it
given_is : (e : Entry) → is_some (promised_channel e) ≡ true → (promised_channel e ≡ Some e.channel) × (is_refused e.standing ≡ false)
given_is e given = decide (is_refused e.standing)
    (λ yes. absurd (false≢true (sym (ap (λ b. is_some (if b then None else Some e.channel)) yes) ∙ given)))
    (λ no. (ap (λ b. if b then None else Some e.channel) no, no))

none_set : (xs : List (Option ℕ)) (place : ℕ) → slice_index_or (set xs place None) place None ≡ None
none_set [] place = refl
none_set (x ∷ xs) zero = refl
none_set (x ∷ xs) (suc place) = none_set xs place

-- by what is read of the day
pub may_be_delayed : (d : Day) (row : ℕ) (b : Row) (t : ℕ) (e : Entry) → IsPromised d.entries row → IsStranded d (row - 1) → t ≡ d.moment → e ≡ entry_at d.entries (row - 1) → e.booking.start ≤ t → b ≡ next_start t e.booking → MayBeDelayed d row b
may_be_delayed d row b t e promised stranded now there come same = record {
  promised = promised;
  stranded = stranded;
  come = (let s = ap (λ (x : Entry). x.booking.start) there in omega (arith, s, now, come));
  same = same ∙ ap (λ k. next_start k e.booking) now ∙ ap (λ (x : Entry). next_start d.moment x.booking) there;
}

pub may_be_dropped : (d : Day) (row : ℕ) (t : ℕ) (e : Entry) → IsPromised d.entries row → IsAnyStranded d → t ≡ d.moment → e ≡ entry_at d.entries (row - 1) → t < e.booking.start → MayBeDropped d row
may_be_dropped d row t e promised any now there ahead = record {
  promised = promised;
  ahead = (let s = ap (λ (x : Entry). x.booking.start) there in omega (arith, s, now, ahead));
  any = any;
}

-- with the rows and the channels as they were found
pub agrees_found : (d : Day) (rows found : List Row) (assigned given : List (Option ℕ)) → found ≡ rows → given ≡ assigned → AgreesWith d rows assigned → AgreesWith d found given
agrees_found d rows found assigned given r a x = subst (λ g. AgreesWith d found g) (sym a) (subst (λ rs. AgreesWith d rs assigned) (sym r) x)

pub apart_found : (rows found : List Row) (assigned given : List (Option ℕ)) → found ≡ rows → given ≡ assigned → AreRowsApart rows assigned → AreRowsApart found given
apart_found rows found assigned given r a x = subst (AreRowsApart found) (sym a) (subst (λ rs. AreRowsApart rs assigned) (sym r) x)

pub still_found : (old new : Day) (rows found : List Row) (assigned given : List (Option ℕ)) → found ≡ rows → given ≡ assigned → GoesOnStill found given old new → GoesOnStill rows assigned old new
still_found old new rows found assigned given r a g = subst (λ x. GoesOnStill rows x old new) a (subst (λ rs. GoesOnStill rs given old new) r g)

module _ (d : Day) (x : IsState d) where
  abbrev at : ℕ → Entry
  at i = entry_at d.entries i

  same_at : (i : ℕ) → i < length d.entries → AgreesAt d.moment (at i) (at i).booking (promised_channel (at i))
  same_at i lt = decide (is_refused (at i).standing)
      (λ yes. inl (refused_idle (at i).standing yes, (λ some. absurd (true≢false (sym yes ∙ (given_is (at i) some).1)))))
      (λ no. (let same = itself d x i lt in inr (record {
        accepted = no;
        start = same.start;
        end = same.end;
        over = same.over;
        number = same.number;
        inward = same.inward;
        channel = ap (λ b. if b then None else Some (at i).channel) no;
      })))

  module _ (rows : List Row) (assigned : List (Option ℕ)) (size : length rows ≡ length d.entries)
      (given : (i : ℕ) → i < length d.entries → is_some (slice_index_or assigned i None) ≡ true → slice_index_or assigned i None ≡ promised_channel (at i))
      (runs : (i m : ℕ) → i < length d.entries → is_running (row_at rows i) m ≡ true → is_running (at i).booking m ≡ true) where
    pub apart_still : AreRowsApart rows assigned
    apart_still i j less lt ai aj (m, ri, rj) same =
        let inside : j < length d.entries = omega (arith, lt, size) in
        let first : i < length d.entries = omega (arith, less, inside) in
        let gi = given i first ai in
        let gj = given j inside aj in
        let pi = given_is (at i) (ap is_some (sym gi) ∙ ai) in
        let pj = given_is (at j) (ap is_some (sym gj) ∙ aj) in
        let ci = ap (λ o. unwrap_or o 0) (gi ∙ pi.0) in
        let cj = ap (λ o. unwrap_or o 0) (gj ∙ pj.0) in
        (pairs_at Apart d.entries i j less inside x.exchange.day.pairs).planned pi.1 pj.1 (sym ci ∙ same ∙ cj) m (runs i m first ri) (runs j m inside rj)

  promised_at : (i : ℕ) → i < length d.entries → slice_index_or (promised_channels d) i None ≡ promised_channel (at i)
  promised_at i lt = promised_there d.entries i lt

  pub promised_size : length (promised_channels d) ≡ length (rows_of d)
  promised_size = length-map d.entries promised_channel ∙ sym (rows_size d)

  -- ---- one that starts with the next second

  module _ (row : ℕ) (b : Row) (may : MayBeDelayed d row b) where
    abbrev place : ℕ
    place = row - 1

    abbrev delayed : List Row
    delayed = rows_changed_in (rows_of d) row b

    inside : place < length (rows_of d)
    inside = let n = rows_size d in let i = may.stranded.inside in omega (arith, i, n)

    pub delayed_size : length delayed ≡ length (rows_of d)
    delayed_size = length-set (rows_of d) place b

    row_other : (i : ℕ) → i < length d.entries → i ≢ place → row_at delayed i ≡ (at i).booking
    row_other i lt differs = other_row (rows_of d) place b i differs ∙ row_there d.entries i lt

    row_this : row_at delayed place ≡ b
    row_this = this_row (rows_of d) place b inside

    start_next : b.start ≡ d.moment + 1
    start_next = ap (λ (r : Row). r.start) may.same

    end_same : b.end ≡ (at place).booking.end
    end_same = ap (λ (r : Row). r.end) may.same

    agrees_delayed : (i : ℕ) → i < length d.entries → AgreesAt d.moment (at i) (row_at delayed i) (slice_index_or (promised_channels d) i None)
    agrees_delayed i lt = elim (cases_eq i place) [
      | inl here ↦ inl (
        subst (λ k. was_never_live (at k).standing ≡ true) (sym here) (waiting_idle (at place).standing may.stranded.waits),
        (λ some. (let s = ap (λ (r : Row). r.start) (ap (row_at delayed) here ∙ row_this) in let n = start_next in omega (arith, s, n))),
      )
      | inr other ↦ subst (λ o. AgreesAt d.moment (at i) (row_at delayed i) o) (sym (promised_at i lt))
          (subst (λ r. AgreesAt d.moment (at i) r (promised_channel (at i))) (sym (row_other i lt other)) (same_at i lt))
    ]

    pub delayed_agrees : AgreesWith d delayed (promised_channels d)
    delayed_agrees =
        let n = rows_size d in
        let k = delayed_size in
        record {
          longer = omega (arith, n, k);
          each = agrees_delayed;
          later = λ i low lt. absurd (omega (arith, low, lt, n, k));
          by_row = λ more. absurd (omega (arith, more, n, k));
        }

    runs_this : (m : ℕ) → is_running (row_at delayed place) m ≡ true → is_running (at place).booking m ≡ true
    runs_this m runs =
        let r = runs_at (row_at delayed place) m runs in
        let from = r.0 in
        let until = r.1 in
        let s = ap (λ (q : Row). q.start) row_this in
        let e = ap (λ (q : Row). q.end) row_this in
        let next = start_next in
        let same = end_same in
        let come = may.come in
        and_from (nat_le (at place).booking.start m) (nat_lt m (at place).booking.end) (le-leb (at place).booking.start m (omega (arith, from, s, next, come))) (lt-ltb m (at place).booking.end (omega (arith, until, e, same)))

    runs_delayed : (i m : ℕ) → i < length d.entries → is_running (row_at delayed i) m ≡ true → is_running (at i).booking m ≡ true
    runs_delayed i m lt runs = elim (cases_eq i place) [
      | inl here ↦ subst (λ k. is_running (at k).booking m ≡ true) (sym here) (runs_this m (subst (λ k. is_running (row_at delayed k) m ≡ true) here runs))
      | inr other ↦ ap (λ r. is_running r m) (sym (row_other i lt other)) ∙ runs
    ]

    pub delayed_apart : AreRowsApart delayed (promised_channels d)
    delayed_apart = apart_still delayed (promised_channels d) (delayed_size ∙ rows_size d) (λ i lt given. promised_at i lt) runs_delayed

  -- ---- one that is given up

  module _ (row : ℕ) (may : MayBeDropped d row) where
    abbrev spot : ℕ
    spot = row - 1

    abbrev kept : List (Option ℕ)
    kept = slice_set (promised_channels d) spot None

    spot_inside : spot < length d.entries
    spot_inside = let p = may.promised in (let m = p.named in let n = p.inside in omega (arith, m, n))

    pub kept_size : length kept ≡ length (rows_of d)
    kept_size = length-set (promised_channels d) spot None ∙ promised_size

    kept_other : (i : ℕ) → i < length d.entries → i ≢ spot → slice_index_or kept i None ≡ promised_channel (at i)
    kept_other i lt differs = get_or-set_other (promised_channels d) spot i None None differs ∙ promised_at i lt

    agrees_dropped : (i : ℕ) → i < length d.entries → AgreesAt d.moment (at i) (row_at (rows_of d) i) (slice_index_or kept i None)
    agrees_dropped i lt = elim (cases_eq i spot) [
      | inl here ↦ inl (
        subst (λ k. was_never_live (at k).standing ≡ true) (sym here) (waiting_idle (at spot).standing (x.ahead spot spot_inside may.promised.accepted may.ahead)),
        (λ some. absurd (false≢true (sym (ap is_some (ap (λ k. slice_index_or kept k None) here ∙ none_set (promised_channels d) spot)) ∙ some))),
      )
      | inr other ↦ subst (λ o. AgreesAt d.moment (at i) (row_at (rows_of d) i) o) (sym (kept_other i lt other))
          (subst (λ r. AgreesAt d.moment (at i) r (promised_channel (at i))) (sym (row_there d.entries i lt)) (same_at i lt))
    ]

    pub dropped_agrees : AgreesWith d (rows_of d) kept
    dropped_agrees =
        let n = rows_size d in
        record {
          longer = omega (arith, n);
          each = agrees_dropped;
          later = λ i low lt. absurd (omega (arith, low, lt, n));
          by_row = λ more. absurd (omega (arith, more, n));
        }

    pub dropped_apart : AreRowsApart (rows_of d) kept
    dropped_apart = apart_still (rows_of d) kept (rows_size d)
        (λ i lt given. given_before (promised_channels d) spot i given ∙ promised_at i lt)
        (λ i m lt runs. ap (λ r. is_running r m) (sym (row_there d.entries i lt)) ∙ runs)
