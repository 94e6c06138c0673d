-- The index while the day changes.
use Rattle.std.proofs.Common.{◌≡◌, ℕ, ◌+◌, ◌<◌, Bool, true, false, List, length, Option, Some, None, arith, refl, sym, subst, ap, ap₂, ◌∙◌, ◌++◌, map, take, drop, replicate}
use Rattle.std.specs.Prelude.{is_some}
use Rattle.std.proofs.lemmas.Bool.{true≢false, false≢true}
use Rattle.bx_base.specs.Bookings.{Row, row_at, AreBookings}
use Rattle.bx_q931.specs.Outgoing.{Outgoing}
use Rattle.bx_day.specs.Passing.{day_of, AreBlocked, AreTouched, IsSecond}
use Rattle.bx_day.proofs.Passing.{map_size, refilled, passed_stays}
use Rattle.bx_day.proofs.TouchSlots.{touched_of}
use Rattle.bx_day.proofs.Dues.{quiet_until}
use Rattle.bx_day.specs.Day.{is_back, Day, is_live, is_unoffered, entry_at, entries_from, entry_of}
use Rattle.bx_day.specs.Ticks.{unlinked_after, after_in, passed_in}
use Rattle.bx_day.specs.Invariant.{is_refused}
use Rattle.bx_day.specs.Linking.{AreLinks}
use Rattle.bx_day.specs.QuietSeconds.{later_by, IsQuietTick, IsQuietFor, IsFirstDue}
use Rattle.bx_day.specs.Reading.{IsExchange}
use Rattle.bx_day.specs.Slots.{slot_at, AreSlots, IsIndexed}
use Rattle.bx_day.specs.SlotSteps.{follower}
use Rattle.bx_day.specs.declared.entry.Entry.{Entry}
use Rattle.bx_day.specs.declared.entry.Link.{Link}
use Rattle.bx_day.proofs.LinkLemmas.{none_in}
use Rattle.bx_day.proofs.OpeningDay.{opening_at, opening_size}
use Rattle.bx_day.proofs.Skips.{later_none, skip_stays}
use Rattle.bx_day.proofs.SlotLemmas.{holds_parts, waits_parts, waits_from}
use Rattle.bx_day.proofs.Receive.{unoffered_accepted}

-- the slots do not depend on the moment, but for the bookings that are to come
pub slots_later : (n : ℕ) (d : Day) (live waiting following : List (Option ℕ)) → AreSlots d live waiting following → AreSlots (later_by n d) live waiting following
slots_later n d live waiting following h = record {
  live_size = h.live_size;
  waiting_size = h.waiting_size;
  after_size = h.after_size;
  lives = h.lives;
  waits = h.waits;
  followings = h.followings;
  ordered = h.ordered;
  ahead = λ i lt accepted early. h.ahead i lt accepted (omega (arith, early));
}

pub skip_indexed : (n : ℕ) (d : Day) (live waiting following : List (Option ℕ)) (due : ℕ) → IsQuietFor n d → IsIndexed d live waiting following due → IsIndexed (later_by n d) live waiting following due
skip_indexed n d live waiting following due quiet h = record {
  exchange = skip_stays n d h.exchange quiet;
  slots = slots_later n d live waiting following h.slots;
  known = λ one. (let is = h.known one in record { limit = is.limit; ordered = is.ordered; before = is.before; latest = is.latest });
}

-- before the next due moment a tick is quiet
pub idle_now : (d : Day) (live waiting following : List (Option ℕ)) (due : ℕ) → d.moment + 1 < due → IsIndexed d live waiting following due → IsQuietTick d
idle_now d live waiting following due lt h = subst IsQuietTick (later_none d) (quiet_until d due 0 h.exchange (h.known (omega (arith, lt))) (omega (arith, lt)))

pub idle_indexed : (d : Day) (live waiting following : List (Option ℕ)) (due : ℕ) → d.moment + 1 < due → IsIndexed d live waiting following due → IsIndexed (later_by 1 d) live waiting following due
idle_indexed d live waiting following due lt h = skip_indexed 1 d live waiting following due (λ k small. quiet_until d due k h.exchange (h.known (omega (arith, lt))) (omega (arith, lt, small))) h

-- where nothing is known of the next due moment, and where it is
pub indexed_now : (d : Day) (live waiting following : List (Option ℕ)) → IsExchange d → AreSlots d live waiting following → IsIndexed d live waiting following 0
indexed_now d live waiting following h s = record { exchange = h; slots = s; known = λ one. absurd (omega (arith, one)) }

pub indexed_due : (d : Day) (live waiting following : List (Option ℕ)) (due due' : ℕ) → IsFirstDue d (length d.entries) due' → IsIndexed d live waiting following due → IsIndexed d live waiting following due'
indexed_due d live waiting following due due' is h = record { exchange = h.exchange; slots = h.slots; known = λ one. is }

-- ---- the opening: nothing is live, and each accepted booking waits

pub record IsOpening (e : Entry) : Type 0 where
  pub idle : is_live e.standing ≡ false
  pub waits : is_refused e.standing ≡ false → is_unoffered e.standing ≡ true

entry_opening : (k : ℕ) (b : Row) (a : Option ℕ) → IsOpening (entry_of k b a)
entry_opening k b None = record { idle = refl; waits = λ h. absurd (true≢false h) }
entry_opening k b (Some c) = record { idle = refl; waits = λ h. refl }

entry_booking : (k : ℕ) (b : Row) (a : Option ℕ) → (entry_of k b a).booking ≡ b
entry_booking k b None = refl
entry_booking k b (Some c) = refl

opening_each : (rows : List Row) (assigned : List (Option ℕ)) (i : ℕ) → i < length (entries_from 1 rows assigned) → IsOpening (entry_at (entries_from 1 rows assigned) i)
opening_each rows assigned i lt = subst IsOpening (sym (opening_at 1 (i + 1) rows assigned i (let q : 1 + i ≡ i + 1 = omega arith in q) (omega (arith, lt, opening_size 1 rows assigned)))) (entry_opening (i + 1) (row_at rows i) _)

pub opening_ordered : (rows : List Row) (assigned : List (Option ℕ)) → AreBookings rows → (i : ℕ) → i < length (entries_from 1 rows assigned) → (entry_at (entries_from 1 rows assigned) i).booking.start < (entry_at (entries_from 1 rows assigned) i).booking.end
opening_ordered rows assigned b i lt =
    let inside : i < length rows = omega (arith, lt, opening_size 1 rows assigned) in
    let is : (entry_at (entries_from 1 rows assigned) i).booking ≡ row_at rows i = ap (λ (e : Entry). e.booking) (opening_at 1 (i + 1) rows assigned i (let q : 1 + i ≡ i + 1 = omega arith in q) inside) ∙ entry_booking (i + 1) (row_at rows i) _ in
    subst (λ (r : Row). r.start < r.end) (sym is) (b.each i inside).in_order

pub opening_slots : (rows : List Row) (assigned : List (Option ℕ)) (d : Day) (heads following : List (Option ℕ)) → AreBookings rows → d.entries ≡ entries_from 1 rows assigned → AreLinks d.entries heads following → AreSlots d (replicate 32 None) heads following
opening_slots rows assigned d heads following b is l =
    let opened : (i : ℕ) → i < length d.entries → IsOpening (entry_at d.entries i) = subst (λ (es : List Entry). (i : ℕ) → i < length es → IsOpening (entry_at es i)) (sym is) (opening_each rows assigned) in
    record {
      live_size = refl;
      waiting_size = l.head_size;
      after_size = l.after_size;
      lives = λ c. record {
        there = λ i there. absurd (false≢true (ap is_some (sym (none_in 32 c) ∙ there)));
        each = λ i lt h. absurd (true≢false (sym (holds_parts c (entry_at d.entries i) h).0 ∙ (opened i lt).idle));
      };
      waits = λ c. record {
        there = λ i there. (let p = (l.firsts c).there i there in (p.0, waits_from c (entry_at d.entries i) ((opened i p.0).waits p.1) p.2));
        each = λ i lt h. (let q = waits_parts c (entry_at d.entries i) h in (l.firsts c).each i lt (unoffered_accepted (entry_at d.entries i).standing q.0) q.1);
        first = λ i r lt h is less. (let q = waits_parts c (entry_at d.entries i) h in (l.firsts c).first i r lt (unoffered_accepted (entry_at d.entries i).standing q.0) q.1 is less);
      };
      followings = l.followings;
      ahead = λ i lt accepted early. (opened i lt).waits accepted;
      ordered = subst (λ (es : List Entry). (i : ℕ) → i < length es → (entry_at es i).booking.start < (entry_at es i).booking.end) (sym is) (opening_ordered rows assigned b);
    }

-- ---- after a pass over the bookings

-- what it leaves
pub pass_moved : (link : Link) (t l : ℕ) (items es new : List Entry) (ms ms' : List Bool) (said : List (Option Outgoing)) (live waiting following seen second : List (Option ℕ)) (due : ℕ) (blocked : List Bool) (back : Bool) (now : Day) → IsIndexed (day_of t l items ms) live waiting following due → es ≡ items → seen ≡ following → day_of t l items ms ≡ now → AreBlocked now blocked → back ≡ is_back now → ((c : ℕ) → slot_at second c ≡ follower seen (slot_at waiting c))
    → ((l' : ℕ) (d : Day) → d ≡ day_of t l' es ms → is_back d ≡ back → IsExchange d → AreBlocked d blocked → AreTouched link d live waiting second → IsSecond link d new ms' said) → IsSecond link (day_of t l es ms) new ms' said
pass_moved link t l items es new ms ms' said live waiting following seen second due blocked back now h same read view free again follows moved =
    let d = day_of t l es ms in
    let day : day_of t l items ms ≡ d = ap (λ (xs : List Entry). day_of t l xs ms) (sym same) in
    let whole : IsExchange d = subst IsExchange day h.exchange in
    let slots : AreSlots d live waiting following = subst (λ (x : Day). AreSlots x live waiting following) day h.slots in
    moved l d refl (ap is_back view ∙ sym again) whole (subst (λ (x : Day). AreBlocked x blocked) (sym view ∙ day) free) (touched_of link d live waiting following second whole slots (λ c. follows c ∙ ap (λ b. follower b (slot_at waiting c)) read))

pub pass_indexed : (link : Link) (t l n : ℕ) (items es new seen : List Entry) (ms ms' : List Bool) (said : List (Option Outgoing)) (live waiting following live' waiting' : List (Option ℕ)) → t < 300000 → IsExchange (day_of t l items ms) → AreSlots (day_of t l items ms) live waiting following → es ≡ items → n ≡ length items
    → IsSecond link (day_of t l es ms) new ms' said → seen ≡ take n (new ++ drop (length new) items) → ((d : Day) → IsExchange d → d.moment < 300000 → seen ≡ map (after_in link d) d.entries → AreSlots d live waiting following → AreSlots (passed_in link d).day live' waiting' following)
    → IsIndexed (day_of (t + 1) (unlinked_after link t l) (take n (new ++ drop (length new) items)) ms') live' waiting' following 0
pass_indexed link t l n items es new seen ms ms' said live waiting following live' waiting' early h slots same all moved is settled =
    let d = day_of t l es ms in
    let whole : IsExchange d = subst (λ (xs : List Entry). IsExchange (day_of t l xs ms)) (sym same) h in
    let count : length new ≡ length items = ap length moved.entries ∙ map_size link d es ∙ ap length same in
    let entries : take n (new ++ drop (length new) items) ≡ map (after_in link d) es = refilled n new items count all ∙ moved.entries in
    let day : day_of (t + 1) (unlinked_after link t l) (take n (new ++ drop (length new) items)) ms' ≡ (passed_in link d).day = ap₂ (day_of (t + 1) (unlinked_after link t l)) entries moved.maintenance in
    subst (λ (x : Day). IsIndexed x live' waiting' following 0) (sym day) (indexed_now (passed_in link d).day live' waiting' following (passed_stays link d early whole) (settled d whole early (is ∙ entries) (subst (λ (xs : List Entry). AreSlots (day_of t l xs ms) live waiting following) (sym same) slots)))

pub pass_size : (link : Link) (t l n : ℕ) (items es new seen : List Entry) (ms ms' : List Bool) (said : List (Option Outgoing)) → es ≡ items → n ≡ length items → IsSecond link (day_of t l es ms) new ms' said → seen ≡ take n (new ++ drop (length new) items) → length seen ≡ length items
pass_size link t l n items es new seen ms ms' said same all moved is =
    let d = day_of t l es ms in
    let count : length new ≡ length items = ap length moved.entries ∙ map_size link d es ∙ ap length same in
    ap length (is ∙ refilled n new items count all) ∙ count

pub pass_day : (link : Link) (t l n : ℕ) (items es new : List Entry) (ms ms' : List Bool) (said : List (Option Outgoing)) → es ≡ items → n ≡ length items → IsSecond link (day_of t l es ms) new ms' said → day_of (t + 1) (unlinked_after link t l) (take n (new ++ drop (length new) items)) ms' ≡ (passed_in link (day_of t l items ms)).day
pass_day link t l n items es new ms ms' said same all moved =
    let d = day_of t l es ms in
    let count : length new ≡ length items = ap length moved.entries ∙ map_size link d es ∙ ap length same in
    ap₂ (day_of (t + 1) (unlinked_after link t l)) (refilled n new items count all ∙ moved.entries) moved.maintenance ∙ ap (λ (xs : List Entry). (passed_in link (day_of t l xs ms)).day) same
