-- What takes over from a day is a day that an exchange may go on from.
use Rattle.std.proofs.Common.{◌≡◌, ℕ, zero, suc, ◌↔◌, subst₂, ◌+◌, ◌-◌, ◌≤◌, ◌<◌, ◌==◌, ◌&&◌, ◌||◌, ◌⊎◌, max, not, Bool, true, false, List, [], ◌∷◌, ◌++◌, drop, take, map, length, Option, Some, None, arith, refl, sym, subst, ap, ap₂, ◌∙◌, inl, inr, slice_index_or, slice_set, is_some, unwrap_or, if◌then◌else◌}
use Rattle.std.specs.List.{AllByRecursion}
use Rattle.std.proofs.lemmas.Bool.{true≢false, false≢true, cases_lt}
use Rattle.bx_channels.specs.ChannelNumbers.{IsChannel}
use Rattle.bx_base.specs.Bookings.{Row, row_at, is_running, AreBookings, Carries}
use Rattle.bx_base.specs.Channels.{IsChannelSet}
use Rattle.bx_base.specs.Plans.{is_accepted, channel_at}
use Rattle.bx_calls.specs.PlainCalls.{PlainNetCall}
use Rattle.bx_calls.specs.NetTable.{net_is_clearing}
use Rattle.bx_calls.specs.Shifting.{state_earlier, earlier_by, IsDueFrom}
use Rattle.bx_channels.specs.Marks.{is_marked}
use Rattle.bx_day.specs.Ticks.{second_by, second_in}
use Rattle.bx_day.proofs.GoingOn.{seconds_go}
use Rattle.bx_calls.specs.declared.net_state.NetOrigin.{NetOrigin}
use Rattle.bx_calls.specs.declared.net_state.NetOrigin.TheVariants.{Outward, Inward}
use Rattle.bx_calls.specs.declared.net_state.NetState.{NetState}
use Rattle.bx_calls.specs.declared.net_state.NetState.TheVariants.{OutgoingCallProceeding, CallPresent, IncomingCallProceeding, CallReceived, Active, Enquiring, DisconnectIndication, ReleaseRequest}
use Rattle.bx_day.specs.declared.entry.Activity.{Activity}
use Rattle.bx_day.specs.declared.entry.Activity.TheVariants.{Never, Since, Was}
use Rattle.bx_day.specs.declared.entry.Entry.{Entry}
use Rattle.bx_day.specs.declared.entry.Standing.{Standing}
use Rattle.bx_day.specs.declared.entry.Standing.TheVariants.{Refused, Unoffered, OnCall, Carried, Unanswered, Missed}
use Rattle.bx_day.specs.Day.{Day, is_back, entry_at, entry_of, entries_from, is_live, is_unoffered, is_free, is_held, holds}
use Rattle.bx_day.specs.Handing.{goes_over, left_over, activity_over, standing_over, seat_over, seat_new, all_over, handed_over, IsHandedOver, AreNamed, moved_over, is_cleared, IsTimedFrom, LivesOn, IsUnnoticed, on_channel_of, with_call, open_calls}
use Rattle.bx_day.specs.HandingInside.{AreReady, partly_over}
use Rattle.bx_day.specs.Invariant.{EntryFits, StandingFits, OriginFits, Phase, Ringing, Talking, Clearing, PhaseFits, phase_of, DueFits, ActivityFits, Apart, Pairs, is_refused}
use Rattle.bx_day.specs.Passing.{day_of}
use Rattle.bx_day.specs.Reading.{IsExchange, Seated}
use Rattle.bx_day.specs.Restoring.{IsState}
use Rattle.bx_day.proofs.Law.{IsFrame, frame_of, row_of_entry}
use Rattle.bx_day.proofs.LiveTurns.{pairs_at, pairs_from}
use Rattle.bx_day.proofs.Once.{each_at, not_back}
use Rattle.bx_day.proofs.OpeningDay.{opening_size, opening_at, waits_new}
use Rattle.bx_day.proofs.Passing.{refilled}
use Rattle.bx_day.proofs.Quiet.{all_at as all_from}

-- ---- what goes on

pick_all : (P : Entry → Type 0) (b : Bool) (e : Entry) (xs : List Entry) → P e → AllByRecursion P xs → AllByRecursion P (if b then e ∷ xs else xs)
pick_all P true e xs p h = (p, h)
pick_all P false e xs p h = h

left_all : (t : ℕ) (P : Entry → Type 0) (es : List Entry) → AllByRecursion P es → AllByRecursion P (left_over t es)
left_all t P [] h = tt
left_all t P (e ∷ es) h = pick_all P (goes_over t e) e (left_over t es) h.0 (left_all t P es h.1)

pick_goes : (t : ℕ) (b : Bool) (e : Entry) (xs : List Entry) → goes_over t e ≡ b → AllByRecursion (λ (x : Entry). goes_over t x ≡ true) xs → AllByRecursion (λ (x : Entry). goes_over t x ≡ true) (if b then e ∷ xs else xs)
pick_goes t true e xs q h = (q, h)
pick_goes t false e xs q h = h

left_goes : (t : ℕ) (es : List Entry) → AllByRecursion (λ (e : Entry). goes_over t e ≡ true) (left_over t es)
left_goes t [] = tt
left_goes t (e ∷ es) = pick_goes t (goes_over t e) e (left_over t es) refl (left_goes t es)

pick_pairs : (R : Entry → Entry → Type 0) (b : Bool) (e : Entry) (xs : List Entry) → AllByRecursion (R e) xs → Pairs R xs → Pairs R (if b then e ∷ xs else xs)
pick_pairs R true e xs p h = (p, h)
pick_pairs R false e xs p h = h

left_pairs : (t : ℕ) (R : Entry → Entry → Type 0) (es : List Entry) → Pairs R es → Pairs R (left_over t es)
left_pairs t R [] h = tt
left_pairs t R (e ∷ es) h = pick_pairs R (goes_over t e) e (left_over t es) (left_all t (R e) es h.0) (left_pairs t R es h.1)

abbrev is_open : Standing → Bool
is_open s = is_live s || is_unoffered s

either_open : (a b c : Bool) → (a || (b && c)) ≡ true → (a || b) ≡ true
either_open true b c h = refl
either_open false true c h = refl
either_open false false c h = h

neither : (a b : Bool) → (a || b) ≡ false → a ≡ false
neither true b h = absurd (true≢false h)
neither false b h = refl

-- ---- of lists

pub over_size : (t base : ℕ) (es ns : List Entry) → length (all_over t base es ns) ≡ length ns
over_size t base es [] = refl
over_size t base [] (n ∷ ns) = ap suc (over_size t base [] ns)
over_size t base (e ∷ es) (n ∷ ns) = ap suc (over_size t base es ns)

over_first : (t base : ℕ) (es ns : List Entry) (i : ℕ) → i < length es → i < length ns → entry_at (all_over t base es ns) i ≡ seat_over t (entry_at es i) (entry_at ns i)
over_first t base es [] i lt inside = absurd (omega (arith, inside))
over_first t base [] (n ∷ ns) i lt inside = absurd (omega (arith, lt))
over_first t base (e ∷ es) (n ∷ ns) zero lt inside = refl
over_first t base (e ∷ es) (n ∷ ns) (suc i) lt inside = over_first t base es ns i (omega (arith, lt)) (omega (arith, inside))

over_new : (t base : ℕ) (es ns : List Entry) (i : ℕ) → length es ≤ i → i < length ns → entry_at (all_over t base es ns) i ≡ seat_new base (entry_at ns i)
over_new t base es [] i low inside = absurd (omega (arith, inside))
over_new t base [] (n ∷ ns) zero low inside = refl
over_new t base [] (n ∷ ns) (suc i) low inside = over_new t base [] ns i (omega arith) (omega (arith, inside))
over_new t base (e ∷ es) (n ∷ ns) zero low inside = absurd (omega (arith, low))
over_new t base (e ∷ es) (n ∷ ns) (suc i) low inside = over_new t base es ns i (omega (arith, low)) (omega (arith, inside))

-- ---- of one booking

phase_over : (t : ℕ) (s : NetState) → phase_of (state_earlier t s) ≡ phase_of s
phase_over t OutgoingCallProceeding = refl
phase_over t (CallPresent again due) = refl
phase_over t (IncomingCallProceeding due) = refl
phase_over t (CallReceived due) = refl
phase_over t Active = refl
phase_over t (Enquiring asked due) = refl
phase_over t (DisconnectIndication cause due) = refl
phase_over t (ReleaseRequest again cause due) = refl

due_over : (t : ℕ) (s : NetState) → DueFits t s → DueFits 0 (state_earlier t s)
due_over t OutgoingCallProceeding h = tt
due_over t (CallPresent again due) h = (let a = h.0 in let b = h.1 in (omega (arith, a), omega (arith, b)))
due_over t (IncomingCallProceeding due) h = (let a = h.0 in let b = h.1 in (omega (arith, a), omega (arith, b)))
due_over t (CallReceived due) h = (let a = h.0 in let b = h.1 in (omega (arith, a), omega (arith, b)))
due_over t Active h = tt
due_over t (Enquiring asked due) h = (let a = h.0 in let b = h.1 in (omega (arith, a), omega (arith, b)))
due_over t (DisconnectIndication cause due) h = (let a = h.0 in let b = h.1 in (omega (arith, a), omega (arith, b)))
due_over t (ReleaseRequest again cause due) h = (let a = h.0 in let b = h.1 in (omega (arith, a), omega (arith, b)))

-- a booking that goes on, and what it is in the new day
pub record IsSame (t : ℕ) (e n : Entry) : Type 0 where
  pub reference : n.reference ≡ e.reference
  pub inward : n.booking.inward ≡ e.booking.inward
  pub order : n.booking.start < n.booking.end

phase_fits : (t : ℕ) (e n : Entry) (p : Phase) → IsSame t e n → n.booking.start ≡ e.booking.start - t → PhaseFits t e.booking p → PhaseFits 0 n.booking p
phase_fits t e n Clearing h start k = tt
phase_fits t e n Ringing h start k = (let a = k.0 in (omega (arith, a, start), omega (arith, h.order)))
phase_fits t e n Talking h start k = (let a = k.0 in (omega (arith, a, start), omega (arith, h.order)))

activity_fits : (t : ℕ) (e n : Entry) (p : Phase) (a : Activity) → IsSame t e n → n.booking.start ≡ e.booking.start - t → e.booking.start ≤ t → ActivityFits t e.booking p a → ActivityFits 0 n.booking p (activity_over t a)
activity_fits t e n Ringing Never h start begun k = tt
activity_fits t e n Talking (Since from) h start begun k = (let a = k.1 in (omega (arith, begun, start), omega (arith, a)))
activity_fits t e n Clearing Never h start begun k = tt
activity_fits t e n Clearing (Was from until) h start begun k = (let a = k.1 in let b = k.2 in (omega (arith, begun, start), omega (arith, a), omega (arith, b), omega (arith, b)))
activity_fits t e n p a h start begun k = absurd k

origin_fits : (t : ℕ) (e n : Entry) (reference : ℕ) (o : NetOrigin) → IsSame t e n → OriginFits e.reference e.booking reference o → OriginFits n.reference n.booking reference o
origin_fits t e n reference (Outward called) h k = (h.inward ∙ k.0, k.1 ∙ sym h.reference)
origin_fits t e n reference Inward h k = h.inward ∙ k

pub fits_over : (t : ℕ) (e n : Entry) (s : Standing) → IsSame t e n → is_open s ≡ true → (is_live s ≡ true → n.channel ≡ e.channel) → (is_live s ≡ true → n.booking.start ≡ e.booking.start - t) → (is_live s ≡ true → e.booking.start ≤ t) → StandingFits t e s → StandingFits 0 n (standing_over t s)
fits_over t e n Unoffered h goes on start begun k = omega (arith, h.order)
fits_over t e n (OnCall c a) h goes on start begun k = record {
  channel = k.channel ∙ sym (on refl);
  origin = origin_fits t e n c.reference c.origin h k.origin;
  phase = subst (PhaseFits 0 n.booking) (sym (phase_over t c.state)) (phase_fits t e n (phase_of c.state) h (start refl) k.phase);
  due = due_over t c.state k.due;
  activity = subst (λ p. ActivityFits 0 n.booking p (activity_over t a)) (sym (phase_over t c.state)) (activity_fits t e n (phase_of c.state) a h (start refl) (begun refl) k.activity);
}
fits_over t e n s h goes on start begun k = absurd (false≢true goes)

still_accepted : (t : ℕ) (s : Standing) → is_open s ≡ true → is_refused (standing_over t s) ≡ false
still_accepted t Unoffered h = refl
still_accepted t (OnCall c a) h = refl
still_accepted t s h = absurd (false≢true h)

still_live : (t : ℕ) (s : Standing) → is_live (standing_over t s) ≡ is_live s
still_live t (OnCall c a) = refl
still_live t Refused = refl
still_live t Unoffered = refl
still_live t (Carried from until) = refl
still_live t Unanswered = refl
still_live t Missed = refl

still_waits : (t : ℕ) (s : Standing) → is_unoffered (standing_over t s) ≡ is_unoffered s
still_waits t (OnCall c a) = refl
still_waits t Refused = refl
still_waits t Unoffered = refl
still_waits t (Carried from until) = refl
still_waits t Unanswered = refl
still_waits t Missed = refl

-- what is live has begun
begun_by : (t start : ℕ) (s : Standing) → (is_refused s ≡ false → t < start → is_unoffered s ≡ true) → is_live s ≡ true → start ≤ t
begun_by t start (OnCall c a) ahead live = elim (cases_lt t start) [ inl less ↦ absurd (false≢true (ahead refl less)) | inr le ↦ le ]
begun_by t start s ahead live = absurd (false≢true live)

not_both : (s : Standing) → is_live s ≡ true → is_unoffered s ≡ true → ⊥
not_both (OnCall c a) live waits = false≢true waits
not_both s live waits = false≢true live

waits_or_live : (s : Standing) → is_open s ≡ true → is_live s ≡ false → is_unoffered s ≡ true
waits_or_live Unoffered h idle = refl
waits_or_live (OnCall c a) h idle = absurd (true≢false idle)
waits_or_live s h idle = absurd (false≢true h)

new_idle : (k : ℕ) (b : Row) (a : Option ℕ) → is_live (entry_of k b a).standing ≡ false
new_idle k b None = refl
new_idle k b (Some c) = refl

new_fits : (base k : ℕ) (b : Row) (a : Option ℕ) → b.start < b.end → EntryFits 0 (seat_new base (entry_of k b a))
new_fits base k b None order = tt
new_fits base k b (Some c) order = omega (arith, order)

decide_live : {P : Type 0} (b : Bool) → (b ≡ true → P) → (b ≡ false → P) → P
decide_live true f g = f refl
decide_live false f g = g refl

-- ---- the day

module _ (base : ℕ) (d : Day) (rows : List Row) (channels : List Bool) (assigned : List (Option ℕ)) (bookings : AreBookings rows) (set : IsChannelSet channels) (carries : Carries rows channels (is_accepted assigned) (channel_at assigned)) (h : IsState d) (x : IsHandedOver base d rows assigned) where
  abbrev t : ℕ
  t = d.moment

  abbrev left : List Entry
  left = left_over d.moment d.entries

  abbrev news : List Entry
  news = entries_from 1 rows assigned

  abbrev all : List Entry
  all = all_over t base left news

  size : length all ≡ length rows
  size = over_size t base left news ∙ opening_size 1 rows assigned

  new_at : (i : ℕ) → i < length rows → entry_at news i ≡ entry_of (i + 1) (row_at rows i) (slice_index_or assigned i None)
  new_at i lt = opening_at 1 (i + 1) rows assigned i (let q : 1 + i ≡ i + 1 = omega arith in q) lt

  old_at : (i : ℕ) → i < length left → i < length rows → entry_at all i ≡ seat_over t (entry_at left i) (entry_of (i + 1) (row_at rows i) (slice_index_or assigned i None))
  old_at i old lt = over_first t base left news i old (omega (arith, lt, opening_size 1 rows assigned)) ∙ ap (seat_over t (entry_at left i)) (new_at i lt)

  past_at : (i : ℕ) → length left ≤ i → i < length rows → entry_at all i ≡ seat_new base (entry_of (i + 1) (row_at rows i) (slice_index_or assigned i None))
  past_at i low lt = over_new t base left news i low (omega (arith, lt, opening_size 1 rows assigned)) ∙ ap (seat_new base) (new_at i lt)

  -- of what goes on
  goes_at : (i : ℕ) → i < length left → is_open (entry_at left i).standing ≡ true
  goes_at i lt = let e = entry_at left i in either_open (is_live e.standing) (is_unoffered e.standing) _ (each_at (λ (x : Entry). goes_over t x ≡ true) left i lt (left_goes t d.entries))

  fits_at_old : (i : ℕ) → i < length left → EntryFits t (entry_at left i)
  fits_at_old i lt = each_at (EntryFits t) left i lt (left_all t (EntryFits t) d.entries h.exchange.day.each)

  abbrev Begun : Entry → Type 0
  Begun e = is_live e.standing ≡ true → e.booking.start ≤ t

  begun_at : (i : ℕ) → i < length left → Begun (entry_at left i)
  begun_at i lt = each_at Begun left i lt (left_all t Begun d.entries (all_from Begun d.entries (λ j inside. begun_by t (entry_at d.entries j).booking.start (entry_at d.entries j).standing (h.ahead j inside))))

  seated_old : (i : ℕ) → i < length left → Seated (entry_at left i)
  seated_old i lt = each_at Seated left i lt (left_all t Seated d.entries h.exchange.seated)

  abbrev seat_at : ℕ → Entry
  seat_at i = seat_over t (entry_at left i) (entry_of (i + 1) (row_at rows i) (slice_index_or assigned i None))

  frame_old : (i : ℕ) → i < length left → IsFrame (row_at rows i) (slice_index_or assigned i None) (seat_at i)
  frame_old i lt =
      let f = frame_of (i + 1) (row_at rows i) (slice_index_or assigned i None) in
      record {
        booking = f.booking;
        channel = f.channel;
        accepted = still_accepted t (entry_at left i).standing (goes_at i lt) ∙ sym (ap not (x.first i lt).accepted);
      }

  same_at : (i : ℕ) → i < length left → i < length rows → IsSame t (entry_at left i) (seat_at i)
  same_at i lt inside =
      let f = frame_old i lt in
      let r = x.first i lt in
      record {
        reference = refl;
        inward = ap (λ (b : Row). b.inward) f.booking ∙ r.inward;
        order = subst (λ (b : Row). b.start < b.end) (sym f.booking) (bookings.each i inside).in_order;
      }

  live_on : (i : ℕ) → i < length left → is_live (entry_at left i).standing ≡ true → (seat_at i).channel ≡ (entry_at left i).channel
  live_on i lt lives = (frame_old i lt).channel ∙ ap (λ (o : Option ℕ). unwrap_or o 0) ((x.first i lt).channel lives)

  live_start : (i : ℕ) → i < length left → is_live (entry_at left i).standing ≡ true → (seat_at i).booking.start ≡ (entry_at left i).booking.start - t
  live_start i lt lives = ap (λ (b : Row). b.start) (frame_old i lt).booking ∙ elim (x.first i lt).start [ inl same ↦ same | inr waits ↦ absurd (not_both (entry_at left i).standing lives waits.0) ]

  within : (i : ℕ) → i < length left → i < length rows
  within i lt = let le : length left ≤ length rows = x.longer in omega (arith, lt, le)

  frame_at : (i : ℕ) → i < length rows → IsFrame (row_at rows i) (slice_index_or assigned i None) (entry_at all i)
  frame_at i lt = elim (cases_lt i (length left)) [
    | inl old ↦ subst (IsFrame (row_at rows i) (slice_index_or assigned i None)) (sym (old_at i old lt)) (frame_old i old)
    | inr new ↦ subst (IsFrame (row_at rows i) (slice_index_or assigned i None)) (sym (past_at i new lt)) (let f = frame_of (i + 1) (row_at rows i) (slice_index_or assigned i None) in record { booking = f.booking; channel = f.channel; accepted = f.accepted })
  ]

  fits_at : (i : ℕ) → i < length all → EntryFits 0 (entry_at all i)
  fits_at i inside =
      let lt : i < length rows = omega (arith, inside, size) in
      elim (cases_lt i (length left)) [
        | inl old ↦ subst (EntryFits 0) (sym (old_at i old lt)) (fits_over t (entry_at left i) (seat_at i) (entry_at left i).standing (same_at i old lt) (goes_at i old) (live_on i old) (live_start i old) (begun_at i old) (fits_at_old i old))
        | inr new ↦ subst (EntryFits 0) (sym (past_at i new lt)) (new_fits base (i + 1) (row_at rows i) (slice_index_or assigned i None) (bookings.each i lt).in_order)
      ]

  accepted_at : (i : ℕ) → i < length rows → is_refused (entry_at all i).standing ≡ false → is_accepted assigned i ≡ true
  accepted_at i lt accepted = not_back false (is_accepted assigned i) (sym accepted ∙ (frame_at i lt).accepted)

  runs_in : (i m : ℕ) → i < length rows → is_running (entry_at all i).booking m ≡ true → is_running (row_at rows i) m ≡ true
  runs_in i m lt runs = subst (λ (b : Row). is_running b m ≡ true) (frame_at i lt).booking runs

  -- what is live was so, on its channel
  live_old : (i : ℕ) → i < length all → is_live (entry_at all i).standing ≡ true → i < length left
  live_old i inside lives =
      let lt : i < length rows = omega (arith, inside, size) in
      elim (cases_lt i (length left)) [
        | inl old ↦ old
        | inr new ↦ absurd (true≢false (sym lives ∙ ap (λ (e : Entry). is_live e.standing) (past_at i new lt) ∙ new_idle (i + 1) (row_at rows i) (slice_index_or assigned i None)))
      ]

  was_live : (i : ℕ) → i < length left → is_live (entry_at all i).standing ≡ true → is_live (entry_at left i).standing ≡ true
  was_live i old lives = sym (still_live t (entry_at left i).standing) ∙ ap (λ (e : Entry). is_live e.standing) (sym (old_at i old (within i old))) ∙ lives

  on_channel : (i : ℕ) → i < length left → is_live (entry_at left i).standing ≡ true → (entry_at all i).channel ≡ (entry_at left i).channel
  on_channel i old lives = ap (λ (e : Entry). e.channel) (old_at i old (within i old)) ∙ live_on i old lives

  apart_at : (i j : ℕ) → i < j → j < length all → Apart (entry_at all i) (entry_at all j)
  apart_at i j less inside =
      let lj : j < length rows = omega (arith, inside, size) in
      let li : i < length rows = omega (arith, less, lj) in
      record {
        planned = λ ai aj same m ri rj. carries.apart i j less lj (accepted_at i li ai) (accepted_at j lj aj) (m, runs_in i m li ri, runs_in j m lj rj) (sym (frame_at i li).channel ∙ same ∙ (frame_at j lj).channel);
        live = λ vi vj same. (
            let oi = live_old i (omega (arith, less, inside)) vi in
            let oj = live_old j inside vj in
            (pairs_at Apart left i j less oj (left_pairs t Apart d.entries h.exchange.day.pairs)).live (was_live i oi vi) (was_live j oj vj) (sym (on_channel i oi (was_live i oi vi)) ∙ same ∙ on_channel j oj (was_live j oj vj)));
      }

  row_at_place : (i : ℕ) → i < length all → (entry_at all i).row ≡ i + 1
  row_at_place i inside =
      let lt : i < length rows = omega (arith, inside, size) in
      elim (cases_lt i (length left)) [
        | inl old ↦ ap (λ (e : Entry). e.row) (old_at i old lt) ∙ row_of_entry (i + 1) (row_at rows i) (slice_index_or assigned i None)
        | inr new ↦ ap (λ (e : Entry). e.row) (past_at i new lt) ∙ row_of_entry (i + 1) (row_at rows i) (slice_index_or assigned i None)
      ]

  new_reference : (i : ℕ) → length left ≤ i → i < length rows → (entry_at all i).reference ≡ base + (i + 1)
  new_reference i new lt = ap (λ (e : Entry). e.reference) (past_at i new lt) ∙ ap (λ k. base + k) (row_of_entry (i + 1) (row_at rows i) (slice_index_or assigned i None))

  old_reference : (i : ℕ) → i < length left → (entry_at all i).reference ≡ (entry_at left i).reference
  old_reference i old = ap (λ (e : Entry). e.reference) (old_at i old (within i old))

  seated_at : (i : ℕ) → i < length all → Seated (entry_at all i)
  seated_at i inside =
      let lt : i < length rows = omega (arith, inside, size) in
      let row = row_at_place i inside in
      record {
        row = (omega (arith, row), omega (arith, row, lt, bookings.few));
        reference = elim (cases_lt i (length left)) [
          | inl old ↦ (let own = (seated_old i old).reference in let is = old_reference i old in (let low = own.0 in omega (arith, low, is), let high = own.1 in omega (arith, high, is)))
          | inr new ↦ (let is = new_reference i new lt in (omega (arith, is), omega (arith, is, lt, bookings.few, x.limit)))
        ];
        channel = λ accepted. subst IsChannel (sym (frame_at i lt).channel) (set.only (channel_at assigned i) (carries.in_service i lt (accepted_at i lt accepted)));
      }

  pub exchange_over : IsExchange (handed_over base rows assigned d)
  exchange_over = record {
    moment = omega arith;
    rows = omega (arith, size, bookings.few);
    day = record { each = all_from (EntryFits 0) all fits_at; pairs = pairs_from Apart all apart_at };
    seated = all_from Seated all seated_at;
    numbered = row_at_place;
  }

  ordered_over : (i : ℕ) → i < length all → (entry_at all i).booking.start < (entry_at all i).booking.end
  ordered_over i inside =
      let lt : i < length rows = omega (arith, inside, size) in
      subst (λ (b : Row). b.start < b.end) (sym (frame_at i lt).booking) (bookings.each i lt).in_order

  ahead_over : (i : ℕ) → i < length all → is_refused (entry_at all i).standing ≡ false → 0 < (entry_at all i).booking.start → is_unoffered (entry_at all i).standing ≡ true
  ahead_over i inside accepted early =
      let lt : i < length rows = omega (arith, inside, size) in
      elim (cases_lt i (length left)) [
        | inl old ↦ (
            ap (λ (e : Entry). is_unoffered e.standing) (old_at i old lt) ∙ still_waits t (entry_at left i).standing
            ∙ decide_live (is_live (entry_at left i).standing)
            (λ live. let le = begun_at i old live in let start : (entry_at all i).booking.start ≡ (entry_at left i).booking.start - t = ap (λ (e : Entry). e.booking.start) (old_at i old lt) ∙ live_start i old live in absurd (omega (arith, early, start, le)))
            (λ idle. waits_or_live (entry_at left i).standing (goes_at i old) idle))
        | inr new ↦ (
            let is = past_at i new lt in
            ap (λ (e : Entry). is_unoffered e.standing) is ∙ waits_new (i + 1) (row_at rows i) (slice_index_or assigned i None) (ap (λ (e : Entry). is_refused e.standing) (sym is) ∙ accepted))
      ]

  pub state_over : IsState (handed_over base rows assigned d)
  state_over = record { exchange = exchange_over; ordered = ordered_over; ahead = ahead_over }

  -- no two bookings have one reference, where none had before
  left_named : AreNamed d.entries → AreNamed left
  left_named named i j less lt same =
      pairs_at (λ e f. e.reference ≡ f.reference → ⊥) left i j less lt (left_pairs t (λ e f. e.reference ≡ f.reference → ⊥) d.entries (pairs_from (λ e f. e.reference ≡ f.reference → ⊥) d.entries named)) same

  apart_new : (i j : ℕ) → i < length left → length left ≤ j → j < length rows → (entry_at all i).reference ≡ (entry_at all j).reference → ⊥
  apart_new i j old new lt same =
      let one = old_reference i old in
      let two = new_reference j new lt in
      elim (x.apart i old) [
        | inl low ↦ absurd (omega (arith, low, one, two, same))
        | inr high ↦ absurd (omega (arith, high, one, two, same, lt, bookings.few))
      ]

  pub named_over : AreNamed d.entries → AreNamed all
  named_over named i j less inside same =
      let lj : j < length rows = omega (arith, inside, size) in
      let li : i < length rows = omega (arith, less, lj) in
      elim (cases_lt j (length left)) [
        | inl old ↦ (let oi : i < length left = omega (arith, less, old) in left_named named i j less old (sym (old_reference i oi) ∙ same ∙ old_reference j old))
        | inr new ↦ elim (cases_lt i (length left)) [
          | inl oi ↦ apart_new i j oi new lj same
          | inr ni ↦ (let one = new_reference i ni li in let two = new_reference j new lj in absurd (omega (arith, one, two, same, less)))
        ]
      ]

-- ---- nothing is noticed

due_timed : (t due m : ℕ) (x : ℕ) → t < due → Some due ≡ Some x → t ≤ x
due_timed t due m x lt is = let q : due ≡ x = ap (λ (o : Option ℕ). unwrap_or o 0) is in omega (arith, q, lt)

state_timed : (t : ℕ) (s : NetState) → DueFits t s → IsDueFrom t s
state_timed t OutgoingCallProceeding h x is = absurd (false≢true (ap is_some is))
state_timed t (CallPresent again due) h x is = due_timed t due 0 x h.0 is
state_timed t (IncomingCallProceeding due) h x is = due_timed t due 0 x h.0 is
state_timed t (CallReceived due) h x is = due_timed t due 0 x h.0 is
state_timed t Active h x is = absurd (false≢true (ap is_some is))
state_timed t (Enquiring asked due) h x is = due_timed t due 0 x h.0 is
state_timed t (DisconnectIndication cause due) h x is = due_timed t due 0 x h.0 is
state_timed t (ReleaseRequest again cause due) h x is = due_timed t due 0 x h.0 is

timed_over : (t : ℕ) (e : Entry) (s : Standing) → StandingFits t e s → IsTimedFrom t s
timed_over t e (OnCall c a) h = state_timed t c.state h.due
timed_over t e Unoffered h = tt
timed_over t e Refused h = tt
timed_over t e (Carried from until) h = tt
timed_over t e Unanswered h = tt
timed_over t e Missed h = tt

phase_end : (t : ℕ) (b : Row) (s : NetState) → PhaseFits t b (phase_of s) → (net_is_clearing s ≡ true) ⊎ (t < b.end)
phase_end t b OutgoingCallProceeding h = inr h.1
phase_end t b (CallPresent again due) h = inr h.1
phase_end t b (IncomingCallProceeding due) h = inr h.1
phase_end t b (CallReceived due) h = inr h.1
phase_end t b Active h = inr h.1
phase_end t b (Enquiring asked due) h = inr h.1
phase_end t b (DisconnectIndication cause due) h = inl refl
phase_end t b (ReleaseRequest again cause due) h = inl refl

ends_over : (t : ℕ) (e : Entry) (s : Standing) → is_open s ≡ true → StandingFits t e s → (is_cleared s ≡ true) ⊎ (t < e.booking.end)
ends_over t e (OnCall c a) goes h = phase_end t e.booking c.state h.phase
ends_over t e Unoffered goes h = inr h
ends_over t e s goes h = absurd (false≢true goes)

whole_end : (t end : ℕ) → t < end → end ≡ max 1 (end - t) + t
whole_end t end lt = omega (arith, lt)

-- what is over holds no channel
kept_held : (t c : ℕ) (e : Entry) (xs : List Entry) → (b : Bool) → goes_over t e ≡ b → is_held (if b then e ∷ xs else xs) c ≡ (holds c e || is_held xs c)
kept_held t c e xs true q = refl
kept_held t c e xs false q = ap (λ x. (x && (e.channel == c)) || is_held xs c) (sym (neither (is_live e.standing) _ q))

left_held : (t c : ℕ) (es : List Entry) → is_held (left_over t es) c ≡ is_held es c
left_held t c [] = refl
left_held t c (e ∷ es) = kept_held t c e (left_over t es) (goes_over t e) refl ∙ ap (λ b. holds c e || b) (left_held t c es)

-- a booking that is new holds none, and one that goes on the same
none_held : (t base c : ℕ) (ns : List Entry) → AllByRecursion (λ (n : Entry). is_live n.standing ≡ false) ns → is_held (all_over t base [] ns) c ≡ false
none_held t base c [] h = refl
none_held t base c (n ∷ ns) h = ap₂ (λ x y. (x && (n.channel == c)) || y) h.0 (none_held t base c ns h.1)

over_held : (t base c : ℕ) (es ns : List Entry) → length es ≤ length ns → AllByRecursion (λ (n : Entry). is_live n.standing ≡ false) ns → ((i : ℕ) → i < length es → is_live (entry_at es i).standing ≡ true → (entry_at ns i).channel ≡ (entry_at es i).channel) → is_held (all_over t base es ns) c ≡ is_held es c
over_held t base c [] ns le idle same = none_held t base c ns idle
over_held t base c (e ∷ es) [] le idle same = absurd (omega (arith, le))
over_held t base c (e ∷ es) (n ∷ ns) le idle same =
    ap₂ (λ x y. (x && (n.channel == c)) || y) (still_live t e.standing) (over_held t base c es ns (omega (arith, le)) idle.1 (λ i lt. same (suc i) (omega (arith, lt))))
    ∙ decide_live (is_live e.standing)
    (λ lives. ap (λ k. (is_live e.standing && (k == c)) || is_held es c) (same 0 (omega arith) lives))
    (λ quiet. ap (λ b. (b && (n.channel == c)) || is_held es c) quiet ∙ sym (ap (λ b. (b && (e.channel == c)) || is_held es c) quiet))

idle_call : (s : Standing) (cs : List PlainNetCall) → is_live s ≡ false → with_call s cs ≡ cs
idle_call (OnCall call activity) cs h = absurd (true≢false h)
idle_call s cs h = refl

kept_calls : (t : ℕ) (e : Entry) (xs : List Entry) (b : Bool) → goes_over t e ≡ b → open_calls (if b then e ∷ xs else xs) ≡ with_call e.standing (open_calls xs)
kept_calls t e xs true q = refl
kept_calls t e xs false q = sym (idle_call e.standing (open_calls xs) (neither (is_live e.standing) _ q))

left_calls : (t : ℕ) (es : List Entry) → open_calls (left_over t es) ≡ open_calls es
left_calls t [] = refl
left_calls t (e ∷ es) = kept_calls t e (left_over t es) (goes_over t e) refl ∙ ap (with_call e.standing) (left_calls t es)

none_called : (t base : ℕ) (ns : List Entry) → AllByRecursion (λ (n : Entry). is_live n.standing ≡ false) ns → open_calls (all_over t base [] ns) ≡ []
none_called t base [] h = refl
none_called t base (n ∷ ns) h = idle_call n.standing (open_calls (all_over t base [] ns)) h.0 ∙ none_called t base ns h.1

one_call : (t : ℕ) (s : Standing) (cs ds : List PlainNetCall) → ds ≡ map (earlier_by t) cs → with_call (standing_over t s) ds ≡ map (earlier_by t) (with_call s cs)
one_call t (OnCall call activity) cs ds q = ap (λ xs. earlier_by t call ∷ xs) q
one_call t Refused cs ds q = q
one_call t Unoffered cs ds q = q
one_call t (Carried from until) cs ds q = q
one_call t Unanswered cs ds q = q
one_call t Missed cs ds q = q

over_calls : (t base : ℕ) (es ns : List Entry) → length es ≤ length ns → AllByRecursion (λ (n : Entry). is_live n.standing ≡ false) ns → open_calls (all_over t base es ns) ≡ map (earlier_by t) (open_calls es)
over_calls t base [] ns le idle = none_called t base ns idle
over_calls t base (e ∷ es) [] le idle = absurd (omega (arith, le))
over_calls t base (e ∷ es) (n ∷ ns) le idle = one_call t e.standing (open_calls es) (open_calls (all_over t base es ns)) (over_calls t base es ns (omega (arith, le)) idle.1)

back_over : (b : Bool) → ((if b then 1 else 0) == 0 + 1) ≡ b
back_over true = refl
back_over false = refl

module _ (base : ℕ) (d : Day) (rows : List Row) (channels : List Bool) (assigned : List (Option ℕ)) (bookings : AreBookings rows) (set : IsChannelSet channels) (carries : Carries rows channels (is_accepted assigned) (channel_at assigned)) (h : IsState d) (x : IsHandedOver base d rows assigned) where
  abbrev t' : ℕ
  t' = d.moment

  abbrev left' : List Entry
  left' = left_over d.moment d.entries

  abbrev now' : Day
  now' = handed_over base rows assigned d

  inside' : (i : ℕ) → i < length left' → i < length rows
  inside' i lt = let le : length left' ≤ length rows = x.longer in omega (arith, lt, le)

  is_at : (i : ℕ) → i < length left' → entry_at now'.entries i ≡ seat_at base d rows channels assigned bookings set carries h x i
  is_at i lt = old_at base d rows channels assigned bookings set carries h x i lt (inside' i lt)

  opening_idle : AllByRecursion (λ (n : Entry). is_live n.standing ≡ false) (entries_from 1 rows assigned)
  opening_idle = all_from (λ (n : Entry). is_live n.standing ≡ false) (entries_from 1 rows assigned) (λ i lt.
      let inside : i < length rows = omega (arith, lt, opening_size 1 rows assigned) in
      ap (λ (e : Entry). is_live e.standing) (new_at base d rows channels assigned bookings set carries h x i inside) ∙ new_idle (i + 1) (row_at rows i) (slice_index_or assigned i None))

  free_over : (c : ℕ) → is_free now' c ≡ is_free d c
  free_over c = ap (λ b. not b && not (is_marked d.maintenance c)) (
      over_held t' base c left' (entries_from 1 rows assigned) (let le : length left' ≤ length rows = x.longer in omega (arith, le, opening_size 1 rows assigned)) opening_idle (λ i lt lives.
      ap (λ (e : Entry). e.channel) (new_at base d rows channels assigned bookings set carries h x i (inside' i lt)) ∙ live_on base d rows channels assigned bookings set carries h x i lt lives)
      ∙ left_held t' c d.entries)

  each_goes : (i : ℕ) → i < length left' → LivesOn t' (on_channel_of (seat_at base d rows channels assigned bookings set carries h x i) (entry_at left' i)) (seat_at base d rows channels assigned bookings set carries h x i) (entry_at left' i).standing
  each_goes i lt =
      let e = entry_at left' i in
      let f = frame_old base d rows channels assigned bookings set carries h x i lt in
      let same = x.first i lt in
      let fits = fits_at_old base d rows channels assigned bookings set carries h x i lt in
      let ends = ap (λ (b : Row). b.end) f.booking ∙ same.end in
      let k = same_at base d rows channels assigned bookings set carries h x i lt (inside' i lt) in
      record {
        reference = k.reference;
        channel = refl;
        number = ap (λ (b : Row). b.number) f.booking ∙ same.number;
        inward = k.inward;
        start = elim same.start [
          | inl whole ↦ inl (ap (λ (b : Row). b.start) f.booking ∙ whole)
          | inr waits ↦ inr (ap (λ (b : Row). b.start) f.booking ∙ waits.1, waits.2)
        ];
        end = elim (ends_over t' e e.standing (goes_at base d rows channels assigned bookings set carries h x i lt) fits) [
          | inl cleared ↦ inl cleared
          | inr later ↦ inr (whole_end t' e.booking.end later ∙ ap (λ k. k + t') (sym ends))
        ];
        timed = timed_over t' e e.standing fits;
      }

  pub calls_over : open_calls now'.entries ≡ map (earlier_by t') (open_calls d.entries)
  calls_over = over_calls t' base left' (entries_from 1 rows assigned) (let le : length left' ≤ length rows = x.longer in omega (arith, le, opening_size 1 rows assigned)) opening_idle ∙ ap (map (earlier_by t')) (left_calls t' d.entries)

  pub unnoticed : IsUnnoticed base d rows assigned
  unnoticed = record {
    free = free_over;
    back = back_over (is_back d);
    each = λ i lt. subst (λ (n : Entry). LivesOn t' (on_channel_of n (entry_at left' i)) n (entry_at left' i).standing) (sym (is_at i lt)) (each_goes i lt);
    channel = λ i lt lives. ap (λ (n : Entry). n.channel) (is_at i lt) ∙ live_on base d rows channels assigned bookings set carries h x i lt lives;
    standing = λ i lt. ap (λ (n : Entry). n.standing) (is_at i lt);
    next = λ link i lt. (
        let n = seat_at base d rows channels assigned bookings set carries h x i in
        let e = on_channel_of n (entry_at left' i) in
        let g = each_goes i lt in
        ap (second_in link now') (is_at i lt)
        ∙ ap₂ (λ b f. second_by link n 1 b f n.standing) (back_over (is_back d)) (free_over n.channel)
        ∙ seconds_go t' 1 e n e.standing link (is_back d) (is_free d n.channel) (omega arith) g
        ∙ ap (λ m. moved_over t' (second_by link e m (is_back d) (is_free d n.channel) e.standing)) (let q : 1 + t' ≡ t' + 1 = omega arith in q)
        ∙ sym (ap (λ (y : Entry). moved_over t' (second_in link d (on_channel_of y (entry_at left' i)))) (is_at i lt)));
  }

-- ---- the code

left_step : (t : ℕ) (es : List Entry) (i : ℕ) → i < length es → left_over t (drop i es) ≡ (if goes_over t (entry_at es i) then entry_at es i ∷ left_over t (drop (suc i) es) else left_over t (drop (suc i) es))
left_step t [] i lt = absurd (omega (arith, lt))
left_step t (e ∷ es) zero lt = refl
left_step t (e ∷ es) (suc i) lt = left_step t es i (omega (arith, lt))

then_rest : (xs ys : List Entry) (y : Entry) → (xs ++ y ∷ []) ++ ys ≡ xs ++ y ∷ ys
then_rest [] ys y = refl
then_rest (x ∷ xs) ys y = ap (λ zs. x ∷ zs) (then_rest xs ys y)

next_is : (i : ℕ) → suc i ≡ i + 1
next_is i = omega arith

pub one_left : (t : ℕ) (es kept now : List Entry) (i : ℕ) (e : Entry) → i < length es → e ≡ entry_at es i → goes_over t e ≡ true → now ≡ kept ++ e ∷ [] → kept ++ left_over t (drop i es) ≡ left_over t es → now ++ left_over t (drop (i + 1) es) ≡ left_over t es
one_left t es kept now i e lt at goes is h =
    ap (λ xs. xs ++ left_over t (drop (i + 1) es)) is
    ∙ then_rest kept (left_over t (drop (i + 1) es)) e
    ∙ ap (λ n. kept ++ e ∷ left_over t (drop n es)) (sym (next_is i))
    ∙ ap (λ xs. kept ++ xs) (ap (λ y. y ∷ left_over t (drop (suc i) es)) at ∙ sym (ap (λ b. if b then entry_at es i ∷ left_over t (drop (suc i) es) else left_over t (drop (suc i) es)) (ap (goes_over t) (sym at) ∙ goes)) ∙ sym (left_step t es i lt))
    ∙ h

pub one_over : (t : ℕ) (es kept : List Entry) (i : ℕ) (e : Entry) → i < length es → e ≡ entry_at es i → goes_over t e ≡ false → kept ++ left_over t (drop i es) ≡ left_over t es → kept ++ left_over t (drop (i + 1) es) ≡ left_over t es
one_over t es kept i e lt at over h =
    ap (λ n. kept ++ left_over t (drop n es)) (sym (next_is i))
    ∙ ap (λ xs. kept ++ xs) (sym (ap (λ b. if b then entry_at es i ∷ left_over t (drop (suc i) es) else left_over t (drop (suc i) es)) (ap (goes_over t) (sym at) ∙ over)) ∙ sym (left_step t es i lt))
    ∙ h

-- ---- what is put over the bookings of the new day

pub partly_size : (t base k : ℕ) (es ns : List Entry) → length (partly_over t base k es ns) ≡ length ns
partly_size t base zero es ns = refl
partly_size t base (suc k) es [] = refl
partly_size t base (suc k) [] (n ∷ ns) = ap suc (partly_size t base k [] ns)
partly_size t base (suc k) (e ∷ es) (n ∷ ns) = ap suc (partly_size t base k es ns)

pub partly_all : (t base k : ℕ) (es ns : List Entry) → length ns ≤ k → partly_over t base k es ns ≡ all_over t base es ns
partly_all t base zero es [] le = refl
partly_all t base zero es (n ∷ ns) le = absurd (omega (arith, le))
partly_all t base (suc k) es [] le = refl
partly_all t base (suc k) [] (n ∷ ns) le = ap (λ xs. seat_new base n ∷ xs) (partly_all t base k [] ns (omega (arith, le)))
partly_all t base (suc k) (e ∷ es) (n ∷ ns) le = ap (λ xs. seat_over t e n ∷ xs) (partly_all t base k es ns (omega (arith, le)))

pub partly_at : (t base k : ℕ) (es ns : List Entry) → entry_at (partly_over t base k es ns) k ≡ entry_at ns k
partly_at t base zero es ns = refl
partly_at t base (suc k) es [] = refl
partly_at t base (suc k) [] (n ∷ ns) = partly_at t base k [] ns
partly_at t base (suc k) (e ∷ es) (n ∷ ns) = partly_at t base k es ns

partly_old : (t base k : ℕ) (es ns : List Entry) → k < length es → k < length ns → slice_set (partly_over t base k es ns) k (seat_over t (entry_at es k) (entry_at ns k)) ≡ partly_over t base (suc k) es ns
partly_old t base k es [] old lt = absurd (omega (arith, lt))
partly_old t base k [] (n ∷ ns) old lt = absurd (omega (arith, old))
partly_old t base zero (e ∷ es) (n ∷ ns) old lt = refl
partly_old t base (suc k) (e ∷ es) (n ∷ ns) old lt = ap (λ xs. seat_over t e n ∷ xs) (partly_old t base k es ns (omega (arith, old)) (omega (arith, lt)))

partly_new : (t base k : ℕ) (es ns : List Entry) → length es ≤ k → k < length ns → slice_set (partly_over t base k es ns) k (seat_new base (entry_at ns k)) ≡ partly_over t base (suc k) es ns
partly_new t base k es [] new lt = absurd (omega (arith, lt))
partly_new t base zero (e ∷ es) (n ∷ ns) new lt = absurd (omega (arith, new))
partly_new t base zero [] (n ∷ ns) new lt = refl
partly_new t base (suc k) [] (n ∷ ns) new lt = ap (λ xs. seat_new base n ∷ xs) (partly_new t base k [] ns (omega arith) (omega (arith, lt)))
partly_new t base (suc k) (e ∷ es) (n ∷ ns) new lt = ap (λ xs. seat_over t e n ∷ xs) (partly_new t base k es ns (omega (arith, new)) (omega (arith, lt)))

pub puts_old : (t base k : ℕ) (es ns now : List Entry) (e n : Entry) → k < length es → k < length ns → e ≡ entry_at es k → n ≡ entry_at now k → now ≡ partly_over t base k es ns → slice_set now k (seat_over t e n) ≡ partly_over t base (k + 1) es ns
puts_old t base k es ns now e n old lt here there is =
    ap₂ (λ x y. slice_set now k (seat_over t x y)) here (there ∙ ap (λ xs. entry_at xs k) is ∙ partly_at t base k es ns)
    ∙ ap (λ xs. slice_set xs k (seat_over t (entry_at es k) (entry_at ns k))) is
    ∙ partly_old t base k es ns old lt
    ∙ ap (λ m. partly_over t base m es ns) (next_is k)

pub puts_new : (t base k : ℕ) (es ns now : List Entry) (n m : Entry) → length es ≤ k → k < length ns → n ≡ entry_at now k → m ≡ entry_at now k → now ≡ partly_over t base k es ns → slice_set now k (record m { reference = base + n.row }) ≡ partly_over t base (k + 1) es ns
puts_new t base k es ns now n m new lt here there is =
    let at = ap (λ xs. entry_at xs k) is ∙ partly_at t base k es ns in
    ap₂ (λ (x : Entry) (y : Entry). slice_set now k (record x { reference = base + y.row })) (there ∙ at) (here ∙ at)
    ∙ ap (λ xs. slice_set xs k (seat_new base (entry_at ns k))) is
    ∙ partly_new t base k es ns new lt
    ∙ ap (λ x. partly_over t base x es ns) (next_is k)

pub handed_day : (base : ℕ) (d : Day) (rows : List Row) (assigned : List (Option ℕ)) (l len m : ℕ) (items now es kept seen new : List Entry) (ms : List Bool) → l ≡ (if is_back d then 1 else 0) → items ≡ entries_from 1 rows assigned → now ≡ items → es ≡ d.entries → kept ≡ left_over m es → seen ≡ kept → m ≡ d.moment → new ≡ all_over m base seen now → len ≡ length items → ms ≡ d.maintenance
    → day_of 0 l (take len (new ++ drop (length new) items)) ms ≡ handed_over base rows assigned d
handed_day base d rows assigned l len m items now es kept seen new ms back opening same old left_is seen_is at is count marks =
    let size : length new ≡ length items = ap length is ∙ over_size m base seen now ∙ ap length same in
    let which : seen ≡ left_over d.moment d.entries = seen_is ∙ left_is ∙ ap₂ left_over at old in
    let entries : take len (new ++ drop (length new) items) ≡ all_over d.moment base (left_over d.moment d.entries) (entries_from 1 rows assigned) =
    refilled len new items size count ∙ is ∙ ap₂ (λ xs ys. all_over m base xs ys) which (same ∙ opening) ∙ ap (λ k. all_over k base (left_over d.moment d.entries) (entries_from 1 rows assigned)) at in
    ap₂ (λ u xs. day_of 0 u xs ms) back entries ∙ ap (λ zs. day_of 0 (if is_back d then 1 else 0) (all_over d.moment base (left_over d.moment d.entries) (entries_from 1 rows assigned)) zs) marks

-- what is tested
pub ready : (base t : ℕ) (d : Day) (rows : List Row) (assigned : List (Option ℕ)) (es : List Entry) → es ≡ left_over d.moment d.entries → t ≡ d.moment → AreReady base t es rows assigned ↔ IsHandedOver base d rows assigned
ready base t d rows assigned es is at = (
  λ r. (let p = subst₂ (λ xs m. AreReady base m xs rows assigned) is at r in record { limit = p.0; longer = p.1.0; first = p.1.1; apart = p.2 }),
  λ h. subst₂ (λ xs m. AreReady base m xs rows assigned) (sym is) (sym at) (h.limit, (h.longer, h.first), h.apart),
)
