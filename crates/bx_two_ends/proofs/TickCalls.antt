-- The exchange's tick in a turn, where all its live calls are Active: what it says, and what stands after it.
use Rattle.std.proofs.Common.{◌≡◌, ℕ, zero, suc, ◌+◌, ◌<◌, Bool, true, false, List, [], ◌∷◌, length, Option, Some, None, refl, sym, ap, subst, ◌∙◌, arith, nat_le, if◌then◌else◌}
use Rattle.std.specs.List.{AllByRecursion, list_any}
use Rattle.std.proofs.lemmas.Bool.{false≢true, true≢false, and_from}
use Rattle.bx_channels.specs.ChannelNumbers.{IsChannel}
use Rattle.bx_channels.specs.Numbers.{IsNumber}
use Rattle.bx_base.specs.Bookings.{Row, AreBookings}
use Rattle.bx_q931.specs.declared.kind.Kind.TheVariants.{Disconnect}
use Rattle.bx_q931.specs.Outgoing.{Outgoing, IsCallReference, plain}
use Rattle.bx_calls.specs.NetTable.{first_offer, net_flag, net_second, net_disconnects, net_same, net_says_cause}
use Rattle.bx_calls.specs.Saying.{setup_of, with_cause}
use Rattle.bx_calls.specs.PlainCalls.{PlainNetCall}
use Rattle.bx_calls.specs.declared.net_state.Offer.TheVariants.{Asked}
use Rattle.bx_calls.specs.declared.net_state.NetOrigin.{NetOrigin}
use Rattle.bx_calls.specs.declared.net_state.NetOrigin.TheVariants.{Outward, Inward}
use Rattle.bx_calls.specs.declared.net_state.NetState.{NetState}
use Rattle.bx_calls.specs.declared.net_state.NetState.TheVariants as net
use Rattle.bx_calls.specs.declared.transition.Transition.{Transition}
use Rattle.bx_two_ends.specs.Answering.{is_ringing, is_clearing}
use Rattle.bx_day.specs.Day.{is_back, Day, entry_at, is_live, is_free}
use Rattle.bx_day.specs.Invariant.{StandingFits, CallFits, is_refused}
use Rattle.bx_day.specs.Law.{standing_at}
use Rattle.bx_day.specs.Moves.{follows}
use Rattle.bx_day.specs.Reading.{IsExchange, Seated}
use Rattle.bx_day.specs.Ticks.{second_at, second_in, waits, passed_in, tick, ticked}
use Rattle.bx_day.specs.declared.entry.Activity.{Activity}
use Rattle.bx_day.specs.declared.entry.Entry.{Entry}
use Rattle.bx_day.specs.declared.entry.Link.TheVariants.{Up}
use Rattle.bx_day.specs.declared.entry.Moved.{Moved}
use Rattle.bx_day.specs.declared.entry.Standing.{Standing}
use Rattle.bx_day.specs.declared.entry.Standing.TheVariants.{Refused, Unoffered, OnCall}
use Rattle.bx_day.proofs.Law.{RunFits, at_map_in}
use Rattle.bx_day.proofs.LiveTurns.{live_once}
use Rattle.bx_two_ends.proofs.Naming.{live_inside, own_at}
use Rattle.bx_day.proofs.Once.{each_at}
use Rattle.bx_calls.specs.Sending.{Sent}
use Rattle.bx_day.proofs.Passing.{tick_is, map_size}
use Rattle.bx_day.proofs.Said.{OfSaid, all_said}
use Rattle.bx_day.proofs.Second.{call_of}
use Rattle.bx_day.proofs.SlotLemmas.{holds_from}
use Rattle.bx_day.proofs.Tick.{by_cases, offers, second_refused, passed_fits}
use Rattle.bx_two_ends.proofs.Turning.{fits_at}
use Rattle.bx_two_ends.proofs.Delivery.{Sendable}
use Rattle.bx_two_ends.proofs.ExchangeTicks.{all_from, is_sent}
use Rattle.bx_two_ends.proofs.FarTurns.{IsCalledDay, channel_of}
use Rattle.bx_two_ends.proofs.FarCalled.{ToFar, Sets, Ends, ends_as, ring_live, clear_live}
use Rattle.bx_two_ends.proofs.History.{sets_up, IsIn, is_from_beginner, from_beginner}
use Rattle.bx_two_ends.proofs.MessageLimits.{setup_ok}

-- ---- standings of outward calls

-- whose user was not asked
abbrev pub PresentIn : NetState → Type 0
PresentIn (net.CallPresent Asked due) = ⊥
PresentIn (net.CallPresent offer due) = Unit {0}
PresentIn _ = ⊥

abbrev pub ActiveIn : NetState → Type 0
ActiveIn net.Active = Unit {0}
ActiveIn _ = ⊥

abbrev pub IndicatedIn : NetState → Type 0
IndicatedIn (net.DisconnectIndication cause due) = Unit {0}
IndicatedIn _ = ⊥

-- the live call of booking i, which the exchange began, in such a state
abbrev pub OutwardIn : (NetState → Type 0) → ℕ → Standing → Type 0
OutwardIn P i (OnCall c a) = P c.state × ((c.reference ≡ suc i) × (net_flag c.origin ≡ false))
OutwardIn P i _ = ⊥

-- ---- what a booking says at a tick

pub data SaysAt (ch i : ℕ) (s : Standing) (o : Outgoing) : Type 0 where
  SetsAt : (number : List ℕ) → is_ringing s ≡ true → o ≡ setup_of (suc i) ch number → SaysAt ch i s o
  EndsAt : is_clearing s ≡ true → o.reference ≡ suc i → o.flag ≡ false → o.kind ≡ Disconnect → SaysAt ch i s o

abbrev pub HasSaid : (Outgoing → Bool) → Option Outgoing → Type 0
HasSaid p None = ⊥
HasSaid p (Some o) = p o ≡ true

-- how a live one stands after it
pub data StandsAt (i : ℕ) (was : Bool) (s : Standing) : Type 0 where
  Idle : is_live s ≡ false → was ≡ false → StandsAt i was s
  Talks : OutwardIn ActiveIn i s → was ≡ true → StandsAt i was s
  Rings : OutwardIn PresentIn i s → was ≡ false → StandsAt i was s
  Ended : OutwardIn IndicatedIn i s → was ≡ true → StandsAt i was s

pub record MovesAt (ch i : ℕ) (was : Bool) (m : Moved) : Type 0 where
  pub said : OfSaid (λ o. SaysAt ch i m.standing o × Sendable o) m.said
  pub sets : is_ringing m.standing ≡ true → HasSaid (sets_up (suc i)) m.said
  pub ends : is_clearing m.standing ≡ true → HasSaid (ends_as (suc i)) m.said
  pub stands : StandsAt i was m.standing

by_move : (b : Bool) (ch i : ℕ) (was : Bool) (a : Activity) (t : ℕ) (x y : Transition PlainNetCall) → MovesAt ch i was (follows a t x) → MovesAt ch i was (follows a t y) → MovesAt ch i was (follows a t (if b then x else y))
by_move true ch i was a t x y f g = f
by_move false ch i was a t x y f g = g

cause_is_ok : (r : ℕ) → IsCallReference r → Sendable (with_cause 2 16 (plain r false Disconnect))
cause_is_ok r h = record { out = record { reference = h; kind = tt; cause = (omega arith, omega arith); state = tt }; channel = tt; called = tt }

first_present : (back : Bool) (due : ℕ) → PresentIn (net.CallPresent (first_offer back) due)
first_present true due = tt
first_present false due = tt

waits_moves : (i t : ℕ) (e : Entry) (back free : Bool) → e.reference ≡ suc i → IsCallReference e.reference → IsChannel e.channel → IsNumber e.booking.number → MovesAt e.channel i false (waits e t back free)
waits_moves i t e back free own rok cok nok = by_cases (offers e t free) _ _ (MovesAt e.channel i false)
    (λ _. record {
      said = (SetsAt e.booking.number refl (ap (λ r. setup_of r e.channel e.booking.number) own), setup_ok e.reference e.channel e.booking.number rok cok nok);
      sets = λ _. and_from (from_beginner (suc i) (setup_of e.reference e.channel e.booking.number)) true (is_from_beginner (suc i) (setup_of e.reference e.channel e.booking.number) own refl) refl;
      ends = λ q. absurd (false≢true q);
      stands = Rings (first_present back (t + 4), (own, refl)) refl;
    })
    (λ _. by_cases (nat_le e.booking.end t) _ _ (MovesAt e.channel i false)
    (λ _. record { said = tt; sets = λ q. absurd (false≢true q); ends = λ q. absurd (false≢true q); stands = Idle refl refl })
    (λ _. record { said = tt; sets = λ q. absurd (false≢true q); ends = λ q. absurd (false≢true q); stands = Idle refl refl }))

-- what is needed of a booking
pub record Booked (i : ℕ) (e : Entry) : Type 0 where
  pub own : e.reference ≡ suc i
  pub reference : IsCallReference e.reference
  pub channel : IsChannel e.channel
  pub number : IsNumber e.booking.number

talking_moves : (i t : ℕ) (e : Entry) (c : PlainNetCall) (a : Activity) → Booked i e → OutwardIn ActiveIn i (OnCall c a) → CallFits t e c a → MovesAt e.channel i true (follows a (t + 1) (net_second c (t + 1) e.booking.end))
talking_moves i t e c a k talks fits = at c.state c.origin talks.0 talks.1.1
  where
    at : (s : NetState) (o : NetOrigin) → ActiveIn s → net_flag o ≡ false → MovesAt e.channel i true (follows a (t + 1) (net_second (call_of c.reference c.channel o s) (t + 1) e.booking.end))
    at net.Active (Outward called) p q = go (nat_le e.booking.end (t + 1))
      where
        go : (b : Bool) → MovesAt e.channel i true (follows a (t + 1) (if b then net_disconnects (call_of c.reference c.channel (Outward called) net.Active) 16 (t + 1) else net_same (call_of c.reference c.channel (Outward called) net.Active) None))
        go true = record {
          said = (EndsAt refl talks.1.0 refl refl, cause_is_ok c.reference (subst IsCallReference (k.own ∙ sym talks.1.0) k.reference));
          sets = λ h. absurd (false≢true h);
          ends = λ _. and_from (from_beginner (suc i) (net_says_cause (call_of c.reference c.channel (Outward called) net.Active) Disconnect 16)) true (is_from_beginner (suc i) (net_says_cause (call_of c.reference c.channel (Outward called) net.Active) Disconnect 16) talks.1.0 refl) refl;
          stands = Ended (tt, (talks.1.0, refl)) refl;
        }
        go false = record { said = tt; sets = λ h. absurd (false≢true h); ends = λ h. absurd (false≢true h); stands = Talks (tt, (talks.1.0, refl)) refl }
    at net.Active Inward p q = absurd (true≢false q)
    at (net.CallPresent again due) o p q = absurd p
    at (net.IncomingCallProceeding due) o p q = absurd p
    at (net.CallReceived due) o p q = absurd p
    at net.OutgoingCallProceeding o p q = absurd p
    at (net.DisconnectIndication cause due) o p q = absurd p
    at (net.Enquiring asked due) o p q = absurd p
    at (net.ReleaseRequest again cause due) o p q = absurd p

-- any booking, where each live call is Active
pub booking_moves : (i t : ℕ) (e : Entry) (back free : Bool) (s : Standing) → (is_refused s ≡ false → Booked i e) → StandingFits t e s → (is_live s ≡ true → OutwardIn ActiveIn i s) → MovesAt e.channel i (is_live s) (second_at e (t + 1) back free s)
booking_moves i t e back free (OnCall c a) k fits talks = talking_moves i t e c a (k refl) (talks refl) fits
booking_moves i t e back free Unoffered k fits talks = waits_moves i (t + 1) e back free (k refl).own (k refl).reference (k refl).channel (k refl).number
booking_moves i t e back free s k fits talks = record { said = tt; sets = λ q. absurd (false≢true q); ends = λ q. absurd (false≢true q); stands = Idle refl refl }

-- ---- a day

pub record Talking (rows : List Row) (assigned : List (Option ℕ)) (d : Day) : Type 0 where
  pub bookings : AreBookings rows
  pub fits : RunFits rows assigned d
  pub size : length d.entries ≡ length rows
  pub exchange : IsExchange d
  pub talks : (i : ℕ) → is_live (standing_at d i) ≡ true → OutwardIn ActiveIn i (standing_at d i)

accepted_inside : (es : List Entry) (i : ℕ) → is_refused (entry_at es i).standing ≡ false → i < length es
accepted_inside [] i h = absurd (true≢false h)
accepted_inside (e ∷ es) zero h = omega arith
accepted_inside (e ∷ es) (suc i) h = let lt = accepted_inside es i h in omega (arith, lt)

booked_at : (rows : List Row) (assigned : List (Option ℕ)) (d : Day) (i : ℕ) → Talking rows assigned d → is_refused (standing_at d i) ≡ false → Booked i (entry_at d.entries i)
booked_at rows assigned d i h accepted =
    let lt : i < length d.entries = accepted_inside d.entries i accepted in
    let inside : i < length rows = subst (λ n. i < n) h.size lt in
    let seat = each_at Seated d.entries i lt h.exchange.seated in
    record {
      own = own_at rows assigned d i h.fits h.exchange lt;
      reference = seat.reference;
      channel = seat.channel accepted;
      number = subst (λ (r : Row). IsNumber r.number) (sym (h.fits.framed.0 i inside).booking) (h.bookings.each i inside).number;
    }

pub moves_at : (rows : List Row) (assigned : List (Option ℕ)) (d : Day) (i : ℕ) → Talking rows assigned d → MovesAt (entry_at d.entries i).channel i (is_live (standing_at d i)) (second_in Up d (entry_at d.entries i))
moves_at rows assigned d i h = booking_moves i d.moment (entry_at d.entries i) (is_back d) (is_free d (entry_at d.entries i).channel) (standing_at d i) (booked_at rows assigned d i h) (fits_at d i h.fits.day) (h.talks i)

pub same_standing : (d : Day) (i : ℕ) → standing_at (passed_in Up d).day i ≡ (second_in Up d (entry_at d.entries i)).standing
same_standing d i = ap (λ (e : Entry). e.standing) (at_map_in Up d d.entries i)

pub same_channel : (d : Day) (i : ℕ) → channel_of (passed_in Up d).day i ≡ channel_of d i
same_channel d i = ap (λ (e : Entry). e.channel) (at_map_in Up d d.entries i)

pub stands_at : (rows : List Row) (assigned : List (Option ℕ)) (d : Day) (i : ℕ) → Talking rows assigned d → StandsAt i (is_live (standing_at d i)) (standing_at (passed_in Up d).day i)
stands_at rows assigned d i h = subst (StandsAt i (is_live (standing_at d i))) (sym (same_standing d i)) (moves_at rows assigned d i h).stands

said_to : (d : Day) (i : ℕ) (said : Option Outgoing) → OfSaid (λ o. SaysAt (entry_at d.entries i).channel i (second_in Up d (entry_at d.entries i)).standing o × Sendable o) said → OfSaid (λ o. ToFar (passed_in Up d).day o × Sendable o) said
said_to d i None h = tt
said_to d i (Some o) h = (at h.0, h.1)
  where
    at : SaysAt (entry_at d.entries i).channel i (second_in Up d (entry_at d.entries i)).standing o → ToFar (passed_in Up d).day o
    at (SetsAt number r is) = Sets i number (subst (λ s. is_ringing s ≡ true) (sym (same_standing d i)) r) (is ∙ ap (λ ch. setup_of (suc i) ch number) (sym (same_channel d i)))
    at (EndsAt r ref bare kind) = Ends i (subst (λ s. is_clearing s ≡ true) (sym (same_standing d i)) r) ref bare kind

pub tick_to : (rows : List Row) (assigned : List (Option ℕ)) (d : Day) → Talking rows assigned d → AllByRecursion (λ (o : Outgoing). ToFar (passed_in Up d).day o × Sendable o) (tick d).sent
tick_to rows assigned d h = all_said (λ o. ToFar (passed_in Up d).day o × Sendable o) d (all_from (λ e. OfSaid (λ o. ToFar (passed_in Up d).day o × Sendable o) (second_in Up d e).said) d.entries (λ i. said_to d i (second_in Up d (entry_at d.entries i)).said (moves_at rows assigned d i h).said))

in_sent : (p : Outgoing → Bool) (xs : List Outgoing) (said : Option Outgoing) → OfSaid (IsIn xs) said → HasSaid p said → list_any p xs ≡ true
in_sent p xs None h k = absurd k
in_sent p xs (Some o) h k = h p k

live_accepted : (s : Standing) → is_live s ≡ true → is_refused s ≡ false
live_accepted Refused h = absurd (false≢true h)
live_accepted s h = refl

booked_live : (rows : List Row) (assigned : List (Option ℕ)) (d : Day) (i : ℕ) → Talking rows assigned d → is_live (standing_at (passed_in Up d).day i) ≡ true → Booked i (entry_at d.entries i)
booked_live rows assigned d i h live = booked_at rows assigned d i h (second_refused (d.moment + 1) (is_back d) (is_free d (entry_at d.entries i).channel) (entry_at d.entries i) (standing_at d i) (live_accepted (second_in Up d (entry_at d.entries i)).standing (sym (ap is_live (same_standing d i)) ∙ live)))

-- what stands after the tick was sent in it
pub sets_sent : (rows : List Row) (assigned : List (Option ℕ)) (d : Day) (i : ℕ) → d.moment < 300000 → Talking rows assigned d → is_ringing (standing_at (passed_in Up d).day i) ≡ true → list_any (sets_up (suc i)) (tick d).sent ≡ true
sets_sent rows assigned d i early h r = subst (λ (s : Sent Day). list_any (sets_up (suc i)) s.sent ≡ true) (sym (tick_is d early))
    (in_sent (sets_up (suc i)) (ticked d).sent (second_in Up d (entry_at d.entries i)).said (is_sent d i (booked_live rows assigned d i h (ring_live (standing_at (passed_in Up d).day i) r)).channel)
    ((moves_at rows assigned d i h).sets (sym (ap is_ringing (same_standing d i)) ∙ r)))

pub ends_sent : (rows : List Row) (assigned : List (Option ℕ)) (d : Day) (i : ℕ) → d.moment < 300000 → Talking rows assigned d → is_clearing (standing_at (passed_in Up d).day i) ≡ true → list_any (ends_as (suc i)) (tick d).sent ≡ true
ends_sent rows assigned d i early h r = subst (λ (s : Sent Day). list_any (ends_as (suc i)) s.sent ≡ true) (sym (tick_is d early))
    (in_sent (ends_as (suc i)) (ticked d).sent (second_in Up d (entry_at d.entries i)).said (is_sent d i (booked_live rows assigned d i h (clear_live (standing_at (passed_in Up d).day i) r)).channel)
    ((moves_at rows assigned d i h).ends (sym (ap is_clearing (same_standing d i)) ∙ r)))

pub called_day : (rows : List Row) (assigned : List (Option ℕ)) (d : Day) → Talking rows assigned d → IsCalledDay (passed_in Up d).day
called_day rows assigned d h =
    let c : Day = (passed_in Up d).day in
    record {
      apart = λ i j li lj same. live_once c.entries (channel_of c j) i j (passed_fits Up d h.fits.day).pairs (live_inside c.entries i li) (live_inside c.entries j lj) (holds_from (channel_of c j) (entry_at c.entries i) li same) (holds_from (channel_of c j) (entry_at c.entries j) lj refl);
      few = λ i li. (let lt = live_inside c.entries i li in omega (arith, lt, map_size Up d d.entries, h.exchange.rows));
      in_service = λ i li. subst IsChannel (sym (same_channel d i)) (booked_live rows assigned d i h li).channel;
    }
