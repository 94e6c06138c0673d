-- The exchange's seconds, channel by channel, where it alone begins calls: with a link what `NearTicks` says, without one what `near_outlasts` says.
use Rattle.bx_events.specs.declared.rules.Rules.TheVariants.{Three}
use Rattle.std.proofs.Common.{◌≡◌, ◌≢◌, ℕ, zero, suc, ◌+◌, ◌≤◌, ◌<◌, ◌==◌, ◌&&◌, ◌||◌, not, nat_le, Bool, true, false, List, [], ◌∷◌, ◌++◌, length, Option, Some, None, refl, sym, ap, subst, ◌∙◌, arith, if◌then◌else◌, inl, inr, ◌⊎◌}
use Rattle.std.proofs.lemmas.Bool.{false≢true, true≢false, and_parts, eq-eqb, eqb-true, eqb-false, ne_eqb, not-true, leb-true, cases_eq, false_from_ne_true}
use Rattle.std.proofs.lemmas.List.{append-nil}
use Rattle.std.specs.List.{AllByRecursion, flat_map, list_any}
use Rattle.bx_base.specs.Bookings.{Row, row_at}
use Rattle.bx_channels.specs.Numbers.{IsNumber}
use Rattle.bx_channels.specs.ChannelNumbers.{IsChannel}
use Rattle.bx_q931.specs.Outgoing.{Outgoing, IsCallReference}
use Rattle.bx_q931.specs.declared.kind.Kind.TheVariants.{Setup}
use Rattle.bx_calls.specs.NetTable.{net_is_clearing, net_offer_due, net_offered, net_offers, net_release_due, net_releases, net_second, net_timer, net_unlinked}
use Rattle.bx_calls.specs.Saying.{setup_of}
use Rattle.bx_calls.specs.Sending.{Sent, reply_list}
use Rattle.bx_calls.specs.Shared.{cons_some}
use Rattle.bx_calls.specs.declared.net_state.NetOrigin.{NetOrigin}
use Rattle.bx_calls.specs.declared.net_state.NetOrigin.TheVariants.{Outward, Inward}
use Rattle.bx_calls.specs.declared.net_state.NetState.{NetState}
use Rattle.bx_calls.specs.declared.net_state.NetState.TheVariants as net
use Rattle.bx_calls.specs.declared.net_state.Offer.{Offer}
use Rattle.bx_calls.specs.declared.net_state.Offer.TheVariants.{First, Second, Anew, PutOff, Unlinked, Asked}
use Rattle.bx_calls.specs.declared.times.Times.{Times}
use Rattle.bx_calls.specs.declared.times.Times.TheVariants.{NotYet, Once, Twice}
use Rattle.bx_calls.specs.declared.transition.Next.{Next}
use Rattle.bx_calls.specs.declared.transition.Next.TheVariants.{Live, Over, Broken}
use Rattle.bx_calls.specs.PlainCalls.{PlainNetCall}
use Rattle.bx_calls.specs.declared.transition.Transition.{Transition}
use Rattle.bx_events.specs.Events.{Tick}
use Rattle.bx_day.specs.Day.{Day, entry_at, every_channel, holds, is_back, is_free, is_live}
use Rattle.bx_day.specs.Invariant.{is_refused}
use Rattle.bx_day.specs.Law.{standing_at}
use Rattle.bx_day.specs.Moves.{follow, follows}
use Rattle.bx_day.specs.Outages.{without_link}
use Rattle.bx_day.specs.Reading.{Seated}
use Rattle.bx_day.specs.Ticks.{passed_in, said_in, second_at, second_in, tick, ticked, unlinked_at, waits}
use Rattle.bx_day.specs.declared.entry.Activity.{Activity}
use Rattle.bx_day.specs.declared.entry.Activity.TheVariants.{Never}
use Rattle.bx_day.specs.declared.entry.Entry.{Entry}
use Rattle.bx_day.specs.declared.entry.Link.{Link}
use Rattle.bx_day.specs.declared.entry.Link.TheVariants.{Up, Down}
use Rattle.bx_day.specs.declared.entry.Moved.{Moved}
use Rattle.bx_day.specs.declared.entry.Standing.{Standing}
use Rattle.bx_day.specs.declared.entry.Standing.TheVariants.{Unoffered, OnCall}
use Rattle.bx_day.proofs.Law.{RunFits, at_map_in, happens_fits, without_run}
use Rattle.bx_day.proofs.Once.{decide, each_at}
use Rattle.bx_day.proofs.Passing.{map_size, passed_stays, tick_is}
use Rattle.bx_day.proofs.Said.{OfSaid, all_over}
use Rattle.bx_day.proofs.Second.{call_of}
use Rattle.bx_day.proofs.SlotLemmas.{holds_from, holds_parts}
use Rattle.bx_day.proofs.Tick.{WasLive, Before, Offered, by_cases, free_held, in_refused, offers, offers_parts, runs_at, second_live}
use Rattle.bx_two_ends.proofs.OneChannel.{Left, NearTicks, left_as, messages_on, near_begun, near_outlasts, near_stepped}
use Rattle.bx_two_ends.proofs.Calm.{after_standing, marks_kept, without_is}
use Rattle.bx_two_ends.proofs.Carrying.{whole_unlinked}
use Rattle.bx_two_ends.proofs.ChannelMessages.{IsToFar, on_all, on_joined, on_none}
use Rattle.bx_two_ends.proofs.ChannelStates.{IsUnbrokenNear}
use Rattle.bx_two_ends.proofs.ExchangeTicks.{every_has}
use Rattle.bx_two_ends.proofs.Delivery.{Sendable}
use Rattle.bx_two_ends.proofs.ExchangeLimits.{CallWithin, ExchangeWithin, StandingWithin, tick_within}
use Rattle.bx_two_ends.proofs.History.{all_map, is_setup_kind, said_both, said_map}
use Rattle.bx_two_ends.proofs.MessageLimits.{second_ok, setup_ok}
use Rattle.bx_two_ends.proofs.NearChannel.{IsOutward, LiveAt, NearFits, NearIs, call_at, chan_of, ends_of, follow_outward, follow_said, followed, goes_keeps, idle_outward, live_at, one_live}
use Rattle.bx_two_ends.proofs.Naming.{live_inside, own_at}
use Rattle.bx_two_ends.proofs.NetworkRows.{Speaks, second_goes, second_speaks, unlinked_goes}
use Rattle.bx_two_ends.proofs.Outages.{without_within}
use Rattle.bx_two_ends.proofs.Outward.{Seat, Seats}
use Rattle.bx_two_ends.proofs.Turning.{held_at}

-- ---- bookings of the plan

accepted_inside : (es : List Entry) (i : ℕ) → is_refused (entry_at es i).standing ≡ false → i < length es
accepted_inside [] i h = absurd (true≢false h)
accepted_inside (e ∷ es) zero h = omega arith
accepted_inside (e ∷ es) (suc i) h = let lt = accepted_inside es i h in omega (arith, lt)

pub near_seats : (rows : List Row) (assigned : List (Option ℕ)) (t : ℕ) (d : Day) → NearFits rows assigned t d → Seats assigned d.entries
near_seats rows assigned t d h i accepted =
    let lt : i < length d.entries = accepted_inside d.entries i accepted in
    let inside : i < length rows = subst (λ n. i < n) h.size lt in
    let seat = each_at Seated d.entries i lt h.exchange.seated in
    let few : length d.entries ≤ 16000 = h.exchange.rows in
    let frame = h.fits.framed.0 i inside in
    record {
      reference = own_at rows assigned d i h.fits h.exchange lt;
      few = omega (arith, few, lt);
      channel = frame.channel;
      in_service = seat.channel accepted;
      number = subst (λ (r : Row). IsNumber r.number) (sym frame.booking) (h.bookings.each i inside).number;
    }

-- at its own moment
now_fits : (rows : List Row) (assigned : List (Option ℕ)) (t : ℕ) (d : Day) → NearFits rows assigned t d → NearFits rows assigned d.moment d
now_fits rows assigned t d h = record { bookings = h.bookings; fits = h.fits; size = h.size; exchange = h.exchange; clean = h.clean; moment = refl; outward = h.outward; within = h.within }

after_channel : (link : Link) (d : Day) (i : ℕ) → (entry_at (passed_in link d).day.entries i).channel ≡ (entry_at d.entries i).channel
after_channel link d i = ap (λ (e : Entry). e.channel) (at_map_in link d d.entries i)

-- the end of a live booking
end_at : (rows : List Row) (assigned : List (Option ℕ)) (d : Day) (i : ℕ) (c : PlainNetCall) → LiveAt rows assigned d i c → (entry_at d.entries i).booking.end ≡ ends_of rows c.reference
end_at rows assigned d i c l = ap (λ (r : Row). r.end) l.booking ∙ sym (ap (ends_of rows) l.reference)

-- ---- a second without a link

-- nothing begins
never_begins : (t : ℕ) (free : Bool) (e : Entry) → free ≡ false → is_live e.standing ≡ false → WasLive t free e → ⊥
never_begins t free e taken idle (Before live) = true≢false (sym live ∙ idle)
never_begins t free e taken idle (Offered accepted runs f) = true≢false (sym f ∙ taken)

unlinked_live : (e : Entry) (t : ℕ) (s : Standing) → is_live (unlinked_at Three e t s).standing ≡ true → is_live s ≡ true
unlinked_live e t (OnCall c a) live = refl
unlinked_live e t Unoffered live = absurd (never_begins t false (record e { standing = Unoffered }) refl refl (second_live t false false e Unoffered live))
unlinked_live e t s live = live

still_waits : (e : Entry) (t : ℕ) → t < e.booking.end → (waits e t false false).standing ≡ Unoffered
still_waits e t early = by_cases (offers e t false) _ _ (λ (m : Moved). m.standing ≡ Unoffered)
    (λ offered. absurd (false≢true (offers_parts e t false offered).2))
    (λ _. by_cases (nat_le e.booking.end t) _ _ (λ (m : Moved). m.standing ≡ Unoffered) (λ over. let le : e.booking.end ≤ t = leb-true e.booking.end t over in absurd (omega (arith, le, early))) (λ _. refl))

unlinked_outward : (i t : ℕ) (e : Entry) (s : Standing) → IsOutward i s → StandingWithin s → IsOutward i (unlinked_at Three e t s).standing
unlinked_outward i t e (OnCall c a) out w =
    let step : Transition PlainNetCall = net_unlinked Three 1 c t e.booking.end in
    (follow_outward i a t step.reply step.next (goes_keeps i c c.state false step.reply step.next out w (unlinked_goes Three c.reference c.channel c.origin t e.booking.end c.state))).0
unlinked_outward i t e Unoffered out w = idle_outward i (unlinked_at Three e t Unoffered).standing (false_from_ne_true (is_live (unlinked_at Three e t Unoffered).standing) (λ live. false≢true (unlinked_live e t Unoffered live)))
unlinked_outward i t e s out w = out

pub record NearUnlinked (rows : List Row) (assigned : List (Option ℕ)) (t : ℕ) (d x : Day) : Type 0 where
  pub fits : NearFits rows assigned (t + 1) x
  pub here : (k : ℕ) (v : Option PlainNetCall) → NearIs d k v → NearIs x k (near_outlasts (ends_of rows) (t + 1) v)
  pub waits : (j : ℕ) → j < length rows → standing_at d j ≡ Unoffered → t + 1 < (row_at rows j).end → standing_at x j ≡ Unoffered
  pub back : is_back x ≡ true
  pub channels : (j : ℕ) → (entry_at x.entries j).channel ≡ (entry_at d.entries j).channel

unlinked_now : (rows : List Row) (assigned : List (Option ℕ)) (d : Day) → d.moment < 300000 → NearFits rows assigned d.moment d → NearUnlinked rows assigned d.moment d (passed_in (Down Three) d).day
unlinked_now rows assigned d early h = record {
  fits = record {
    bookings = h.bookings;
    fits = subst (RunFits rows assigned) (without_is d early) (without_run Three rows assigned d h.fits);
    size = map_size (Down Three) d d.entries ∙ h.size;
    exchange = passed_stays (Down Three) d early h.exchange;
    clean = marks_kept (Down Three) d (λ j. let e = entry_at d.entries j in whole_unlinked (d.moment + 1) e e.standing) h.clean;
    moment = refl;
    outward = λ i. subst (IsOutward i) (sym (after_standing (Down Three) d i)) (unlinked_outward i (d.moment + 1) (entry_at d.entries i) (standing_at d i) (h.outward i) (h.within i));
    within = subst ExchangeWithin (without_is d early) (without_within assigned d (near_seats rows assigned d.moment d h) h.within);
  };
  here = here;
  waits = λ j lt is later.
      (let e : Entry = entry_at d.entries j in
      let ends : (row_at rows j).end ≡ e.booking.end = sym (ap (λ (r : Row). r.end) (h.fits.framed.0 j lt).booking) in
      after_standing (Down Three) d j ∙ ap (λ s. (unlinked_at Three e (d.moment + 1) s).standing) is ∙ still_waits e (d.moment + 1) (subst (λ n. d.moment + 1 < n) ends later));
  back = eq-eqb (d.moment + 2) (d.moment + 1 + 1) (omega arith);
  channels = λ j. after_channel (Down Three) d j;
}
  where
    was : (j : ℕ) → is_live (standing_at (passed_in (Down Three) d).day j) ≡ true → is_live (standing_at d j) ≡ true
    was j live = unlinked_live (entry_at d.entries j) (d.moment + 1) (standing_at d j) (sym (ap is_live (after_standing (Down Three) d j)) ∙ live)

    here : (k : ℕ) (v : Option PlainNetCall) → NearIs d k v → NearIs (passed_in (Down Three) d).day k (near_outlasts (ends_of rows) (d.moment + 1) v)
    here k None near = λ j live on. near j (was j live) (sym (after_channel (Down Three) d j) ∙ on)
    here k (Some c) near =
        let i : ℕ = near.0 in
        let e : Entry = entry_at d.entries i in
        let l : LiveAt rows assigned d i c = live_at rows assigned d.moment d i c near.1 h near.2 in
        let step : Transition PlainNetCall = net_unlinked Three 1 c (d.moment + 1) (ends_of rows c.reference) in
        followed (passed_in (Down Three) d).day k i near.1 (d.moment + 1) step.reply step.next
        (after_standing (Down Three) d i ∙ ap (λ s. (unlinked_at Three e (d.moment + 1) s).standing) near.2 ∙ ap (λ n. (follows near.1 (d.moment + 1) (net_unlinked Three 1 c (d.moment + 1) n)).standing) (end_at rows assigned d i c l))
        (after_channel (Down Three) d i ∙ near.3)
        (λ j other live there. other (one_live rows assigned d.moment d k j i h (was j live) l.live (sym (after_channel (Down Three) d j) ∙ there) near.3))

pub near_unlinked : (rows : List Row) (assigned : List (Option ℕ)) (t : ℕ) (d : Day) → NearFits rows assigned t d → t < 300000 → NearUnlinked rows assigned t d (without_link d)
near_unlinked rows assigned t d h early =
    let now : d.moment < 300000 = subst (λ n. n < 300000) (sym h.moment) early in
    subst (NearUnlinked rows assigned t d) (sym (without_is d now)) (subst (λ n. NearUnlinked rows assigned n d (passed_in (Down Three) d).day) h.moment (unlinked_now rows assigned d now (now_fits rows assigned t d h)))

-- ---- what a call says at a tick

-- a SETUP of a call is the one that begins it
abbrev SetsUp : ℕ → ℕ → Outgoing → Type 0
SetsUp r ch out = out.kind ≡ Setup → (number : List ℕ) × (out ≡ setup_of r ch number)

no_setup : (r ch : ℕ) (out : Outgoing) → is_setup_kind out.kind ≡ false → SetsUp r ch out
no_setup r ch out h = λ is. absurd (true≢false (sym (ap is_setup_kind is) ∙ h))

either_sets : (r ch : ℕ) (b : Bool) (x y : Transition PlainNetCall) → OfSaid (SetsUp r ch) x.reply → OfSaid (SetsUp r ch) y.reply → OfSaid (SetsUp r ch) (if b then x else y).reply
either_sets r ch true x y f g = f
either_sets r ch false x y f g = g

offers_sets : (r ch : ℕ) (o : NetOrigin) (t : ℕ) (offer other : Offer) (due : ℕ) → OfSaid (SetsUp r ch) (net_offers (call_of r ch o (net.CallPresent offer due)) other t).reply
offers_sets r ch (Outward called) t offer other due = λ is. (called, refl)
offers_sets r ch Inward t offer other due = tt

offer_sets : (r ch : ℕ) (o : NetOrigin) (t : ℕ) (offer : Offer) (due : ℕ) → OfSaid (SetsUp r ch) (net_offer_due (call_of r ch o (net.CallPresent offer due)) t offer).reply
offer_sets r ch o t First due = offers_sets r ch o t First Second due
offer_sets r ch o t Second due = no_setup r ch _ refl
offer_sets r ch o t Anew due = offers_sets r ch o t Anew Second due
offer_sets r ch o t PutOff due = offers_sets r ch o t PutOff First due
offer_sets r ch o t Unlinked due = no_setup r ch _ refl
offer_sets r ch o t Asked due = offers_sets r ch o t Asked First due

releases_sets : (r ch : ℕ) (o : NetOrigin) (t : ℕ) (s : NetState) (sent : Times) (cause : Option ℕ) → OfSaid (SetsUp r ch) (net_releases (call_of r ch o s) sent cause t).reply
releases_sets r ch o t s sent None = no_setup r ch _ refl
releases_sets r ch o t s sent (Some cause) = no_setup r ch _ refl

release_sets : (r ch : ℕ) (o : NetOrigin) (t : ℕ) (sent : Times) (cause : Option ℕ) (due : ℕ) → OfSaid (SetsUp r ch) (net_release_due (call_of r ch o (net.ReleaseRequest sent cause due)) t sent cause).reply
release_sets r ch o t NotYet cause due = releases_sets r ch o t (net.ReleaseRequest NotYet cause due) Once cause
release_sets r ch o t Once cause due = releases_sets r ch o t (net.ReleaseRequest Once cause due) Twice cause
release_sets r ch o t Twice cause due = tt

timer_sets : (r ch : ℕ) (o : NetOrigin) (t : ℕ) (s : NetState) → OfSaid (SetsUp r ch) (net_timer (call_of r ch o s) t s).reply
timer_sets r ch o t net.OutgoingCallProceeding = no_setup r ch _ refl
timer_sets r ch o t (net.CallPresent offer due) = either_sets r ch (nat_le due t) _ _ (offer_sets r ch o t offer due) tt
timer_sets r ch o t (net.IncomingCallProceeding due) = either_sets r ch (nat_le due t) _ _ (no_setup r ch _ refl) tt
timer_sets r ch o t (net.CallReceived due) = either_sets r ch (nat_le due t) _ _ (no_setup r ch _ refl) tt
timer_sets r ch o t net.Active = tt
timer_sets r ch o t (net.Enquiring NotYet due) = either_sets r ch (nat_le due t) _ _ (no_setup r ch _ refl) tt
timer_sets r ch o t (net.Enquiring Once due) = either_sets r ch (nat_le due t) _ _ (no_setup r ch _ refl) tt
timer_sets r ch o t (net.Enquiring Twice due) = either_sets r ch (nat_le due t) _ _ (no_setup r ch _ refl) tt
timer_sets r ch o t (net.DisconnectIndication cause due) = either_sets r ch (nat_le due t) _ _ (no_setup r ch _ refl) tt
timer_sets r ch o t (net.ReleaseRequest sent cause due) = either_sets r ch (nat_le due t) _ _ (release_sets r ch o t sent cause due) tt

second_sets : (r ch : ℕ) (o : NetOrigin) (t end : ℕ) (s : NetState) → OfSaid (SetsUp r ch) (net_second (call_of r ch o s) t end).reply
second_sets r ch o t end s = either_sets r ch (not (net_is_clearing s) && nat_le end t) _ _ (no_setup r ch _ refl) (timer_sets r ch o t s)

-- ---- what a booking does at a tick

-- one that is not live stays so and says nothing, or begins its call
data Rests (t : ℕ) (e : Entry) (back free : Bool) (m : Moved) : Type 0 where
  Quiet : is_live m.standing ≡ false → m.said ≡ None → Rests t e back free m
  Begins : free ≡ true → t < e.booking.end → m.standing ≡ OnCall (net_offered e.reference e.channel e.booking.number back t) Never → m.said ≡ Some (setup_of e.reference e.channel e.booking.number) → Rests t e back free m

waits_rests : (t : ℕ) (e : Entry) (back free : Bool) → Rests t e back free (waits e t back free)
waits_rests t e back free = by_cases (offers e t free) _ _ (Rests t e back free)
    (λ offered. (let p = offers_parts e t free offered in Begins p.2 (runs_at e.booking t p.0).1 refl refl))
    (λ _. by_cases (nat_le e.booking.end t) _ _ (Rests t e back free) (λ _. Quiet refl refl) (λ _. Quiet refl refl))

second_rests : (t : ℕ) (e : Entry) (back free : Bool) (s : Standing) → is_live s ≡ false → Rests t e back free (second_at e t back free s)
second_rests t e back free (OnCall c a) idle = absurd (true≢false idle)
second_rests t e back free Unoffered idle = waits_rests t e back free
second_rests t e back free s idle = Quiet idle refl

whole_waits : (t : ℕ) (e : Entry) (back free : Bool) → (waits e t back free).broken ≡ false
whole_waits t e back free = by_cases (offers e t free) _ _ (λ (m : Moved). m.broken ≡ false) (λ _. refl) (λ _. by_cases (nat_le e.booking.end t) _ _ (λ (m : Moved). m.broken ≡ false) (λ _. refl) (λ _. refl))

unbroken : (a : Activity) (t : ℕ) (said : Option Outgoing) (n : Next PlainNetCall) → IsUnbrokenNear n → (follow a t said n).broken ≡ false
unbroken a t said (Live c) h = refl
unbroken a t said Over h = refl
unbroken a t said Broken h = absurd h

whole_second : (t : ℕ) (e : Entry) (back free : Bool) (s : Standing) → ((c : PlainNetCall) (a : Activity) → s ≡ OnCall c a → IsUnbrokenNear (net_second c t e.booking.end).next) → (second_at e t back free s).broken ≡ false
whole_second t e back free (OnCall c a) h = unbroken a t (net_second c t e.booking.end).reply (net_second c t e.booking.end).next (h c a refl)
whole_second t e back free Unoffered h = whole_waits t e back free
whole_second t e back free s h = refl

waits_outward : (i t : ℕ) (e : Entry) (back free : Bool) → e.reference ≡ suc i → IsOutward i (waits e t back free).standing
waits_outward i t e back free own = by_cases (offers e t free) _ _ (λ (m : Moved). IsOutward i m.standing) (λ _. (own, refl)) (λ _. by_cases (nat_le e.booking.end t) _ _ (λ (m : Moved). IsOutward i m.standing) (λ _. tt) (λ _. tt))

second_outward : (i t : ℕ) (e : Entry) (back free : Bool) (s : Standing) → (is_refused s ≡ false → e.reference ≡ suc i) → IsOutward i s → StandingWithin s → IsOutward i (second_at e t back free s).standing
second_outward i t e back free (OnCall c a) own out w =
    let step : Transition PlainNetCall = net_second c t e.booking.end in
    (follow_outward i a t step.reply step.next (goes_keeps i c c.state false step.reply step.next out w (second_goes c.reference c.channel c.origin t e.booking.end c.state))).0
second_outward i t e back free Unoffered own out w = waits_outward i t e back free (own refl)
second_outward i t e back free s own out w = out

-- ---- what a tick says

-- what an entry says goes to the far end, and is of its channel
abbrev TellsOn : (ℕ → ℕ) → ℕ → Outgoing → Type 0
TellsOn chan ch o = IsToFar chan o × (chan o.reference ≡ ch)

call_tells : (chan : ℕ → ℕ) (i ch t end : ℕ) (c : PlainNetCall) → IsOutward i (OnCall c Never) → CallWithin c → c.channel ≡ ch → chan (suc i) ≡ ch → OfSaid (TellsOn chan ch) (net_second c t end).reply
call_tells chan i ch t end c out w on is =
    let said : Option Outgoing = (net_second c t end).reply in
    said_both Sendable (λ o. Speaks c.reference c.channel c.origin o × SetsUp c.reference c.channel o) (TellsOn chan ch)
    (λ o ok of.
    let place : chan o.reference ≡ ch = ap chan (of.0.reference ∙ out.0) ∙ is in (
      record {
        sendable = ok;
        flag = of.0.flag ∙ out.1;
        setup = λ kind. (let z = of.1 kind in (z.0, z.1 ∙ ap (λ r. setup_of r c.channel z.0) (sym of.0.reference) ∙ ap (λ n. setup_of o.reference n z.0) (on ∙ sym place)));
      },
      place,
    ))
    said
    (second_ok c.reference c.channel c.origin t end c.state w.reference w.channel w.number)
    (said_both (Speaks c.reference c.channel c.origin) (SetsUp c.reference c.channel) (λ o. Speaks c.reference c.channel c.origin o × SetsUp c.reference c.channel o) (λ o a b. (a, b)) said
    (second_speaks c.reference c.channel c.origin t end c.state) (second_sets c.reference c.channel c.origin t end c.state))

begins_tells : (chan : ℕ → ℕ) (i ch row : ℕ) (number : List ℕ) → row ≡ suc i → chan (suc i) ≡ ch → IsCallReference row → IsChannel ch → IsNumber number → TellsOn chan ch (setup_of row ch number)
begins_tells chan i ch row number is on r c n = (
  record { sendable = setup_ok row ch number r c n; flag = refl; setup = λ _. (number, ap (λ m. setup_of row m number) (sym (ap chan is ∙ on))) },
  ap chan is ∙ on,
)

entry_tells : (rows : List Row) (assigned : List (Option ℕ)) (d : Day) (i : ℕ) → NearFits rows assigned d.moment d → OfSaid (TellsOn (chan_of assigned) (entry_at d.entries i).channel) (second_in Up d (entry_at d.entries i)).said
entry_tells rows assigned d i h = decide (is_live (standing_at d i)) live idle
  where
    live : is_live (standing_at d i) ≡ true → OfSaid (TellsOn (chan_of assigned) (entry_at d.entries i).channel) (second_in Up d (entry_at d.entries i)).said
    live up =
        let z = call_at (standing_at d i) up in
        let l : LiveAt rows assigned d i z.0 = live_at rows assigned d.moment d i z.0 z.1 h z.2 in
        let step : Transition PlainNetCall = net_second z.0 (d.moment + 1) (entry_at d.entries i).booking.end in
        subst (λ s. OfSaid (TellsOn (chan_of assigned) (entry_at d.entries i).channel) (second_at (entry_at d.entries i) (d.moment + 1) (is_back d) (is_free d (entry_at d.entries i).channel) s).said) (sym z.2)
        (subst (λ x. OfSaid (TellsOn (chan_of assigned) (entry_at d.entries i).channel) x) (sym (follow_said z.1 (d.moment + 1) step.reply step.next))
        (call_tells (chan_of assigned) i (entry_at d.entries i).channel (d.moment + 1) (entry_at d.entries i).booking.end z.0 (l.reference, l.origin) l.within (l.on ∙ sym l.channel) (sym l.channel)))

    idle : is_live (standing_at d i) ≡ false → OfSaid (TellsOn (chan_of assigned) (entry_at d.entries i).channel) (second_in Up d (entry_at d.entries i)).said
    idle down = at (second_rests (d.moment + 1) (entry_at d.entries i) (is_back d) (is_free d (entry_at d.entries i).channel) (standing_at d i) down)
      where
        at : Rests (d.moment + 1) (entry_at d.entries i) (is_back d) (is_free d (entry_at d.entries i).channel) (second_in Up d (entry_at d.entries i)) → OfSaid (TellsOn (chan_of assigned) (entry_at d.entries i).channel) (second_in Up d (entry_at d.entries i)).said
        at (Quiet rests none) = subst (λ x. OfSaid (TellsOn (chan_of assigned) (entry_at d.entries i).channel) x) (sym none) tt
        at (Begins free early is said) =
            let accepted : is_refused (standing_at d i) ≡ false = in_refused Up (d.moment + 1) (is_back d) (is_free d (entry_at d.entries i).channel) (entry_at d.entries i) (standing_at d i) (ap is_refused is) in
            let s : Seat assigned i (entry_at d.entries i) = near_seats rows assigned d.moment d h i accepted in
            let r : IsCallReference (entry_at d.entries i).reference = (omega (arith, s.reference), omega (arith, s.reference, s.few)) in
            subst (λ x. OfSaid (TellsOn (chan_of assigned) (entry_at d.entries i).channel) x) (sym said)
            (begins_tells (chan_of assigned) i (entry_at d.entries i).channel (entry_at d.entries i).reference (entry_at d.entries i).booking.number s.reference (sym s.channel) r s.in_service s.number)

-- ---- what is said on a channel

all_entries : (P : Entry → Type 0) (es : List Entry) → ((i : ℕ) → P (entry_at es i)) → AllByRecursion P es
all_entries P [] h = tt
all_entries P (e ∷ es) h = (h 0, all_entries P es (λ i. h (suc i)))

-- all that is said on a channel is of it
one_more : (chan : ℕ → ℕ) (c ch : ℕ) (said : Option Outgoing) (rest : List Outgoing) → OfSaid (TellsOn chan ch) said → ch ≡ c → AllByRecursion (λ p. chan p.reference ≡ c) rest → AllByRecursion (λ p. chan p.reference ≡ c) (cons_some said rest)
one_more chan c ch None rest t on more = more
one_more chan c ch (Some o) rest t on more = (t.1 ∙ on, more)

all_of : (chan : ℕ → ℕ) (d : Day) (c : ℕ) (es : List Entry) → AllByRecursion (λ e. OfSaid (TellsOn chan e.channel) (second_in Up d e).said) es → AllByRecursion (λ p. chan p.reference ≡ c) (said_in Up d c es)
all_of chan d c [] h = tt
all_of chan d c (e ∷ es) h = by_cases (e.channel == c) _ _ (λ (os : List Outgoing). AllByRecursion (λ p. chan p.reference ≡ c) os)
    (λ on. one_more chan c e.channel (second_in Up d e).said (said_in Up d c es) h.0 (eqb-true e.channel c on) (all_of chan d c es h.1))
    (λ _. all_of chan d c es h.1)

or_false : (x y : Bool) → (x || y) ≡ false → (x ≡ false) × (y ≡ false)
or_false true y h = absurd (true≢false h)
or_false false y h = (refl, h)

-- where each list is of one channel, what is said on a channel is its list
on_lists_none : (chan : ℕ → ℕ) (k : ℕ) (f : ℕ → List Outgoing) (cs : List ℕ) → ((c : ℕ) → AllByRecursion (λ p. chan p.reference ≡ c) (f c)) → list_any (λ c. c == k) cs ≡ false → messages_on chan k (flat_map f cs) ≡ []
on_lists_none chan k f [] all h = refl
on_lists_none chan k f (c ∷ cs) all h =
    let p = or_false (c == k) (list_any (λ n. n == k) cs) h in
    on_joined chan k (f c) (flat_map f cs)
    ∙ ap (λ zs. zs ++ messages_on chan k (flat_map f cs)) (on_none chan k (f c) (all_map (λ q. chan q.reference ≡ c) (λ q. chan q.reference ≢ k) (λ q is there. eqb-false c k p.0 (sym is ∙ there)) (f c) (all c)))
    ∙ on_lists_none chan k f cs all p.1

abbrev are_once : List ℕ → Bool
are_once [] = true
are_once (c ∷ cs) = not (list_any (λ n. n == c) cs) && are_once cs

on_lists : (chan : ℕ → ℕ) (k : ℕ) (f : ℕ → List Outgoing) (cs : List ℕ) → ((c : ℕ) → AllByRecursion (λ p. chan p.reference ≡ c) (f c)) → are_once cs ≡ true → list_any (λ c. c == k) cs ≡ true → messages_on chan k (flat_map f cs) ≡ f k
on_lists chan k f [] all once h = absurd (false≢true h)
on_lists chan k f (c ∷ cs) all once h =
    let p = and_parts (not (list_any (λ n. n == c) cs)) (are_once cs) once in
    on_joined chan k (f c) (flat_map f cs) ∙ elim (cases_eq c k) [
      | inl same ↦
          ap (λ zs. zs ++ messages_on chan k (flat_map f cs)) (on_all chan k (f c) (all_map (λ q. chan q.reference ≡ c) (λ q. chan q.reference ≡ k) (λ q is. is ∙ same) (f c) (all c)))
          ∙ ap (λ zs. f c ++ zs) (on_lists_none chan k f cs all (subst (λ n. list_any (λ m. m == n) cs ≡ false) same (not-true (list_any (λ n. n == c) cs) p.0)))
          ∙ append-nil (f c)
          ∙ ap f same
      | inr other ↦
          ap (λ zs. zs ++ messages_on chan k (flat_map f cs)) (on_none chan k (f c) (all_map (λ q. chan q.reference ≡ c) (λ q. chan q.reference ≢ k) (λ q is there. other (sym is ∙ there)) (f c) (all c)))
          ∙ on_lists chan k f cs all p.1 (sym (ap (λ b. b || list_any (λ n. n == k) cs) (ne_eqb c k other)) ∙ h)
    ]

-- one booking of a channel says something, or none
none_says : (d : Day) (k : ℕ) (es : List Entry) → ((j : ℕ) → (entry_at es j).channel ≡ k → (second_in Up d (entry_at es j)).said ≡ None) → said_in Up d k es ≡ []
none_says d k [] h = refl
none_says d k (e ∷ es) h = by_cases (e.channel == k) _ _ (λ (os : List Outgoing). os ≡ [])
    (λ on. ap (λ x. cons_some x (said_in Up d k es)) (h 0 (eqb-true e.channel k on)) ∙ none_says d k es (λ j. h (suc j)))
    (λ _. none_says d k es (λ j. h (suc j)))

alone : (said : Option Outgoing) (rest : List Outgoing) → rest ≡ [] → cons_some said rest ≡ reply_list said
alone None rest h = h
alone (Some o) rest h = ap (λ zs. o ∷ zs) h

one_says : (d : Day) (k : ℕ) (es : List Entry) (i : ℕ) → i < length es → (entry_at es i).channel ≡ k → ((j : ℕ) → j ≢ i → (entry_at es j).channel ≡ k → (second_in Up d (entry_at es j)).said ≡ None) → said_in Up d k es ≡ reply_list (second_in Up d (entry_at es i)).said
one_says d k [] i lt on h = absurd (omega (arith, lt))
one_says d k (e ∷ es) zero lt on h =
    ap (λ b. if b then cons_some (second_in Up d e).said (said_in Up d k es) else said_in Up d k es) (eq-eqb e.channel k on)
    ∙ alone (second_in Up d e).said (said_in Up d k es) (none_says d k es (λ j. h (suc j) (λ q. omega (arith, q))))
one_says d k (e ∷ es) (suc i) lt on h =
    let rest = one_says d k es i (omega (arith, lt)) on (λ j other. h (suc j) (λ q. other (omega (arith, q)))) in
    by_cases (e.channel == k) _ _ (λ (os : List Outgoing). os ≡ reply_list (second_in Up d (entry_at es i)).said)
    (λ here. ap (λ x. cons_some x (said_in Up d k es)) (h 0 (λ q. omega (arith, q)) (eqb-true e.channel k here)) ∙ rest)
    (λ _. rest)

-- ---- a tick

-- what it leaves and says on channel k
pub record TickOn (rows : List Row) (assigned : List (Option ℕ)) (t : ℕ) (d : Day) (x : Sent Day) (k : ℕ) (v : Option PlainNetCall) : Type 0 where
  pub left : Left PlainNetCall
  pub ticks : NearTicks (ends_of rows) (is_back d) k (t + 1) v left
  pub near : NearIs x.day k left.call
  pub said : messages_on (chan_of assigned) k x.sent ≡ left.said

pub record NearTick (rows : List Row) (assigned : List (Option ℕ)) (t : ℕ) (d : Day) (x : Sent Day) : Type 0 where
  pub fits : NearFits rows assigned (t + 1) x.day
  pub here : (k : ℕ) (v : Option PlainNetCall) → IsChannel k → NearIs d k v → TickOn rows assigned t d x k v
  pub waits : (j : ℕ) → j < length rows → standing_at d j ≡ Unoffered → t + 1 < (row_at rows j).end → (standing_at x.day j ≡ Unoffered) ⊎ (is_live (standing_at x.day j) ≡ true)
  pub channels : (j : ℕ) → (entry_at x.day.entries j).channel ≡ (entry_at d.entries j).channel
  pub says : AllByRecursion (IsToFar (chan_of assigned)) x.sent

-- no call comes into maintenance
abbrev pub NeverBreaks : List Row → ℕ → Day → Type 0
NeverBreaks rows t d = (i : ℕ) (c : PlainNetCall) (a : Activity) → standing_at d i ≡ OnCall c a → IsUnbrokenNear (net_second c (t + 1) (ends_of rows c.reference)).next

tick_fits : (rows : List Row) (assigned : List (Option ℕ)) (d : Day) → d.moment < 300000 → NearFits rows assigned d.moment d → NeverBreaks rows d.moment d → NearFits rows assigned (d.moment + 1) (ticked d).day
tick_fits rows assigned d early h whole =
    let seats : Seats assigned d.entries = near_seats rows assigned d.moment d h in
    record {
      bookings = h.bookings;
      fits = subst (λ (s : Day). RunFits rows assigned s) (ap (λ s. s.day) (tick_is d early)) (happens_fits rows assigned d Tick h.fits);
      size = map_size Up d d.entries ∙ h.size;
      exchange = passed_stays Up d early h.exchange;
      clean = marks_kept Up d (λ j. whole_second (d.moment + 1) (entry_at d.entries j) (is_back d) (is_free d (entry_at d.entries j).channel) (standing_at d j)
          (λ c a is. subst (λ n. IsUnbrokenNear (net_second c (d.moment + 1) n).next) (sym (end_at rows assigned d j c (live_at rows assigned d.moment d j c a h is))) (whole j c a is))) h.clean;
      moment = refl;
      outward = λ i. subst (IsOutward i) (sym (after_standing Up d i)) (second_outward i (d.moment + 1) (entry_at d.entries i) (is_back d) (is_free d (entry_at d.entries i).channel) (standing_at d i) (λ accepted. (seats i accepted).reference) (h.outward i) (h.within i));
      within = subst (λ (s : Day). ExchangeWithin s) (ap (λ s. s.day) (tick_is d early)) (tick_within assigned d seats h.within);
    }

tells_all : (rows : List Row) (assigned : List (Option ℕ)) (d : Day) → NearFits rows assigned d.moment d → AllByRecursion (λ e. OfSaid (TellsOn (chan_of assigned) e.channel) (second_in Up d e).said) d.entries
tells_all rows assigned d h = all_entries (λ e. OfSaid (TellsOn (chan_of assigned) e.channel) (second_in Up d e).said) d.entries (λ i. entry_tells rows assigned d i h)

said_on_one : (rows : List Row) (assigned : List (Option ℕ)) (d : Day) (k : ℕ) → NearFits rows assigned d.moment d → IsChannel k → messages_on (chan_of assigned) k (ticked d).sent ≡ said_in Up d k d.entries
said_on_one rows assigned d k h ok = on_lists (chan_of assigned) k (λ c. said_in Up d c d.entries) every_channel (λ c. all_of (chan_of assigned) d c d.entries (tells_all rows assigned d h)) refl (every_has k ok)

-- booking j stays as it is, or is over, and says nothing
abbrev StaysQuiet : Day → ℕ → Type 0
StaysQuiet d j = (is_live (standing_at (ticked d).day j) ≡ false) × ((second_in Up d (entry_at d.entries j)).said ≡ None)

rests_at : (d : Day) (j : ℕ) → is_live (standing_at d j) ≡ false → Rests (d.moment + 1) (entry_at d.entries j) (is_back d) (is_free d (entry_at d.entries j).channel) (second_in Up d (entry_at d.entries j))
rests_at d j idle = second_rests (d.moment + 1) (entry_at d.entries j) (is_back d) (is_free d (entry_at d.entries j).channel) (standing_at d j) idle

-- where its channel is held, or another comes to hold it
quiet_taken : (d : Day) (k j : ℕ) → (entry_at d.entries j).channel ≡ k → is_free d k ≡ false → Rests (d.moment + 1) (entry_at d.entries j) (is_back d) (is_free d (entry_at d.entries j).channel) (second_in Up d (entry_at d.entries j)) → StaysQuiet d j
quiet_taken d k j on taken (Quiet idle none) = (ap is_live (after_standing Up d j) ∙ idle, none)
quiet_taken d k j on taken (Begins free early is said) = absurd (true≢false (sym free ∙ ap (is_free d) on ∙ taken))

quiet_idle : (d : Day) (j : ℕ) → is_live (standing_at (ticked d).day j) ≡ false → Rests (d.moment + 1) (entry_at d.entries j) (is_back d) (is_free d (entry_at d.entries j).channel) (second_in Up d (entry_at d.entries j)) → StaysQuiet d j
quiet_idle d j down (Quiet idle none) = (down, none)
quiet_idle d j down (Begins free early is said) = absurd (true≢false (sym (ap is_live (after_standing Up d j ∙ is)) ∙ down))

-- where a call is on the channel
tick_call : (rows : List Row) (assigned : List (Option ℕ)) (d : Day) (k : ℕ) (c : PlainNetCall) → NearFits rows assigned d.moment d → IsChannel k → NearIs d k (Some c) → TickOn rows assigned d.moment d (ticked d) k (Some c)
tick_call rows assigned d k c h ok near = record {
  left = near_stepped step;
  ticks = refl;
  near = followed (ticked d).day k near.0 near.1 (d.moment + 1) step.reply step.next (after_standing Up d near.0 ∙ ap (λ m. m.standing) mine) (after_channel Up d near.0 ∙ near.3)
      (λ j other live there. true≢false (sym live ∙ (still j other (sym (after_channel Up d j) ∙ there)).0));
  said = said_on_one rows assigned d k h ok ∙ one_says d k d.entries near.0 at.there near.3 (λ j other on. (still j other on).1) ∙ ap (λ m. reply_list m.said) mine ∙ ap reply_list (follow_said near.1 (d.moment + 1) step.reply step.next);
}
  where
    step : Transition PlainNetCall
    step = net_second c (d.moment + 1) (ends_of rows c.reference)

    at : LiveAt rows assigned d near.0 c
    at = live_at rows assigned d.moment d near.0 c near.1 h near.2

    mine : second_in Up d (entry_at d.entries near.0) ≡ follows near.1 (d.moment + 1) (net_second c (d.moment + 1) (ends_of rows c.reference))
    mine = ap (λ s. second_at (entry_at d.entries near.0) (d.moment + 1) (is_back d) (is_free d (entry_at d.entries near.0).channel) s) near.2
        ∙ ap (λ n. follows near.1 (d.moment + 1) (net_second c (d.moment + 1) n)) (end_at rows assigned d near.0 c at)

    taken : is_free d k ≡ false
    taken = false_from_ne_true (is_free d k) (λ f. free_held d k f (held_at d.entries k near.0 (holds_from k (entry_at d.entries near.0) at.live near.3)))

    still : (j : ℕ) → j ≢ near.0 → (entry_at d.entries j).channel ≡ k → StaysQuiet d j
    still j other on = quiet_taken d k j on taken (rests_at d j (false_from_ne_true (is_live (standing_at d j)) (λ up. other (one_live rows assigned d.moment d k j near.0 h up at.live on near.3))))

-- where none is
data Found (p : Entry → Bool) (es : List Entry) : Type 0 where
  One : (i : ℕ) → p (entry_at es i) ≡ true → Found p es
  NoOne : ((i : ℕ) → i < length es → p (entry_at es i) ≡ false) → Found p es

found_next : (p : Entry → Bool) (e : Entry) (es : List Entry) → p e ≡ false → Found p es → Found p (e ∷ es)
found_next p e es first (One i h) = One (suc i) h
found_next p e es first (NoOne f) = NoOne each
  where
    each : (i : ℕ) → i < length (e ∷ es) → p (entry_at (e ∷ es) i) ≡ false
    each zero lt = first
    each (suc i) lt = f i (omega (arith, lt))

find : (p : Entry → Bool) (es : List Entry) → Found p es
find p [] = NoOne (λ i lt. absurd (omega (arith, lt)))
find p (e ∷ es) = decide (p e) (λ h. One 0 h) (λ h. found_next p e es h (find p es))

tick_none : (rows : List Row) (assigned : List (Option ℕ)) (d : Day) (k : ℕ) → NearFits rows assigned d.moment d → NearFits rows assigned (d.moment + 1) (ticked d).day → IsChannel k → NearIs d k None → TickOn rows assigned d.moment d (ticked d) k None
tick_none rows assigned d k h after ok near = at (find (holds k) (ticked d).day.entries)
  where
    idle : (j : ℕ) → (entry_at d.entries j).channel ≡ k → is_live (standing_at d j) ≡ false
    idle j on = false_from_ne_true (is_live (standing_at d j)) (λ up. near j up on)

    at : Found (holds k) (ticked d).day.entries → TickOn rows assigned d.moment d (ticked d) k None
    at (NoOne f) = record {
      left = left_as None;
      ticks = inl refl;
      near = λ j live on. true≢false (sym live ∙ down j (sym (after_channel Up d j) ∙ on));
      said = said_on_one rows assigned d k h ok ∙ none_says d k d.entries (λ j on. (quiet_idle d j (down j on) (rests_at d j (idle j on))).1);
    }
      where
        down : (j : ℕ) → (entry_at d.entries j).channel ≡ k → is_live (standing_at (ticked d).day j) ≡ false
        down j on = false_from_ne_true (is_live (standing_at (ticked d).day j)) (λ up. true≢false (sym (holds_from k (entry_at (ticked d).day.entries j) up (after_channel Up d j ∙ on)) ∙ f j (live_inside (ticked d).day.entries j up)))
    at (One i held) = begun (rests_at d i (idle i on))
      where
        up : is_live (standing_at (ticked d).day i) ≡ true
        up = (holds_parts k (entry_at (ticked d).day.entries i) held).0

        on : (entry_at d.entries i).channel ≡ k
        on = sym (after_channel Up d i) ∙ (holds_parts k (entry_at (ticked d).day.entries i) held).1

        still : (j : ℕ) → j ≢ i → (entry_at d.entries j).channel ≡ k → StaysQuiet d j
        still j other there = quiet_idle d j (false_from_ne_true (is_live (standing_at (ticked d).day j)) (λ live. other (one_live rows assigned (d.moment + 1) (ticked d).day k j i after live up (after_channel Up d j ∙ there) (after_channel Up d i ∙ on)))) (rests_at d j (idle j there))

        begun : Rests (d.moment + 1) (entry_at d.entries i) (is_back d) (is_free d (entry_at d.entries i).channel) (second_in Up d (entry_at d.entries i)) → TickOn rows assigned d.moment d (ticked d) k None
        begun (Quiet rests none) = absurd (true≢false (sym up ∙ ap is_live (after_standing Up d i) ∙ rests))
        begun (Begins free early is said) =
            let e : Entry = entry_at d.entries i in
            let there : i < length d.entries = subst (λ n. i < n) (map_size Up d d.entries) (live_inside (ticked d).day.entries i up) in
            let inside : i < length rows = subst (λ n. i < n) h.size there in
            let number : List ℕ = e.booking.number in
            let own : e.reference ≡ suc i = own_at rows assigned d i h.fits h.exchange there in
            let ends : e.booking.end ≡ (row_at rows i).end = ap (λ (r : Row). r.end) (h.fits.framed.0 i inside).booking in
            record {
              left = near_begun (suc i) number k (is_back d) (d.moment + 1);
              ticks = inr (suc i, number, subst (λ n. d.moment + 1 < n) ends early, refl);
              near = (i, Never, after_standing Up d i ∙ is ∙ ap (λ r. OnCall (net_offered r e.channel number (is_back d) (d.moment + 1)) Never) own ∙ ap (λ n. OnCall (net_offered (suc i) n number (is_back d) (d.moment + 1)) Never) on, after_channel Up d i ∙ on);
              said = said_on_one rows assigned d k h ok ∙ one_says d k d.entries i there on (λ j other off. (still j other off).1) ∙ ap reply_list said ∙ ap (λ r. setup_of r e.channel number ∷ []) own ∙ ap (λ n. setup_of (suc i) n number ∷ []) on;
            }

waits_or_lives : (e : Entry) (t : ℕ) (back free : Bool) → t < e.booking.end → ((waits e t back free).standing ≡ Unoffered) ⊎ (is_live (waits e t back free).standing ≡ true)
waits_or_lives e t back free early = by_cases (offers e t free) _ _ (λ (m : Moved). (m.standing ≡ Unoffered) ⊎ (is_live m.standing ≡ true))
    (λ _. inr refl)
    (λ _. by_cases (nat_le e.booking.end t) _ _ (λ (m : Moved). (m.standing ≡ Unoffered) ⊎ (is_live m.standing ≡ true)) (λ over. let le : e.booking.end ≤ t = leb-true e.booking.end t over in absurd (omega (arith, le, early))) (λ _. inl refl))

tick_now : (rows : List Row) (assigned : List (Option ℕ)) (d : Day) → d.moment < 300000 → NearFits rows assigned d.moment d → NeverBreaks rows d.moment d → NearTick rows assigned d.moment d (ticked d)
tick_now rows assigned d early h whole = record {
  fits = after;
  here = here;
  waits = λ j lt is later.
      (let e : Entry = entry_at d.entries j in
      let ends : (row_at rows j).end ≡ e.booking.end = sym (ap (λ (r : Row). r.end) (h.fits.framed.0 j lt).booking) in
      subst (λ s. (s ≡ Unoffered) ⊎ (is_live s ≡ true)) (sym (after_standing Up d j ∙ ap (λ s. (second_at e (d.moment + 1) (is_back d) (is_free d e.channel) s).standing) is))
      (waits_or_lives e (d.moment + 1) (is_back d) (is_free d e.channel) (subst (λ n. d.moment + 1 < n) ends later)));
  channels = λ j. after_channel Up d j;
  says = all_over (IsToFar (chan_of assigned)) d every_channel (all_entries (λ e. OfSaid (IsToFar (chan_of assigned)) (second_in Up d e).said) d.entries (λ i. said_map (TellsOn (chan_of assigned) (entry_at d.entries i).channel) (IsToFar (chan_of assigned)) (λ o q. q.0) (second_in Up d (entry_at d.entries i)).said (entry_tells rows assigned d i h)));
}
  where
    after : NearFits rows assigned (d.moment + 1) (ticked d).day
    after = tick_fits rows assigned d early h whole

    here : (k : ℕ) (v : Option PlainNetCall) → IsChannel k → NearIs d k v → TickOn rows assigned d.moment d (ticked d) k v
    here k None ok near = tick_none rows assigned d k h after ok near
    here k (Some c) ok near = tick_call rows assigned d k c h ok near

pub near_ticks : (rows : List Row) (assigned : List (Option ℕ)) (t : ℕ) (d : Day) → NearFits rows assigned t d → t < 300000 → ((i : ℕ) (c : PlainNetCall) (a : Activity) → standing_at d i ≡ OnCall c a → IsUnbrokenNear (net_second c (t + 1) (ends_of rows c.reference)).next) → NearTick rows assigned t d (tick d)
near_ticks rows assigned t d h early whole =
    let now : d.moment < 300000 = subst (λ n. n < 300000) (sym h.moment) early in
    let unbroken : NeverBreaks rows d.moment d = subst (λ n. NeverBreaks rows n d) (sym h.moment) whole in
    subst (NearTick rows assigned t d) (sym (tick_is d now)) (subst (λ n. NearTick rows assigned n d (ticked d)) h.moment (tick_now rows assigned d now (now_fits rows assigned t d h) unbroken))
