-- Both ends in turns: between two turns the far end has, Active, just the calls that are Active at the exchange, and in each turn
-- it answers all that waits for an answer.
use Rattle.std.proofs.Common.{◌≡◌, ◌≢◌, inl, inr, ℕ, zero, suc, ◌+◌, ◌≤◌, ◌<◌, ◌||◌, Bool, true, false, List, [], ◌∷◌, ◌++◌, map, Option, Some, None, refl, sym, ap, subst, ◌∙◌, arith, is_some, if◌then◌else◌}
use Rattle.std.specs.List.{AllByRecursion, list_any}
use Rattle.std.proofs.lemmas.Bool.{false≢true, true≢false, and_from, and_parts, eq-eqb, eqb-true, ne_eqb, or_left, or_right}
use Rattle.bx_base.specs.Bookings.{Row, AreBookings, Carries}
use Rattle.bx_base.specs.Channels.{IsChannelSet}
use Rattle.bx_base.specs.Plans.{is_accepted, channel_at}
use Rattle.bx_q931.specs.declared.kind.Kind.{Kind}
use Rattle.bx_q931.specs.declared.kind.Kind.TheVariants.{Connect, Release, Status}
use Rattle.bx_q931.specs.Outgoing.{Outgoing, out_octets}
use Rattle.bx_calls.specs.Hearing.{Heard, reports_null}
use Rattle.bx_calls.specs.NetTable.{net_is_clearing}
use Rattle.bx_calls.specs.PlainCalls.{PlainUserCall}
use Rattle.bx_calls.specs.Sending.{Sent}
use Rattle.bx_calls.specs.declared.net_state.NetOrigin.{NetOrigin}
use Rattle.bx_calls.specs.declared.net_state.NetState.{NetState}
use Rattle.bx_calls.specs.declared.net_state.NetState.TheVariants as net
use Rattle.bx_calls.specs.declared.user_state.UserState.{UserState}
use Rattle.bx_two_ends.specs.Answering.{is_ringing_in, is_ringing, is_clearing, is_enquired, said_in_octets, tells, is_told, is_connect, is_release, Answers, EachHeard, AnswersAll}
use Rattle.bx_day.specs.Day.{Day, opening, entry_at, entries_from, is_live}
use Rattle.bx_two_ends.specs.Earning.{heard_in, is_settled_in, IsAllAnswered}
use Rattle.bx_day.specs.Law.{standing_at}
use Rattle.bx_day.specs.Reading.{IsExchange}
use Rattle.bx_day.specs.Receipts.{names}
use Rattle.bx_day.specs.Ticks.{tick, ticked, passed_in}
use Rattle.bx_day.specs.declared.entry.Entry.{Entry}
use Rattle.bx_day.specs.declared.entry.Link.TheVariants.{Up}
use Rattle.bx_day.specs.declared.entry.Standing.{Standing}
use Rattle.bx_day.specs.declared.entry.Standing.TheVariants.{OnCall}
use Rattle.bx_two_ends.proofs.Answering.{IsHearing, is_up, is_third, is_third_call, turn_answered}
use Rattle.bx_two_ends.proofs.AnsweringDays.{idle_at}
use Rattle.bx_two_ends.proofs.Calm.{IsCalm, called_turn, calm_linked, answered_cleared}
use Rattle.bx_two_ends.proofs.EarnedDays.{opening_calm, unmarked}
use Rattle.bx_two_ends.proofs.Naming.{IsNamedOnce, names_live, once_second}
use Rattle.bx_day.proofs.Once.{decide}
use Rattle.bx_day.proofs.OpeningDay.{opening_is}
use Rattle.bx_day.proofs.Passing.{passed_stays, tick_is}
use Rattle.bx_far.specs.FarDay.{FarDay, holder, is_on, far_tick}
use Rattle.bx_far.specs.declared.row.ScriptRow.{ScriptRow}
use Rattle.bx_two_ends.specs.Lockstep.{Ends, far_heard, far_says, exchange_says, ends_after, turns_from, ends_opening, AnswersAtOnce}
use Rattle.bx_two_ends.specs.TwoEnds.{AreOnTheirOwn}
use Rattle.bx_two_ends.proofs.Delivery.{Sendable, said_from}
use Rattle.bx_two_ends.proofs.ExchangeAnswers.{present_awake, active_awake, indicated_awake, outward_unasked, Hears, Kinds, Ringing, Clearing, Settled, AllKinds, HeardAll, hears_all, said_again, names_outward}
use Rattle.bx_two_ends.proofs.FarAnswered.{InT, AtT, AtQ, IsReport, FarTicks, far_ticks, acks_as, completes_as, q_all}
use Rattle.bx_two_ends.proofs.FarCalled.{ToFar, FromFar, Reports, connects_as, releases_as, is_connect_of, is_release_of, ends_as, InS, AtS, s_all, ring_live, clear_live, ring_not_clear, ring_not_up, clear_not_up}
use Rattle.bx_two_ends.proofs.FarCalls.{all_calls, first_found}
use Rattle.bx_two_ends.proofs.FarTicks.{both_calls}
use Rattle.bx_two_ends.proofs.FarTurns.{IsCalledDay, channel_of, In10, Has, IsFor, FarIs, still_is}
use Rattle.bx_two_ends.proofs.History.{from_other, other_parts, sets_up, all_joined, all_map, has_more, has_new}
use Rattle.bx_two_ends.proofs.Holders.{held_by}
use Rattle.bx_two_ends.proofs.TickCalls.{OutwardIn, PresentIn, ActiveIn, IndicatedIn, StandsAt, Idle, Talks, Rings, Ended, Talking, tick_to, stands_at, same_channel, sets_sent, ends_sent, called_day}

-- ---- between two turns

-- a message of the far end that waits to be heard
pub record Waits (d : Day) (o : Outgoing) : Type 0 where
  pub sendable : Sendable o
  pub flag : o.flag ≡ true
  pub index : ℕ
  pub live : is_live (standing_at d index) ≡ true
  pub reference : o.reference ≡ suc index
  pub kind : o.kind ≡ Status
  pub state : reports_null o.state ≡ false

abbrev AllTen : ℕ → UserState → Type 0
AllTen j s = In10 s

abbrev HasTen : ℕ → Option PlainUserCall → Type 0
HasTen j v = Has In10 v

pub record Meets (rows : List Row) (assigned : List (Option ℕ)) (d : Day) (f : FarDay) (pending : List Outgoing) : Type 0 where
  pub bookings : AreBookings rows
  pub calm : IsCalm rows assigned d
  pub exchange : IsExchange d
  pub once : IsNamedOnce d
  pub talks : (i : ℕ) → is_live (standing_at d i) ≡ true → OutwardIn ActiveIn i (standing_at d i)
  pub far : FarIs d d.moment AllTen HasTen f
  pub pending_of : AllByRecursion (Waits d) pending

-- ---- standings

outward_live : (P : NetState → Type 0) (i : ℕ) (s : Standing) → OutwardIn P i s → is_live s ≡ true
outward_live P i (OnCall x a) p = refl
outward_live P i s p = absurd p

active_up : (i : ℕ) (s : Standing) → OutwardIn ActiveIn i s → (is_up s ≡ true) × (is_third_call s ≡ false)
active_up i (OnCall x a) p = at x.state x.origin p.0
  where
    at : (n : NetState) (o : NetOrigin) → ActiveIn n → (is_settled_in n o ≡ true) × (is_third n ≡ false)
    at net.Active o q = (refl, refl)
    at (net.Enquiring asked due) o q = absurd q
    at (net.CallPresent again due) o q = absurd q
    at net.OutgoingCallProceeding o q = absurd q
    at (net.IncomingCallProceeding due) o q = absurd q
    at (net.CallReceived due) o q = absurd q
    at (net.DisconnectIndication cause due) o q = absurd q
    at (net.ReleaseRequest again cause due) o q = absurd q
active_up i s p = absurd p

present_rings : (i : ℕ) (s : Standing) → OutwardIn PresentIn i s → (is_ringing s ≡ true) × (is_third_call s ≡ false)
present_rings i (OnCall x a) p = at x.state p.0
  where
    at : (n : NetState) → PresentIn n → (is_ringing_in n ≡ true) × (is_third n ≡ false)
    at (net.CallPresent again due) q = (refl, refl)
    at net.Active q = absurd q
    at (net.Enquiring asked due) q = absurd q
    at net.OutgoingCallProceeding q = absurd q
    at (net.IncomingCallProceeding due) q = absurd q
    at (net.CallReceived due) q = absurd q
    at (net.DisconnectIndication cause due) q = absurd q
    at (net.ReleaseRequest again cause due) q = absurd q
present_rings i s p = absurd p

indicated_clears : (i : ℕ) (s : Standing) → OutwardIn IndicatedIn i s → (is_clearing s ≡ true) × (is_third_call s ≡ false)
indicated_clears i (OnCall x a) p = at x.state p.0
  where
    at : (n : NetState) → IndicatedIn n → (net_is_clearing n ≡ true) × (is_third n ≡ false)
    at (net.DisconnectIndication cause due) q = (refl, refl)
    at net.Active q = absurd q
    at (net.Enquiring asked due) q = absurd q
    at net.OutgoingCallProceeding q = absurd q
    at (net.IncomingCallProceeding due) q = absurd q
    at (net.CallReceived due) q = absurd q
    at (net.CallPresent again due) q = absurd q
    at (net.ReleaseRequest again cause due) q = absurd q
indicated_clears i s p = absurd p

idle_third : (s : Standing) → is_live s ≡ false → is_third_call s ≡ false
idle_third (OnCall x a) h = absurd (true≢false h)
idle_third s h = refl

kind_of : (c : Day) (i : ℕ) (was : Bool) → StandsAt i was (standing_at c i) → is_live (standing_at c i) ≡ true → Kinds c i
kind_of c i was (Idle idle w) live = absurd (true≢false (sym live ∙ idle))
kind_of c i was (Talks p w) live = Settled (active_up i (standing_at c i) p).0
kind_of c i was (Rings p w) live = Ringing (present_rings i (standing_at c i) p).0
kind_of c i was (Ended p w) live = Clearing (indicated_clears i (standing_at c i) p).0

-- none is asked for
idle_unasked : (s : Standing) → is_live s ≡ false → is_enquired s ≡ false
idle_unasked (OnCall x a) h = absurd (true≢false h)
idle_unasked s h = refl

unasked_of : (i : ℕ) (was : Bool) (s : Standing) → StandsAt i was s → is_enquired s ≡ false
unasked_of i was s (Idle idle w) = idle_unasked s idle
unasked_of i was s (Talks p w) = outward_unasked ActiveIn active_awake i s p
unasked_of i was s (Rings p w) = outward_unasked PresentIn present_awake i s p
unasked_of i was s (Ended p w) = outward_unasked IndicatedIn indicated_awake i s p

third_of : (i : ℕ) (was : Bool) (s : Standing) → StandsAt i was s → is_third_call s ≡ false
third_of i was s (Idle idle w) = idle_third s idle
third_of i was s (Talks p w) = (active_up i s p).1
third_of i was s (Rings p w) = (present_rings i s p).1
third_of i was s (Ended p w) = (indicated_clears i s p).1

kept_live : (i : ℕ) (was : Bool) (s : Standing) → StandsAt i was s → was ≡ true → is_live s ≡ true
kept_live i was s (Idle idle w) h = absurd (true≢false (sym h ∙ w))
kept_live i was s (Talks p w) h = outward_live ActiveIn i s p
kept_live i was s (Rings p w) h = absurd (true≢false (sym h ∙ w))
kept_live i was s (Ended p w) h = outward_live IndicatedIn i s p

new_rings : (i : ℕ) (was : Bool) (s : Standing) → StandsAt i was s → is_ringing s ≡ true → (was ≡ false) × OutwardIn PresentIn i s
new_rings i was s (Idle idle w) r = absurd (true≢false (sym (ring_live s r) ∙ idle))
new_rings i was s (Talks p w) r = absurd (ring_not_up s r (active_up i s p).0)
new_rings i was s (Rings p w) r = (w, p)
new_rings i was s (Ended p w) r = absurd (ring_not_clear s r (indicated_clears i s p).0)

old_clears : (i : ℕ) (was : Bool) (s : Standing) → StandsAt i was s → is_clearing s ≡ true → (was ≡ true) × OutwardIn IndicatedIn i s
old_clears i was s (Idle idle w) r = absurd (true≢false (sym (clear_live s r) ∙ idle))
old_clears i was s (Talks p w) r = absurd (clear_not_up s r (active_up i s p).0)
old_clears i was s (Rings p w) r = absurd (ring_not_clear s (present_rings i s p).0 r)
old_clears i was s (Ended p w) r = (w, p)

up_live : (s : Standing) → is_up s ≡ true → is_live s ≡ true
up_live (OnCall x a) u = refl
up_live s u = absurd (false≢true u)

old_talks : (i : ℕ) (was : Bool) (s : Standing) → StandsAt i was s → is_up s ≡ true → (was ≡ true) × OutwardIn ActiveIn i s
old_talks i was s (Idle idle w) u = absurd (true≢false (sym (up_live s u) ∙ idle))
old_talks i was s (Talks p w) u = (w, p)
old_talks i was s (Rings p w) u = absurd (ring_not_up s (present_rings i s p).0 u)
old_talks i was s (Ended p w) u = absurd (clear_not_up s (indicated_clears i s p).0 u)

-- ---- what is told

connect_is : (k : Kind) → is_connect_of k ≡ true → is_connect k ≡ true
connect_is Connect h = refl
connect_is k h = absurd (false≢true h)

release_is : (k : Kind) → is_release_of k ≡ true → is_release k ≡ true
release_is Release h = refl
release_is k h = absurd (false≢true h)

pub told_from : (c : Day) (test : Heard → Bool) (p : Outgoing → Bool) (e : Entry) (os : List Outgoing) → ((o : Outgoing) → FromFar c o → p o ≡ true → tells test e (Some (said_from o)) ≡ true) → AllByRecursion (FromFar c) os → list_any p os ≡ true → is_told test e (map (λ o. out_octets o) os) ≡ true
told_from c test p e [] f all h = absurd (false≢true h)
told_from c test p e (o ∷ os) f all h = go (p o) refl h (told_from c test p e os f all.1)
  where
    go : (b : Bool) → p o ≡ b → (b || list_any p os) ≡ true → (list_any p os ≡ true → is_told test e (map (λ x. out_octets x) os) ≡ true) → (tells test e (said_in_octets (out_octets o)) || is_told test e (map (λ x. out_octets x) os)) ≡ true
    go true is q rest = or_left (tells test e (said_in_octets (out_octets o))) (is_told test e (map (λ x. out_octets x) os)) (ap (tells test e) (said_again o all.0.sendable) ∙ f o all.0 is)
    go false is q rest = or_right (tells test e (said_in_octets (out_octets o))) (is_told test e (map (λ x. out_octets x) os)) (rest q)

-- each call of a list without two on a channel holds its channel
own_holder : (cs : List PlainUserCall) → AreOnTheirOwn cs → AllByRecursion (λ (x : PlainUserCall). held_by x.channel cs ≡ Some x) cs
own_holder [] own = tt
own_holder (z ∷ zs) own = (
  ap (λ b. if b then Some z else held_by z.channel zs) (eq-eqb z.channel z.channel refl),
  all_calls (λ (x : PlainUserCall). (z.channel ≢ x.channel) × (held_by x.channel zs ≡ Some x)) (λ (x : PlainUserCall). held_by x.channel (z ∷ zs) ≡ Some x) (λ x p. ap (λ b. if b then Some z else held_by x.channel zs) (ne_eqb z.channel x.channel p.0) ∙ p.1) zs (both_calls (λ (x : PlainUserCall). z.channel ≢ x.channel) (λ (x : PlainUserCall). held_by x.channel zs ≡ Some x) zs own.0 (own_holder zs own.1)),
)

-- nobody holds a channel that is of no live booking
pub none_held : (d c : Day) (f : FarDay) (i : ℕ) → FarIs d d.moment AllTen HasTen f → ((j : ℕ) → is_live (standing_at d j) ≡ true → channel_of d j ≡ channel_of c i → ⊥) → holder f (channel_of c i) ≡ None
none_held d c f i h never = at (holder f (channel_of c i)) refl
  where
    at : (v : Option PlainUserCall) → holder f (channel_of c i) ≡ v → v ≡ None
    at None is = refl
    at (Some x) is = absurd (let p = first_found (IsFor d AllTen) (is_on (channel_of c i)) f.calls x is h.each in never p.1.index p.1.live (sym p.1.channel ∙ eqb-true x.channel (channel_of c i) p.0))

-- ---- a turn

-- the parts of a turn, by the exchange's tick
abbrev far_called_by : Sent Day → FarDay → FarDay
far_called_by x f = far_heard x.sent f

abbrev received_by : Sent Day → FarDay → List Outgoing → List Outgoing
received_by x f pending = pending ++ (far_says x.sent f ++ (far_tick (far_called_by x f)).sent)

abbrev left_by : Sent Day → FarDay → List Outgoing → Day
left_by x f pending = heard_in (map (λ o. out_octets o) (received_by x f pending)) x.day

abbrev replies_by : Sent Day → FarDay → List Outgoing → List Outgoing
replies_by x f pending = exchange_says (received_by x f pending) x.day

abbrev far_left_by : Sent Day → FarDay → List Outgoing → FarDay
far_left_by x f pending = far_heard (replies_by x f pending) (far_tick (far_called_by x f)).day

abbrev pending_by : Sent Day → FarDay → List Outgoing → List Outgoing
pending_by x f pending = far_says (replies_by x f pending) (far_tick (far_called_by x f)).day

-- what a turn answers and leaves
record Turned (rows : List Row) (assigned : List (Option ℕ)) (t : ℕ) (f : FarDay) (pending : List Outgoing) (x : Sent Day) : Type 0 where
  answers : Answers x.day (map (λ o. out_octets o) (received_by x f pending))
  meets : Meets rows assigned (left_by x f pending) (far_left_by x f pending) (pending_by x f pending)
  moment : (left_by x f pending).moment ≡ t

turn_by : (rows : List Row) (assigned : List (Option ℕ)) (d : Day) (f : FarDay) (pending : List Outgoing) → d.moment < 300000 → Meets rows assigned d f pending → Turned rows assigned (d.moment + 1) f pending (ticked d)
turn_by rows assigned d f pending early h =
    let c : Day = (passed_in Up d).day in
    let m = d.moment in
    let t = d.moment + 1 in
    let sent = (ticked d).sent in
    let talking : Talking rows assigned d = record { bookings = h.bookings; fits = h.calm.fits; size = h.calm.size; exchange = h.exchange; talks = h.talks } in
    let day : IsCalledDay c = called_day rows assigned d talking in
    let stands : (i : ℕ) → StandsAt i (is_live (standing_at d i)) (standing_at c i) = λ i. stands_at rows assigned d i talking in
    let kinds : AllKinds c = λ i live. kind_of c i (is_live (standing_at d i)) (stands i) live in
    let still : (i : ℕ) → is_live (standing_at d i) ≡ true → is_live (standing_at c i) ≡ true = λ i live. kept_live i (is_live (standing_at d i)) (standing_at c i) (stands i) live in
    let same : (i : ℕ) → channel_of d i ≡ channel_of c i = λ i. sym (same_channel d i) in
    let on : (Q : Option PlainUserCall → Type 0) (i : ℕ) → Q (holder f (channel_of d i)) → Q (holder f (channel_of c i)) = λ Q i q. subst (λ ch. Q (holder f ch)) (same i) q in
    let said_is = tick_is d early in
    let to_far : AllByRecursion (λ (o : Outgoing). ToFar c o × Sendable o) sent = subst (λ (x : Sent Day). AllByRecursion (λ (o : Outgoing). ToFar c o × Sendable o) x.sent) said_is (tick_to rows assigned d talking) in
    let opens : FarIs c m (InS c m) (AtS c m sent []) f = record {
      moment = h.far.moment;
      script = h.far.script;
      clean = h.far.clean;
      own = h.far.own;
      each = all_calls (IsFor d AllTen) (IsFor c (InS c m)) (λ x p. record { index = p.index; live = still p.index p.live; reference = p.reference; channel = p.channel ∙ same p.index; origin = p.origin; state = inr (inl p.state) }) f.calls h.far.each;
      calls = λ i live. record {
        ringing = λ r. inl (
          none_held d c f i h.far (λ j lj on_it. (let e : j ≡ i = day.apart j i (still j lj) live (sym (same j) ∙ on_it) in true≢false (sym lj ∙ ap (λ k. is_live (standing_at d k)) e ∙ (new_rings i (is_live (standing_at d i)) (standing_at c i) (stands i) r).0))),
          subst (λ (x : Sent Day). list_any (sets_up (suc i)) x.sent ≡ true) said_is (sets_sent rows assigned d i early talking r),
        );
        clearing = λ r. inl (
          on (Has In10) i (h.far.calls i (old_clears i (is_live (standing_at d i)) (standing_at c i) (stands i) r).0),
          subst (λ (x : Sent Day). list_any (ends_as (suc i)) x.sent ≡ true) said_is (ends_sent rows assigned d i early talking r),
        );
        settled = λ u. on (Has In10) i (h.far.calls i (old_talks i (is_live (standing_at d i)) (standing_at c i) (stands i) u).0);
      };
    } in
    let sa = s_all c m sent [] f day to_far opens in
    let ft : FarTicks c t (far_tick (far_heard sent f)) = far_ticks c m t (far_says sent f) (far_heard sent f) day early refl sa.0 in
    let received = received_by (ticked d) f pending in
    let from_far : AllByRecursion (FromFar c) received = all_joined (FromFar c) pending (far_says sent f ++ (far_tick (far_heard sent f)).sent)
    (all_map (Waits d) (FromFar c) (λ o w. record { sendable = w.sendable; flag = w.flag; says = Reports w.index (still w.index w.live) w.reference w.kind w.state }) pending h.pending_of)
    (all_joined (FromFar c) (far_says sent f) (far_tick (far_heard sent f)).sent sa.1 ft.sent) in
    let connects : (i : ℕ) → is_ringing (standing_at c i) ≡ true → list_any (connects_as (suc i)) received ≡ true = λ i r. has_new (connects_as (suc i)) pending (far_says sent f ++ (far_tick (far_heard sent f)).sent) (has_new (connects_as (suc i)) (far_says sent f) (far_tick (far_heard sent f)).sent (ft.connects i r)) in
    let releases : (i : ℕ) → is_clearing (standing_at c i) ≡ true → list_any (releases_as (suc i)) received ≡ true = λ i r. elim ((sa.0.calls i (clear_live (standing_at c i) r)).clearing r) [
      | inl p ↦ absurd (false≢true p.1)
      | inr p ↦ has_new (releases_as (suc i)) pending (far_says sent f ++ (far_tick (far_heard sent f)).sent) (has_more (releases_as (suc i)) (far_says sent f) (far_tick (far_heard sent f)).sent p.1)
    ] in
    let hearing : IsHearing rows assigned t c = record { turn = called_turn rows assigned d early h.calm; exchange = passed_stays Up d early h.exchange; once = once_second Up d h.once } in
    let start : Hears rows assigned c t received [] c = record {
      hearing = hearing;
      channel = λ i. refl;
      calls = λ i. record {
        ringing = λ r. inl ((new_rings i (is_live (standing_at d i)) (standing_at c i) (stands i) r).1, connects i r);
        clearing = λ r. inl ((old_clears i (is_live (standing_at d i)) (standing_at c i) (stands i) r).1, releases i r);
        settled = λ u. (old_talks i (is_live (standing_at d i)) (standing_at c i) (stands i) u).1;
        idle = λ x. x;
      };
    } in
    let ha : HeardAll rows assigned c t received [] c = hears_all rows assigned c t received [] c kinds from_far start in
    let answers : Answers c (map (λ o. out_octets o) received) = record {
      clears = record {
        released = λ i r. told_from c (λ x. is_release x.kind) (releases_as (suc i)) (entry_at c.entries i) received (λ o w q.
            (let p = and_parts (from_other (suc i) o) (is_release_of o.kind) q in let b = other_parts (suc i) o p.0 in
            and_from (names (said_from o) (entry_at c.entries i)) (is_release o.kind) (names_outward IndicatedIn i (said_from o) (standing_at c i) (old_clears i (is_live (standing_at d i)) (standing_at c i) (stands i) r).1 b.0 b.1) (release_is o.kind p.1))) from_far (releases i r);
        awake = λ i r. absurd (true≢false (sym r ∙ unasked_of i (is_live (standing_at d i)) (standing_at c i) (stands i)));
        spared = ha.spared;
      };
      connected = λ i r. told_from c (λ x. is_connect x.kind) (connects_as (suc i)) (entry_at c.entries i) received (λ o w q.
          (let p = and_parts (from_other (suc i) o) (is_connect_of o.kind) q in let b = other_parts (suc i) o p.0 in
          and_from (names (said_from o) (entry_at c.entries i)) (is_connect o.kind) (names_outward PresentIn i (said_from o) (standing_at c i) (new_rings i (is_live (standing_at d i)) (standing_at c i) (stands i) r).1 b.0 b.1) (connect_is o.kind p.1))) from_far (connects i r);
    } in
    let l : Day = left_by (ticked d) f pending in
    let answered : IsAllAnswered c l = turn_answered rows assigned t (map (λ o. out_octets o) received) c hearing answers (λ i. third_of i (is_live (standing_at d i)) (standing_at c i) (stands i)) in
    let replies = replies_by (ticked d) f pending in
    let f1 : FarDay = (far_tick (far_heard sent f)).day in
    let acked : (i : ℕ) → is_ringing (standing_at c i) ≡ true → OutwardIn ActiveIn i (standing_at l i) × (list_any (acks_as (suc i)) replies ≡ true) = λ i r. elim ((ha.left.calls i).ringing r) [ inl p ↦ absurd (false≢true p.1) | inr p ↦ p ] in
    let over : (i : ℕ) → is_clearing (standing_at c i) ≡ true → (is_live (standing_at l i) ≡ false) × (list_any (completes_as (suc i)) replies ≡ true) = λ i r. elim ((ha.left.calls i).clearing r) [ inl p ↦ absurd (false≢true p.1) | inr p ↦ p ] in
    let qa = q_all c t replies f1 day ha.says (still_is c t (InT c) (AtT c) (AtQ c replies) f1 ft.far (λ j v lj q. record {
      ringing = λ r. inl (q.ringing r, (acked j r).1);
      clearing = λ r. inl (q.clearing r, (over j r).1);
      settled = q.settled;
    })) in
    let f2 : FarDay = far_left_by (ticked d) f pending in
    let was : (i : ℕ) → is_live (standing_at l i) ≡ true → is_live (standing_at c i) ≡ true = λ i live. decide (is_live (standing_at c i)) (λ was. was) (λ idle. absurd (true≢false (sym live ∙ (ha.left.calls i).idle idle))) in
    let talk_at : (i : ℕ) → is_live (standing_at l i) ≡ true → Kinds c i → OutwardIn ActiveIn i (standing_at l i) × Has In10 (holder f2 (channel_of c i)) = λ i live k. talks_by c l f2 i t day live qa.0 (λ r. (acked i r).0) (λ r. (over i r).0) (λ u. (ha.left.calls i).settled u) (was i live) k in
    record {
      answers = answers;
      moment = ha.left.hearing.turn.moment;
      meets = record {
        bookings = h.bookings;
        calm = calm_linked rows assigned d (map (λ o. out_octets o) received) early h.calm (answered_cleared c l answered);
        exchange = ha.left.hearing.exchange;
        once = ha.left.hearing.once;
        talks = λ i live. (talk_at i live (kinds i (was i live))).0;
        far = record {
          moment = qa.0.moment ∙ sym ha.left.hearing.turn.moment;
          script = qa.0.script;
          clean = qa.0.clean;
          own = qa.0.own;
          each = all_calls (λ (x : PlainUserCall). IsFor c (InT c) x × (held_by x.channel f2.calls ≡ Some x)) (IsFor l AllTen) (λ x p. for_left c l f2 x t day qa.0 (λ i. ha.left.channel i) (λ i r. outward_live ActiveIn i (standing_at l i) (acked i r).0) (λ i u. outward_live ActiveIn i (standing_at l i) ((ha.left.calls i).settled u)) kinds p.0 p.1) f2.calls (both_calls (IsFor c (InT c)) (λ (x : PlainUserCall). held_by x.channel f2.calls ≡ Some x) f2.calls qa.0.each (own_holder f2.calls qa.0.own));
          calls = λ i live. subst (λ ch. Has In10 (holder f2 ch)) (sym (ha.left.channel i)) (talk_at i live (kinds i (was i live))).1;
        };
        pending_of = all_map (IsReport c) (Waits l) (λ o r. record { sendable = r.sendable; flag = r.flag; index = r.index; live = outward_live ActiveIn r.index (standing_at l r.index) (acked r.index r.ringing).0; reference = r.reference; kind = r.kind; state = r.state }) (pending_by (ticked d) f pending) qa.1;
      };
    }
  where
    talks_by : (c l : Day) (f2 : FarDay) (i t : ℕ) → IsCalledDay c → is_live (standing_at l i) ≡ true → FarIs c t (InT c) (AtQ c []) f2 → (is_ringing (standing_at c i) ≡ true → OutwardIn ActiveIn i (standing_at l i)) → (is_clearing (standing_at c i) ≡ true → is_live (standing_at l i) ≡ false) → (is_up (standing_at c i) ≡ true → OutwardIn ActiveIn i (standing_at l i)) → is_live (standing_at c i) ≡ true → Kinds c i → OutwardIn ActiveIn i (standing_at l i) × Has In10 (holder f2 (channel_of c i))
    talks_by c l f2 i t day live q a o s was (Ringing r) = (a r, elim ((q.calls i was).ringing r) [ inl p ↦ absurd (false≢true p.1) | inr p ↦ p ])
    talks_by c l f2 i t day live q a o s was (Clearing r) = absurd (true≢false (sym live ∙ o r))
    talks_by c l f2 i t day live q a o s was (Settled u) = (s u, (q.calls i was).settled u)

    for_left : (c l : Day) (f2 : FarDay) (x : PlainUserCall) (t : ℕ) → IsCalledDay c → FarIs c t (InT c) (AtQ c []) f2 → ((i : ℕ) → channel_of l i ≡ channel_of c i) → ((i : ℕ) → is_ringing (standing_at c i) ≡ true → is_live (standing_at l i) ≡ true) → ((i : ℕ) → is_up (standing_at c i) ≡ true → is_live (standing_at l i) ≡ true) → AllKinds c → IsFor c (InT c) x → held_by x.channel f2.calls ≡ Some x → IsFor l AllTen x
    for_left c l f2 x t day q same a s kinds p held =
        let here : holder f2 (channel_of c p.index) ≡ Some x = subst (λ ch. held_by ch f2.calls ≡ Some x) p.channel held in
        let r = at (kinds p.index p.live) here in
        record { index = p.index; live = r.0; reference = p.reference; channel = p.channel ∙ sym (same p.index); origin = p.origin; state = r.1 }
      where
        at : Kinds c p.index → holder f2 (channel_of c p.index) ≡ Some x → (is_live (standing_at l p.index) ≡ true) × In10 x.state
        at (Ringing r) here = (a p.index r, elim ((q.calls p.index p.live).ringing r) [ inl w ↦ absurd (false≢true w.1) | inr w ↦ subst (Has In10) here w ])
        at (Clearing r) here = absurd (elim ((q.calls p.index p.live).clearing r) [ inl w ↦ false≢true w.1 | inr w ↦ true≢false (ap is_some (sym here ∙ w)) ])
        at (Settled u) here = (s p.index u, subst (Has In10) here ((q.calls p.index p.live).settled u))

-- ---- all turns

turns_answer : (rows : List Row) (assigned : List (Option ℕ)) (n : ℕ) (e : Ends) → Meets rows assigned e.exchange e.far e.pending → e.exchange.moment + n ≤ 300000 → EachHeard Answers (turns_from n e) e.exchange
turns_answer rows assigned zero e h few = tt
turns_answer rows assigned (suc n) e h few =
    let early : e.exchange.moment < 300000 = omega (arith, few) in
    let turn : Turned rows assigned (e.exchange.moment + 1) e.far e.pending (tick e.exchange) = subst (Turned rows assigned (e.exchange.moment + 1) e.far e.pending) (sym (tick_is e.exchange early)) (turn_by rows assigned e.exchange e.far e.pending early h) in
    (turn.answers, turns_answer rows assigned n (ends_after e) turn.meets (omega (arith, few, turn.moment)))

pub far_end_answers : (rows : List Row) (channels : List Bool) (assigned : List (Option ℕ)) (script : List ScriptRow) (turns : ℕ) → AreBookings rows → IsChannelSet channels → Carries rows channels (is_accepted assigned) (channel_at assigned) → AnswersAtOnce script → turns ≤ 300000 → AnswersAll (turns_from turns (ends_opening rows assigned script)) (opening rows assigned)
far_end_answers rows channels assigned script turns b set h once few = turns_answer rows assigned turns (ends_opening rows assigned script) (record {
  bookings = b;
  calm = opening_calm rows channels assigned b h;
  exchange = opening_is rows channels assigned b set h;
  once = λ m i j flag hi hj. absurd (true≢false (sym (names_live m (entry_at (entries_from 1 rows assigned) i).standing hi) ∙ idle_at 1 rows assigned i));
  talks = λ i live. absurd (true≢false (sym live ∙ idle_at 1 rows assigned i));
  far = record { moment = refl; script = once; clean = unmarked 32; own = tt; each = tt; calls = λ i live. absurd (true≢false (sym live ∙ idle_at 1 rows assigned i)) };
  pending_of = tt;
}) (omega (arith, few))
