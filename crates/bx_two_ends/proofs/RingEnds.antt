-- Both ends in turns, where the script of the far end lets calls ring: in each turn all else is answered, no timer gives a call up, and
-- each call is Active when its seconds are over.
use Rattle.std.proofs.Common.{◌≡◌, inl, ℕ, zero, suc, ◌+◌, ◌≤◌, ◌<◌, nat_le, unwrap_or, Bool, true, false, List, [], ◌∷◌, length, take, slice_index_or, Option, Some, None, refl, sym, ap, subst, ◌∙◌, arith, if◌then◌else◌}
use Rattle.std.specs.List.{AllByRecursion}
use Rattle.std.proofs.lemmas.Bool.{true≢false, false≢true, lt-leb}
use Rattle.bx_base.specs.Bookings.{Row, row_at, AreBookings, Carries}
use Rattle.bx_base.specs.Channels.{IsChannelSet}
use Rattle.bx_base.specs.Plans.{is_accepted, channel_at}
use Rattle.bx_q931.specs.Outgoing.{Outgoing}
use Rattle.bx_q931.specs.declared.kind.Kind.{Kind}
use Rattle.bx_q931.specs.declared.kind.Kind.TheVariants.{Setup, Connect, ConnectAcknowledge, Disconnect, Release, ReleaseComplete, Status, StatusEnquiry}
use Rattle.bx_calls.specs.Hearing.{Heard, reports_null}
use Rattle.bx_calls.specs.NetTable.{net_row, net_awake_state, net_message, net_second, net_is_clearing}
use Rattle.bx_calls.specs.PlainCalls.{PlainNetCall}
use Rattle.bx_calls.specs.Said.{Said}
use Rattle.bx_calls.specs.Sending.{Sent}
use Rattle.bx_calls.specs.declared.net_state.NetOrigin.{NetOrigin}
use Rattle.bx_calls.specs.declared.net_state.NetOrigin.TheVariants.{Inward, Outward}
use Rattle.bx_calls.specs.declared.net_state.NetState.{NetState}
use Rattle.bx_calls.specs.declared.net_state.NetState.TheVariants.{OutgoingCallProceeding, CallPresent, IncomingCallProceeding, CallReceived, Active, Enquiring, DisconnectIndication, ReleaseRequest}
use Rattle.bx_calls.specs.declared.times.Times.TheVariants.{NotYet, Once, Twice}
use Rattle.bx_calls.specs.declared.transition.Next.{Next}
use Rattle.bx_calls.specs.declared.transition.Next.TheVariants.{Live, Over, Broken}
use Rattle.bx_calls.specs.declared.transition.Transition.{Transition}
use Rattle.bx_calls.specs.declared.user_state.Policy.{Policy}
use Rattle.bx_calls.specs.declared.user_state.Policy.TheVariants.{Answer}
use Rattle.bx_day.specs.Day.{Day, opening, entry_at, is_back, is_free, is_live, is_unoffered}
use Rattle.bx_day.specs.Invariant.{DueFits, StandingFits}
use Rattle.bx_day.specs.Law.{OnLive, standing_at}
use Rattle.bx_day.specs.Moves.{follow, follows, over_at}
use Rattle.bx_day.specs.Outages.{live_day_after}
use Rattle.bx_day.specs.Receipts.{hears}
use Rattle.bx_day.specs.Ticks.{tick, passed_in, second_at, waits}
use Rattle.bx_day.specs.declared.entry.Activity.{Activity}
use Rattle.bx_day.specs.declared.entry.Activity.TheVariants.{Never, Since, Was}
use Rattle.bx_day.specs.declared.entry.Entry.{Entry}
use Rattle.bx_day.specs.declared.entry.Link.TheVariants.{Up}
use Rattle.bx_day.specs.declared.entry.Moved.{Moved}
use Rattle.bx_day.specs.declared.entry.Standing.{Standing}
use Rattle.bx_day.specs.declared.entry.Standing.TheVariants.{Unoffered, OnCall}
use Rattle.bx_day.proofs.Hear.{heard_by as heard_by_cases}
use Rattle.bx_day.proofs.Law.{at_map_in}
use Rattle.bx_day.proofs.OpeningDay.{opening_at}
use Rattle.bx_day.proofs.Passing.{tick_is}
use Rattle.bx_day.proofs.Second.{call_of}
use Rattle.bx_day.proofs.Tick.{by_cases, offers}
use Rattle.bx_far.specs.FarDay.{holder}
use Rattle.bx_far.specs.Policies.{policy_of, fits_number}
use Rattle.bx_far.specs.declared.row.ScriptRow.{ScriptRow}
use Rattle.bx_far.specs.declared.row.ScriptRow.TheVariants.{Follows, Calls}
use Rattle.bx_two_ends.specs.Asking.{is_asked, StandingUnasked}
use Rattle.bx_two_ends.specs.Earning.{LiveSecond, events_of, heard_in, seconds_after, is_settled, is_settled_in, is_going, IsCarriedBy}
use Rattle.bx_two_ends.specs.Lockstep.{Ends, ends_after, ends_opening, octets_received, turns_from}
use Rattle.bx_two_ends.specs.Ringing.{is_given_up, IsInTime, AreInTime, AreAnsweredWithin, IsAnswerInTime, AnswersInTime, rings_of, rings_for, IsLongEnoughToRing}
use Rattle.bx_two_ends.proofs.Answering.{not_going}
use Rattle.bx_two_ends.proofs.AnsweringDays.{idle_at}
use Rattle.bx_two_ends.proofs.Calm.{after_standing}
use Rattle.bx_two_ends.proofs.Carrying.{going_runs}
use Rattle.bx_two_ends.proofs.ChannelDays.{BetweenBy}
use Rattle.bx_two_ends.proofs.ChannelDays as days
use Rattle.bx_two_ends.proofs.EarnedDays.{link_inside, on_link, waits_of}
use Rattle.bx_two_ends.proofs.FarChannel.{IsFollowed, far_opens}
use Rattle.bx_two_ends.proofs.JoinedDays.{heard_by, heard_size, turns_heard}
use Rattle.bx_two_ends.proofs.LossyDays.{TurnedBy, whole_turn}
use Rattle.bx_two_ends.proofs.Naming.{live_inside}
use Rattle.bx_two_ends.proofs.NearChannel.{chan_of, ends_of, near_opens, near_unique}
use Rattle.bx_two_ends.proofs.NetworkRows.{Goes, OnNext, shows_connected, second_goes, heard_goes}
use Rattle.bx_two_ends.proofs.RingDays.{rung_unbroken}
use Rattle.bx_two_ends.proofs.RingTurns.{IsRung, Idle, IsRungState, IsRungAs, HasRung, rung_whole, rung_called, rung_near}
use Rattle.bx_two_ends.proofs.Turning.{fits_at, heard_entry, is_open_unoffered}

-- ---- the script

abbrev IsAnswer : Policy → Type 0
IsAnswer p = (p ≡ Answer (rings_of p)) × (rings_of p ≤ 179)

answer_by : (p : Policy) → IsAnswerInTime p → IsAnswer p
answer_by (Answer n) h = (refl, omega (arith, h))
answer_by p h = absurd h

script_answers : (script : List ScriptRow) (called : Option (List ℕ)) → AnswersInTime script → IsAnswer (policy_of script called)
script_answers [] called h = (refl, omega arith)
script_answers (Follows number policy ∷ rows) called h = by_cases (fits_number number called) _ _ (λ (p : Option Policy). IsAnswer (unwrap_or p (policy_of rows called))) (λ _. answer_by policy h.0) (λ _. script_answers rows called h.1)
script_answers (Calls number moment channel ∷ rows) called h = absurd h.0

script_follows : (script : List ScriptRow) → AnswersInTime script → AllByRecursion IsFollowed script
script_follows [] h = tt
script_follows (Follows number policy ∷ rows) h = (tt, script_follows rows h.1)
script_follows (Calls number moment channel ∷ rows) h = absurd h.0

-- ---- a call that was offered by some moment: where it rings, its timer was begun by then

abbrev AgedIn : ℕ → NetState → Type 0
AgedIn m (CallReceived due) = due ≤ m
AgedIn m (CallPresent offer due) = ⊥
AgedIn m (IncomingCallProceeding due) = ⊥
AgedIn m _ = Unit {0}

abbrev IsAged : ℕ → Standing → Type 0
IsAged m (OnCall c a) = AgedIn m c.state
IsAged m Unoffered = ⊥
IsAged m _ = Unit {0}

aged_over : (m t : ℕ) (a : Activity) → IsAged m (over_at a t)
aged_over m t Never = tt
aged_over m t a = tt

by_aged : (b : Bool) (m t : ℕ) (a : Activity) (x y : Transition PlainNetCall) → IsAged m (follows a t x).standing → IsAged m (follows a t y).standing → IsAged m (follows a t (if b then x else y)).standing
by_aged true m t a x y f g = f
by_aged false m t a x y f g = g

aged_second : (m t end r ch : ℕ) (o : NetOrigin) (s : NetState) (a : Activity) → AgedIn m s → IsAged m (follows a t (net_second (call_of r ch o s) t end)).standing
aged_second m t end r ch o (CallPresent offer due) a h = absurd h
aged_second m t end r ch o (IncomingCallProceeding due) a h = absurd h
aged_second m t end r ch o (CallReceived due) a h = by_aged (nat_le end t) m t a _ _ tt (by_aged (nat_le due t) m t a _ _ tt h)
aged_second m t end r ch o OutgoingCallProceeding a h = by_aged (nat_le end t) m t a _ _ tt tt
aged_second m t end r ch o Active a h = by_aged (nat_le end t) m t a _ _ tt tt
aged_second m t end r ch o (Enquiring NotYet due) a h = by_aged (nat_le end t) m t a _ _ tt (by_aged (nat_le due t) m t a _ _ tt tt)
aged_second m t end r ch o (Enquiring Once due) a h = by_aged (nat_le end t) m t a _ _ tt (by_aged (nat_le due t) m t a _ _ tt tt)
aged_second m t end r ch o (Enquiring Twice due) a h = by_aged (nat_le end t) m t a _ _ tt (by_aged (nat_le due t) m t a _ _ tt tt)
aged_second m t end r ch o (DisconnectIndication cause due) a h = by_aged (nat_le due t) m t a _ _ tt tt
aged_second m t end r ch o (ReleaseRequest NotYet cause due) a h = by_aged (nat_le due t) m t a _ _ tt tt
aged_second m t end r ch o (ReleaseRequest Once cause due) a h = by_aged (nat_le due t) m t a _ _ tt tt
aged_second m t end r ch o (ReleaseRequest Twice cause due) a h = by_aged (nat_le due t) m t a _ _ (aged_over m t a) tt

aged_tick : (m t : ℕ) (e : Entry) (back free : Bool) (s : Standing) → IsAged m s → IsAged m (second_at e t back free s).standing
aged_tick m t e back free (OnCall c a) h = aged_second m t e.booking.end c.reference c.channel c.origin c.state a h
aged_tick m t e back free Unoffered h = absurd h
aged_tick m t e back free s h = h

aged_row : (m t r ch : ℕ) (o : NetOrigin) (x : Heard) (s : NetState) (a : Activity) (k : Kind) → AgedIn m s → IsAged m (follows a t (net_row (call_of r ch o s) x t s k)).standing
aged_row m t r ch o x s a ReleaseComplete h = aged_over m t a
aged_row m t r ch o x s a StatusEnquiry h = h
aged_row m t r ch o x s a Status h = by_aged (reports_null x.state) m t a _ _ (aged_over m t a) h
aged_row m t r ch o x s a Setup h = h
aged_row m t r ch o x (ReleaseRequest sent cause due) a Release h = aged_over m t a
aged_row m t r ch o x s a Release h = aged_over m t a
aged_row m t r ch o x (ReleaseRequest sent cause due) a k h = tt
aged_row m t r ch o x s a Disconnect h = tt
aged_row m t r ch o x (DisconnectIndication cause due) a k h = tt
aged_row m t r ch o x (CallPresent offer due) a k h = absurd h
aged_row m t r ch o x (IncomingCallProceeding due) a k h = absurd h
aged_row m t r ch o x (CallReceived due) a Connect h = tt
aged_row m t r ch o x (CallReceived due) a k h = h
aged_row m t r ch Inward x Active a ConnectAcknowledge h = tt
aged_row m t r ch (Outward called) x Active a ConnectAcknowledge h = tt
aged_row m t r ch o x s a k h = h

aged_awake : (m : ℕ) (s : NetState) → AgedIn m s → AgedIn m (net_awake_state s)
aged_awake m (Enquiring asked due) h = tt
aged_awake m s h = h

aged_hears : (m t : ℕ) (x : Said) (s : Standing) → IsAged m s → IsAged m (hears x t s).standing
aged_hears m t x (OnCall c a) h = heard_by_cases (λ (step : Transition PlainNetCall). IsAged m (follows a t step).standing) c x.heard t c.state x.heard.kind
    (record {
      contradicted = λ asked due is q. tt;
      unacknowledged = λ asked due is q. tt;
      connected = λ due is q. tt;
      put_off = λ offer due is q. absurd (subst (AgedIn m) is h);
      unconnected = λ asked due is q. tt;
      ringing = λ due is q. absurd (subst (AgedIn m) is h);
    })
    (aged_row m t c.reference c.channel c.origin x.heard (net_awake_state c.state) a x.heard.kind (aged_awake m c.state h))
aged_hears m t x s h = h

aged_offered : (m : ℕ) (s : Standing) → is_unoffered s ≡ true → IsAged m s → ⊥
aged_offered m Unoffered h k = k
aged_offered m s h k = false≢true h

aged_heard : (m t i : ℕ) (received : List (List ℕ)) (d : Day) → d.moment ≡ t → IsAged m (standing_at d i) → IsAged m (standing_at (heard_in received d) i)
aged_heard m t i received d at h = heard_entry (λ e. IsAged m e.standing) t i (λ s e k. aged_hears m t s e.standing k) (λ s x e op k. absurd (aged_offered m e.standing (is_open_unoffered x e op) k)) received d at h

-- ---- a call that the exchange began is to the number of its booking

abbrev NumberedAs : List ℕ → NetOrigin → Type 0
NumberedAs number (Outward called) = called ≡ number
NumberedAs number Inward = Unit {0}

abbrev IsNumbered : List ℕ → Standing → Type 0
IsNumbered number (OnCall c a) = NumberedAs number c.origin
IsNumbered number _ = Unit {0}

numbered_over : (number : List ℕ) (t : ℕ) (a : Activity) → IsNumbered number (over_at a t)
numbered_over number t Never = tt
numbered_over number t (Since from) = tt
numbered_over number t (Was from until) = tt

numbered_step : (number : List ℕ) (r ch : ℕ) (o : NetOrigin) (s : NetState) (k : Bool) (a : Activity) (t : ℕ) (said : Option Outgoing) (n : Next PlainNetCall) → NumberedAs number o → OnNext (Goes r ch o s k said) n → IsNumbered number (follow a t said n).standing
numbered_step number r ch o s k a t said (Live c) h g = subst (NumberedAs number) (sym g.origin) h
numbered_step number r ch o s k a t said Over h g = numbered_over number t a
numbered_step number r ch o s k a t said Broken h g = numbered_over number t a

numbered_waits : (t : ℕ) (e : Entry) (back free : Bool) → IsNumbered e.booking.number (waits e t back free).standing
numbered_waits t e back free = by_cases (offers e t free) _ _ (λ (x : Moved). IsNumbered e.booking.number x.standing) (λ _. refl) (λ _. by_cases (nat_le e.booking.end t) _ _ (λ (x : Moved). IsNumbered e.booking.number x.standing) (λ _. tt) (λ _. tt))

numbered_tick : (t : ℕ) (e : Entry) (back free : Bool) (s : Standing) → IsNumbered e.booking.number s → IsNumbered e.booking.number (second_at e t back free s).standing
numbered_tick t e back free (OnCall c a) h =
    let step : Transition PlainNetCall = net_second c t e.booking.end in
    numbered_step e.booking.number c.reference c.channel c.origin c.state false a t step.reply step.next h (second_goes c.reference c.channel c.origin t e.booking.end c.state)
numbered_tick t e back free Unoffered h = numbered_waits t e back free
numbered_tick t e back free s h = h

numbered_hears : (number : List ℕ) (t : ℕ) (x : Said) (s : Standing) → IsNumbered number s → IsNumbered number (hears x t s).standing
numbered_hears number t x (OnCall c a) h =
    let step : Transition PlainNetCall = net_message c x.heard t in
    numbered_step number c.reference c.channel c.origin c.state (shows_connected x.heard.kind x.heard.state) a t step.reply step.next h (heard_goes c.reference c.channel c.origin t x.heard c.state x.heard.kind)
numbered_hears number t x s h = h

numbered_heard : (t i : ℕ) (received : List (List ℕ)) (d : Day) → d.moment ≡ t → IsNumbered (entry_at d.entries i).booking.number (standing_at d i) → IsNumbered (entry_at (heard_in received d).entries i).booking.number (standing_at (heard_in received d) i)
numbered_heard t i received d at h = heard_entry (λ e. IsNumbered e.booking.number e.standing) t i (λ s e k. numbered_hears e.booking.number t s e.standing k) (λ s x e op k. tt) received d at h

idle_numbered : (number : List ℕ) (s : Standing) → is_live s ≡ false → IsNumbered number s
idle_numbered number (OnCall c a) h = absurd (true≢false h)
idle_numbered number s h = tt

-- ---- what such a state shows

-- of a call that the exchange began, to some number
rung_as : (wait : Option (List ℕ) → ℕ) (t : ℕ) (o : NetOrigin) (s : NetState) → IsRungAs wait t o s → (seconds : ℕ) × IsRungState seconds t s
rung_as wait t (Outward number) s h = (wait (Some number), h)
rung_as wait t Inward s h = absurd h

rung_to : (wait : Option (List ℕ) → ℕ) (t : ℕ) (number : List ℕ) (o : NetOrigin) (s : NetState) → NumberedAs number o → IsRungAs wait t o s → IsRungState (wait (Some number)) t s
rung_to wait t number (Outward called) s same h = subst (λ x. IsRungState (wait (Some x)) t s) same h
rung_to wait t number Inward s same h = absurd h

uncleared : (seconds t : ℕ) (s : NetState) → IsRungState seconds t s → net_is_clearing s ≡ false
uncleared seconds t (CallReceived due) h = refl
uncleared seconds t Active h = refl
uncleared seconds t s h = absurd h

unasked : (seconds t : ℕ) (s : NetState) → IsRungState seconds t s → is_asked s ≡ false
unasked seconds t (CallReceived due) h = refl
unasked seconds t Active h = refl
unasked seconds t s h = absurd h

patient : (seconds t : ℕ) (s : NetState) → IsRungState seconds t s → is_given_up (t + 1) s ≡ false
patient seconds t (CallReceived due) h = lt-leb due (t + 1) h.0
patient seconds t Active h = refl
patient seconds t s h = absurd h

aged_from : (seconds t : ℕ) (s : NetState) → DueFits t s → IsRungState seconds t s → AgedIn (t + 180) s
aged_from seconds t (CallReceived due) fits h = fits.1
aged_from seconds t Active fits h = tt
aged_from seconds t s fits h = absurd h

settled_from : (seconds m t : ℕ) (s : NetState) (o : NetOrigin) → t ≡ m + seconds → AgedIn (m + 180) s → IsRungState seconds t s → is_settled_in s o ≡ true
settled_from seconds m t (CallReceived due) o at aged h = let young = h.1 in absurd (omega (arith, at, aged, young))
settled_from seconds m t Active o at aged h = refl
settled_from seconds m t s o at aged h = absurd h

on_live : (s : Standing) (P : PlainNetCall → Activity → Type 0) → ((c : PlainNetCall) (a : Activity) → s ≡ OnCall c a → P c a) → OnLive s P
on_live (OnCall c a) P f = f c a refl
on_live s P f = tt

on_unasked : (s : Standing) → ((c : PlainNetCall) (a : Activity) → s ≡ OnCall c a → is_asked c.state ≡ false) → StandingUnasked s
on_unasked (OnCall c a) f = f c a refl
on_unasked s f = tt

-- ---- turns

-- both ends after so many turns
abbrev ends_at : ℕ → Ends → Ends
ends_at zero e = e
ends_at (suc k) e = ends_at k (ends_after e)

ends_more : (m n : ℕ) (e : Ends) → ends_at (m + n) e ≡ ends_at n (ends_at m e)
ends_more zero n e = ap (λ k. ends_at k e) (let same : 0 + n ≡ n = omega arith in same)
ends_more (suc m) n e = ap (λ k. ends_at k e) (let same : suc m + n ≡ suc (m + n) = omega arith in same) ∙ ends_more m n (ends_after e)

turns_size : (turns : ℕ) (e : Ends) → length (turns_from turns e) ≡ turns
turns_size zero e = refl
turns_size (suc n) e = ap suc (turns_size n (ends_after e))

day_at : (turns k : ℕ) (e : Ends) → k ≤ turns → seconds_after (take k (turns_from turns e)) e.exchange ≡ (ends_at k e).exchange
day_at turns zero e le = refl
day_at zero (suc k) e le = absurd (omega (arith, le))
day_at (suc n) (suc k) e le = day_at n k (ends_after e) (omega (arith, le))

module _ (rows : List Row) (assigned : List (Option ℕ)) (script : List ScriptRow) (ok : AnswersInTime script) where
  abbrev Wait : Option (List ℕ) → ℕ
  Wait called = rings_of (policy_of script called)

  least : (called : Option (List ℕ)) → Wait called ≤ 179
  least called = (script_answers script called ok).1

  few : 179 < 180
  few = omega arith

  abbrev Ending : ℕ → ℕ
  Ending = ends_of rows

  abbrev Ringing : ℕ → Ends → Type 0
  Ringing t e = BetweenBy Wait rows assigned (λ k v w. IsRung Wait Ending k t v w) t e

  ring_turn : (t : ℕ) (e : Ends) → t < 300000 → Ringing t e → TurnedBy rows assigned Wait (λ k v w. IsRung Wait Ending k (t + 1) v w) t e (ends_after e)
  ring_turn t e early h = whole_turn rows assigned Wait (λ k v w. IsRung Wait Ending k t v w) (λ k v w. IsRung Wait Ending k (t + 1) v w) t e early h
      (λ k c far p. rung_called Wait 179 least few Ending k t c far p) (λ k near far called p ticks. rung_whole Wait 179 least few Ending k t (is_back e.exchange) near far called p ticks)

  rung_state : (t : ℕ) (e : Ends) → Ringing t e → (i : ℕ) (c : PlainNetCall) (a : Activity) → standing_at e.exchange i ≡ OnCall c a → IsRungAs Wait t c.origin c.state
  rung_state t e h i c a is =
      let k = (entry_at e.exchange.entries i).channel in
      let p = h.pairs k (days.live_channel rows assigned t i e.exchange c a h.near is) in
      subst (HasRung Wait t) (near_unique rows assigned t e.exchange k i p.call c a h.near p.is is refl) (rung_near Wait 179 least few Ending k t p.call (holder e.far k) p.pair)

  module _ (t : ℕ) (e : Ends) (early : t < 300000) (h : Ringing t e) where
    abbrev Called : Day
    Called = (tick e.exchange).day

    abbrev LeftDay : Day
    LeftDay = (ends_after e).exchange

    turned : TurnedBy rows assigned Wait (λ k v x. IsRung Wait Ending k (t + 1) v x) t e (ends_after e)
    turned = ring_turn t e early h

    state_left : (i : ℕ) (c : PlainNetCall) (a : Activity) → standing_at LeftDay i ≡ OnCall c a → (seconds : ℕ) × IsRungState seconds (t + 1) c.state
    state_left i c a is = rung_as Wait (t + 1) c.origin c.state (rung_state (t + 1) (ends_after e) turned.left i c a is)

    kept_at : (i : ℕ) (s : Standing) → standing_at Called i ≡ s → is_going s ≡ true → is_live (standing_at LeftDay i) ≡ true
    kept_at i (OnCall c a) is going =
        let entry = entry_at Called.entries i in
        let live : is_live (standing_at Called i) ≡ true = ap is_live is in
        let there : i < length Called.entries = live_inside Called.entries i live in
        let size = turned.called.size in
        let inside : i < length rows = omega (arith, there, size) in
        let fits : StandingFits Called.moment entry (OnCall c a) = subst (StandingFits Called.moment entry) is (fits_at Called i turned.called.fits.day) in
        let runs = going_runs Called.moment entry c a fits (not_going (net_is_clearing c.state) going) in
        let on : Called.moment < (row_at rows i).end = subst (λ (r : Row). Called.moment < r.end) (turned.called.fits.framed.0 i inside).booking runs.1 in
        turned.kept i live (let at = turned.called.moment in omega (arith, on, at))
    kept_at i s is going = absurd (false≢true going)

    turn_in_time : IsInTime Called LeftDay
    turn_in_time = record {
      cleared = record {
        cleared = λ i. on_live (standing_at LeftDay i) (λ call a. net_is_clearing call.state ≡ false) (λ c a is. let p = state_left i c a is in uncleared p.0 (t + 1) c.state p.1);
        awake = λ i. on_unasked (standing_at LeftDay i) (λ c a is. let p = state_left i c a is in unasked p.0 (t + 1) c.state p.1);
        kept = λ i going. kept_at i (standing_at Called i) refl going;
      };
      waits = λ i. on_live (standing_at LeftDay i) (λ call a. is_given_up (LeftDay.moment + 1) call.state ≡ false) (λ c a is. subst (λ m. is_given_up (m + 1) c.state ≡ false) (sym turned.left.near.moment) (let p = state_left i c a is in patient p.0 (t + 1) c.state p.1));
    }

  all_in_time : (turns t : ℕ) (e : Ends) → t + turns ≤ 300000 → Ringing t e → AreInTime (turns_from turns e) e.exchange
  all_in_time zero t e low h = tt
  all_in_time (suc n) t e low h = (turn_in_time t e (omega (arith, low)) h, all_in_time n (t + 1) (ends_after e) (omega (arith, low)) (ring_turn t e (omega (arith, low)) h).left)

  ringing_at : (k t : ℕ) (e : Ends) → t + k ≤ 300000 → Ringing t e → Ringing (t + k) (ends_at k e)
  ringing_at zero t e low h = subst (λ n. Ringing n e) (let same : t ≡ t + 0 = omega arith in same) h
  ringing_at (suc k) t e low h = subst (λ n. Ringing n (ends_at k (ends_after e))) (let same : (t + 1) + k ≡ t + suc k = omega arith in same) (ringing_at k (t + 1) (ends_after e) (omega (arith, low)) (ring_turn t e (omega (arith, low)) h).left)

  aged_turn : (m i t : ℕ) (e : Ends) → t < 300000 → Ringing t e → IsAged m (standing_at e.exchange i) → IsAged m (standing_at (ends_after e).exchange i)
  aged_turn m i t e early h aged =
      let d = e.exchange in
      let entry = entry_at d.entries i in
      let soon : d.moment < 300000 = (let at = h.near.moment in omega (arith, at, early)) in
      let ticked : IsAged m (standing_at (tick d).day i) = subst (λ (s : Sent Day). IsAged m (standing_at s.day i)) (sym (tick_is d soon)) (subst (IsAged m) (sym (after_standing Up d i)) (aged_tick m (d.moment + 1) entry (is_back d) (is_free d entry.channel) entry.standing aged)) in
      aged_heard m (t + 1) i (octets_received e) (tick d).day (ring_turn t e early h).called.moment ticked

  aged_run : (m i k t : ℕ) (e : Ends) → t + k ≤ 300000 → Ringing t e → IsAged m (standing_at e.exchange i) → IsAged m (standing_at (ends_at k e).exchange i)
  aged_run m i zero t e low h aged = aged
  aged_run m i (suc k) t e low h aged = aged_run m i k (t + 1) (ends_after e) (omega (arith, low)) (ring_turn t e (omega (arith, low)) h).left (aged_turn m i t e (omega (arith, low)) h aged)

  numbered_turn : (i t : ℕ) (e : Ends) → t < 300000 → Ringing t e → IsNumbered (entry_at e.exchange.entries i).booking.number (standing_at e.exchange i) → IsNumbered (entry_at (ends_after e).exchange.entries i).booking.number (standing_at (ends_after e).exchange i)
  numbered_turn i t e early h numbered =
      let d = e.exchange in
      let entry = entry_at d.entries i in
      let soon : d.moment < 300000 = (let at = h.near.moment in omega (arith, at, early)) in
      let after : IsNumbered (entry_at (passed_in Up d).day.entries i).booking.number (standing_at (passed_in Up d).day i) = subst (λ (x : Entry). IsNumbered x.booking.number x.standing) (sym (at_map_in Up d d.entries i)) (numbered_tick (d.moment + 1) entry (is_back d) (is_free d entry.channel) entry.standing numbered) in
      let ticked : IsNumbered (entry_at (tick d).day.entries i).booking.number (standing_at (tick d).day i) = subst (λ (s : Sent Day). IsNumbered (entry_at s.day.entries i).booking.number (standing_at s.day i)) (sym (tick_is d soon)) after in
      numbered_heard (t + 1) i (octets_received e) (tick d).day (ring_turn t e early h).called.moment ticked

  numbered_run : (i k t : ℕ) (e : Ends) → t + k ≤ 300000 → Ringing t e → IsNumbered (entry_at e.exchange.entries i).booking.number (standing_at e.exchange i) → IsNumbered (entry_at (ends_at k e).exchange.entries i).booking.number (standing_at (ends_at k e).exchange i)
  numbered_run i zero t e low h numbered = numbered
  numbered_run i (suc k) t e low h numbered = numbered_run i k (t + 1) (ends_after e) (omega (arith, low)) (ring_turn t e (omega (arith, low)) h).left (numbered_turn i t e (omega (arith, low)) h numbered)

  -- the state of the call of row i, by its number
  numbered_state : (t : ℕ) (e : Ends) → Ringing t e → (i : ℕ) → IsNumbered (entry_at e.exchange.entries i).booking.number (standing_at e.exchange i) → (c : PlainNetCall) (a : Activity) → standing_at e.exchange i ≡ OnCall c a → IsRungState (rings_for script rows i) t c.state
  numbered_state t e h i numbered c a is =
      let there : i < length e.exchange.entries = live_inside e.exchange.entries i (ap is_live is) in
      let inside : i < length rows = (let size = h.near.size in omega (arith, there, size)) in
      let to : NumberedAs (row_at rows i).number c.origin = subst (λ (r : Row). NumberedAs r.number c.origin) (h.near.fits.framed.0 i inside).booking (subst (IsNumbered (entry_at e.exchange.entries i).booking.number) is numbered) in
      rung_to Wait t (row_at rows i).number c.origin c.state to (rung_state t e h i c a is)

  -- a call that is live is Active when the seconds of its number are over
  settled_later : (i t : ℕ) (e : Ends) → t + rings_for script rows i ≤ 300000 → Ringing t e → IsNumbered (entry_at e.exchange.entries i).booking.number (standing_at e.exchange i) → is_live (standing_at e.exchange i) ≡ true → OnLive (standing_at (ends_at (rings_for script rows i) e).exchange i) (λ call a. is_settled call ≡ true)
  settled_later i t e low h numbered live =
      let seconds = rings_for script rows i in
      let after = ringing_at seconds t e low h in
      on_live (standing_at (ends_at seconds e).exchange i) (λ call a. is_settled call ≡ true)
      (λ c a is. settled_from seconds t (t + seconds) c.state c.origin refl (subst (IsAged (t + 180)) is (aged_run (t + 180) i seconds t e low h (aged_now (standing_at e.exchange i) refl live))) (numbered_state (t + seconds) (ends_at seconds e) after i (numbered_run i seconds t e low h numbered) c a is))
    where
      aged_now : (s : Standing) → standing_at e.exchange i ≡ s → is_live s ≡ true → IsAged (t + 180) (standing_at e.exchange i)
      aged_now (OnCall c a) is l =
          let entry = entry_at e.exchange.entries i in
          let fits : StandingFits e.exchange.moment entry (OnCall c a) = subst (StandingFits e.exchange.moment entry) is (fits_at e.exchange i h.near.fits.day) in
          subst (IsAged (t + 180)) (sym is) (aged_from (rings_for script rows i) t c.state (subst (λ n. DueFits n c.state) h.near.moment fits.due) (numbered_state t e h i numbered c a is))
      aged_now s is l = absurd (false≢true l)

module _ (rows : List Row) (channels : List Bool) (assigned : List (Option ℕ)) (script : List ScriptRow) (turns : ℕ) (b : AreBookings rows) (set : IsChannelSet channels) (carries : Carries rows channels (is_accepted assigned) (channel_at assigned)) (ok : AnswersInTime script) (short : turns ≤ 300000) where
  abbrev Opened : Ends
  Opened = ends_opening rows assigned script

  opening_rings : Ringing rows assigned script ok 0 Opened
  opening_rings =
      let near = near_opens rows channels assigned b set carries in
      let far = far_opens (λ called. rings_of (policy_of script called)) (chan_of assigned) script (λ called. (script_answers script called ok).0) (script_follows script ok) in
      record {
        near = near.fits;
        far = far.0;
        pending = tt;
        silent = λ k ch. refl;
        pairs = λ k ch. record { call = None; is = near.here k; pair = Idle refl (far.1 k) };
        alive = λ i inside accepted later. inl (ap (λ (e : Entry). e.standing) (opening_at 1 (i + 1) rows assigned i (let q : 1 + i ≡ i + 1 = omega arith in q) inside) ∙ waits_of (i + 1) (row_at rows i) (slice_index_or assigned i None) accepted);
      }

  pub answers_within : AreAnsweredWithin (rings_for script rows) (turns_from turns Opened) (opening rows assigned)
  answers_within = record {
    in_time = all_in_time rows assigned script ok turns 0 Opened (omega (arith, short)) opening_rings;
    answers = λ i m live link.
        (let seconds = rings_for script rows i in
        let size = turns_size turns Opened in
        let inside : 0 + (m + seconds) ≤ 0 + length (turns_from turns Opened) = link_inside (turns_from turns Opened) 0 (0 + (m + seconds)) link in
        let e : Ends = ends_at m Opened in
        let h = ringing_at rows assigned script ok m 0 Opened (omega (arith, size, inside, short)) opening_rings in
        let numbered = numbered_run rows assigned script ok i m 0 Opened (omega (arith, size, inside, short)) opening_rings (idle_numbered (entry_at (opening rows assigned).entries i).booking.number (standing_at (opening rows assigned) i) (idle_at 1 rows assigned i)) in
        let now : is_live (standing_at e.exchange i) ≡ true = subst (λ (d : Day). is_live (standing_at d i) ≡ true) (day_at turns m Opened (omega (arith, size, inside))) live in
        subst (λ (d : Day). OnLive (standing_at d i) (λ call a. is_settled call ≡ true)) (sym (day_at turns (m + seconds) Opened (omega (arith, size, inside)) ∙ ap (λ (x : Ends). x.exchange) (ends_more m seconds Opened)))
        (settled_later rows assigned script ok i (0 + m) e (omega (arith, size, inside, short)) h numbered now));
  }

  -- ---- so what it is called for is carried

  size : length (heard_by turns Opened) ≡ turns
  size = heard_size turns Opened

  answers_turns : AreAnsweredWithin (rings_for script rows) (on_link (heard_by turns Opened)) (opening rows assigned)
  answers_turns = subst (λ (ss : List LiveSecond). AreAnsweredWithin (rings_for script rows) ss (opening rows assigned)) (turns_heard turns Opened) answers_within

  pub rung_carries : (i : ℕ) → IsLongEnoughToRing rows assigned (rings_for script rows) i turns → IsCarriedBy ((row_at rows i).start + 1 + rings_for script rows i) (row_at rows i).end (standing_at (live_day_after (events_of (turns_from turns Opened)) (opening rows assigned)) i)
  rung_carries i k = subst (λ (ss : List LiveSecond). IsCarriedBy ((row_at rows i).start + 1 + rings_for script rows i) (row_at rows i).end (standing_at (live_day_after (events_of ss) (opening rows assigned)) i)) (sym (turns_heard turns Opened))
      (rung_unbroken rows channels assigned (rings_for script rows) (heard_by turns Opened) i b carries (omega (arith, short, size)) answers_turns (subst (IsLongEnoughToRing rows assigned (rings_for script rows) i) (sym size) k))
