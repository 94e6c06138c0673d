-- A booking's standing while it is carried: what a second and a message make of it.
use Rattle.bx_events.specs.declared.rules.Rules.TheVariants.{Three}
use Rattle.std.proofs.Common.{◌≡◌, ℕ, ◌≤◌, ◌<◌, Bool, true, false, Option, ◌&&◌, not, arith, refl, sym, subst, ◌∙◌, nat_le, inl, inr, ◌⊎◌, if◌then◌else◌}
use Rattle.std.proofs.lemmas.Bool.{leb-true, leb-false, true≢false, false≢true}
use Rattle.bx_q931.specs.Outgoing.{Outgoing}
use Rattle.bx_q931.specs.declared.kind.Kind.{Kind}
use Rattle.bx_q931.specs.declared.kind.Kind.TheVariants.{Status}
use Rattle.bx_calls.specs.declared.transition.Transition.{Transition}
use Rattle.bx_calls.specs.declared.transition.Next.{Next}
use Rattle.bx_calls.specs.declared.transition.Next.TheVariants.{Live, Over, Broken}
use Rattle.bx_calls.specs.PlainCalls.{PlainNetCall}
use Rattle.bx_calls.specs.declared.times.Times.TheVariants.{NotYet, Once, Twice}
use Rattle.bx_calls.specs.declared.net_state.Offer.TheVariants.{Second}
use Rattle.bx_calls.specs.declared.net_state.NetOrigin.{NetOrigin}
use Rattle.bx_calls.specs.declared.net_state.NetOrigin.TheVariants.{Inward}
use Rattle.bx_calls.specs.declared.net_state.NetState.{NetState}
use Rattle.bx_calls.specs.declared.net_state.NetState.TheVariants.{OutgoingCallProceeding, CallPresent, IncomingCallProceeding, CallReceived, Active, Enquiring, DisconnectIndication, ReleaseRequest}
use Rattle.bx_calls.specs.Hearing.{Heard, reports_null}
use Rattle.bx_calls.specs.NetTable.{net_row, net_awake_state, net_message, net_second, net_unlinked, net_is_clearing}
use Rattle.bx_calls.specs.Said.{Said}
use Rattle.bx_day.specs.Day.{is_live}
use Rattle.bx_two_ends.specs.Asking.{is_asked, StandingUnasked}
use Rattle.bx_day.specs.Moves.{activity_after, is_active, over_at, follow, follows}
use Rattle.bx_day.specs.Receipts.{hears}
use Rattle.bx_day.specs.Ticks.{second_at, unlinked_at, waits}
use Rattle.bx_day.specs.Invariant.{CallFits, StandingFits}
use Rattle.bx_two_ends.specs.Earning.{is_settled, is_going, IsCarriedBy}
use Rattle.bx_day.specs.declared.entry.Activity.{Activity}
use Rattle.bx_day.specs.declared.entry.Activity.TheVariants.{Never, Since, Was}
use Rattle.bx_day.specs.declared.entry.Entry.{Entry}
use Rattle.bx_day.specs.declared.entry.Moved.{Moved}
use Rattle.bx_day.specs.declared.entry.Standing.{Standing}
use Rattle.bx_day.specs.declared.entry.Standing.TheVariants.{Unoffered, OnCall, Carried}
use Rattle.bx_day.proofs.Hear.{heard_by}
use Rattle.bx_day.proofs.Second.{call_of}
use Rattle.bx_day.proofs.Tick.{by_cases, offers}

-- ---- Active since this moment or before; cleared at its end; carried

abbrev SinceBy : ℕ → Activity → Type 0
SinceBy u (Since from) = from ≤ u
SinceBy u _ = ⊥

abbrev TalksBy : ℕ → NetState → Activity → Type 0
TalksBy u Active a = SinceBy u a
TalksBy u (Enquiring asked due) a = SinceBy u a
TalksBy u _ a = ⊥

abbrev pub IsUp : ℕ → Standing → Type 0
IsUp u (OnCall c a) = TalksBy u c.state a
IsUp u _ = ⊥

abbrev WasBy : ℕ → ℕ → Activity → Type 0
WasBy u end (Was from until) = (from ≤ u) × (until ≡ end)
WasBy u end _ = ⊥

abbrev ClearsBy : ℕ → ℕ → NetState → Activity → Type 0
ClearsBy u end (DisconnectIndication cause due) a = WasBy u end a
ClearsBy u end (ReleaseRequest again cause due) a = WasBy u end a
ClearsBy u end _ a = ⊥

abbrev pub IsOver : ℕ → ℕ → Standing → Type 0
IsOver u end (OnCall c a) = ClearsBy u end c.state a
IsOver u end (Carried from until) = (from ≤ u) × (until ≡ end)
IsOver u end _ = ⊥

-- a step by a test
by_step : (b : Bool) (P : Standing → Type 0) (a : Activity) (t : ℕ) (x y : Transition PlainNetCall) → (b ≡ true → P (follows a t x).standing) → (b ≡ false → P (follows a t y).standing) → P (follows a t (if b then x else y)).standing
by_step true P a t x y f g = f refl
by_step false P a t x y f g = g refl

-- RELEASE or STATUS ENQUIRY was sent, and waits for its answer
abbrev pub is_pressed : NetState → Bool
is_pressed (ReleaseRequest again cause due) = true
is_pressed (Enquiring Once due) = true
is_pressed (Enquiring Twice due) = true
is_pressed _ = false

abbrev pub IsQuietCall : Standing → Type 0
IsQuietCall (OnCall c a) = is_pressed c.state ≡ false
IsQuietCall _ = Unit {0}

-- ---- a tick

up_second : (u t end r ch : ℕ) (o : NetOrigin) (s : NetState) (a : Activity) → TalksBy u s a → is_pressed s ≡ false → t < end → IsUp u (follows a t (net_second (call_of r ch o s) t end)).standing
up_second u t end r ch o Active (Since from) h q lt = by_step (nat_le end t) (IsUp u) (Since from) t _ _ (λ ended. let le : end ≤ t = leb-true end t ended in absurd (omega (arith, le, lt))) (λ _. h)
up_second u t end r ch o (Enquiring NotYet due) (Since from) h q lt = by_step (nat_le end t) (IsUp u) (Since from) t _ _ (λ ended. let le : end ≤ t = leb-true end t ended in absurd (omega (arith, le, lt))) (λ _. by_step (nat_le due t) (IsUp u) (Since from) t _ _ (λ _. h) (λ _. h))
up_second u t end r ch o (Enquiring Once due) (Since from) h q lt = absurd (true≢false q)
up_second u t end r ch o (Enquiring Twice due) (Since from) h q lt = absurd (true≢false q)
up_second u t end r ch o s a h q lt = absurd h

end_second : (u t end r ch : ℕ) (o : NetOrigin) (s : NetState) (a : Activity) → TalksBy u s a → t ≡ end → IsOver u end (follows a t (net_second (call_of r ch o s) t end)).standing
end_second u t end r ch o Active (Since from) h is = by_step (nat_le end t) (IsOver u end) (Since from) t _ _ (λ _. (h, is)) (λ runs. let lt : t < end = leb-false end t runs in absurd (omega (arith, is, lt)))
end_second u t end r ch o (Enquiring asked due) (Since from) h is = by_step (nat_le end t) (IsOver u end) (Since from) t _ _ (λ _. (h, is)) (λ runs. let lt : t < end = leb-false end t runs in absurd (omega (arith, is, lt)))
end_second u t end r ch o s a h is = absurd h

over_second : (u t end r ch : ℕ) (o : NetOrigin) (s : NetState) (a : Activity) → ClearsBy u end s a → IsOver u end (follows a t (net_second (call_of r ch o s) t end)).standing
over_second u t end r ch o (DisconnectIndication cause due) (Was from until) h = by_step (nat_le due t) (IsOver u end) (Was from until) t _ _ (λ _. h) (λ _. h)
over_second u t end r ch o (ReleaseRequest Twice cause due) (Was from until) h = by_step (nat_le due t) (IsOver u end) (Was from until) t _ _ (λ _. h) (λ _. h)
over_second u t end r ch o (ReleaseRequest sent cause due) (Was from until) h = by_step (nat_le due t) (IsOver u end) (Was from until) t _ _ (λ _. h) (λ _. h)
over_second u t end r ch o s a h = absurd h

pub up_tick : (u t : ℕ) (e : Entry) (back free : Bool) (s : Standing) → IsUp u s → IsQuietCall s → t < e.booking.end → IsUp u (second_at e t back free s).standing
up_tick u t e back free (OnCall c a) h q lt = up_second u t e.booking.end c.reference c.channel c.origin c.state a h q lt
up_tick u t e back free s h q lt = absurd h

pub end_tick : (u t : ℕ) (e : Entry) (back free : Bool) (s : Standing) → IsUp u s → t ≡ e.booking.end → IsOver u e.booking.end (second_at e t back free s).standing
end_tick u t e back free (OnCall c a) h is = end_second u t e.booking.end c.reference c.channel c.origin c.state a h is
end_tick u t e back free s h is = absurd h

pub over_tick : (u t : ℕ) (e : Entry) (back free : Bool) (s : Standing) → IsOver u e.booking.end s → IsOver u e.booking.end (second_at e t back free s).standing
over_tick u t e back free (OnCall c a) h = over_second u t e.booking.end c.reference c.channel c.origin c.state a h
over_tick u t e back free (Carried from until) h = h
over_tick u t e back free s h = absurd h

-- a booking that waits is offered where it can be, and waits on else
pub waits_offered : (t : ℕ) (e : Entry) (back free : Bool) → offers e t free ≡ true → is_going (waits e t back free).standing ≡ true
waits_offered t e back free can = by_cases (offers e t free) _ _ (λ (m : Moved). is_going m.standing ≡ true) (λ _. refl) (λ stays. absurd (true≢false (sym can ∙ stays)))

pub waits_stays : (t : ℕ) (e : Entry) (back free : Bool) → offers e t free ≡ false → t < e.booking.end → (waits e t back free).standing ≡ Unoffered
waits_stays t e back free stays lt = by_cases (offers e t free) _ _ (λ (m : Moved). m.standing ≡ Unoffered) (λ yes. absurd (true≢false (sym yes ∙ stays))) (λ _.
    by_cases (nat_le e.booking.end t) _ _ (λ (m : Moved). m.standing ≡ Unoffered) (λ ended. let le : e.booking.end ≤ t = leb-true e.booking.end t ended in absurd (omega (arith, le, lt))) (λ _. refl))

-- ---- a second without a link

up_still : (u t end r ch : ℕ) (o : NetOrigin) (s : NetState) (a : Activity) → TalksBy u s a → t < end → IsUp u (follows a t (net_unlinked Three 1 (call_of r ch o s) t end)).standing
up_still u t end r ch o Active (Since from) h lt = by_step (nat_le end t) (IsUp u) (Since from) t _ _ (λ ended. let le : end ≤ t = leb-true end t ended in absurd (omega (arith, le, lt))) (λ _. h)
up_still u t end r ch o (Enquiring asked due) (Since from) h lt = by_step (nat_le end t) (IsUp u) (Since from) t _ _ (λ ended. let le : end ≤ t = leb-true end t ended in absurd (omega (arith, le, lt))) (λ _. h)
up_still u t end r ch o s a h lt = absurd h

end_still : (u t end r ch : ℕ) (o : NetOrigin) (s : NetState) (a : Activity) → TalksBy u s a → t ≡ end → IsOver u end (follows a t (net_unlinked Three 1 (call_of r ch o s) t end)).standing
end_still u t end r ch o Active (Since from) h is = by_step (nat_le end t) (IsOver u end) (Since from) t _ _ (λ _. (h, is)) (λ runs. let lt : t < end = leb-false end t runs in absurd (omega (arith, is, lt)))
end_still u t end r ch o (Enquiring asked due) (Since from) h is = by_step (nat_le end t) (IsOver u end) (Since from) t _ _ (λ _. (h, is)) (λ runs. let lt : t < end = leb-false end t runs in absurd (omega (arith, is, lt)))
end_still u t end r ch o s a h is = absurd h

over_still : (u t end r ch : ℕ) (o : NetOrigin) (s : NetState) (a : Activity) → ClearsBy u end s a → IsOver u end (follows a t (net_unlinked Three 1 (call_of r ch o s) t end)).standing
over_still u t end r ch o (DisconnectIndication cause due) (Was from until) h = h
over_still u t end r ch o (ReleaseRequest again cause due) (Was from until) h = h
over_still u t end r ch o s a h = absurd h

pub up_unlinked : (u t : ℕ) (e : Entry) (s : Standing) → IsUp u s → t < e.booking.end → IsUp u (unlinked_at Three e t s).standing
up_unlinked u t e (OnCall c a) h lt = up_still u t e.booking.end c.reference c.channel c.origin c.state a h lt
up_unlinked u t e s h lt = absurd h

pub end_unlinked : (u t : ℕ) (e : Entry) (s : Standing) → IsUp u s → t ≡ e.booking.end → IsOver u e.booking.end (unlinked_at Three e t s).standing
end_unlinked u t e (OnCall c a) h is = end_still u t e.booking.end c.reference c.channel c.origin c.state a h is
end_unlinked u t e s h is = absurd h

pub over_unlinked : (u t : ℕ) (e : Entry) (s : Standing) → IsOver u e.booking.end s → IsOver u e.booking.end (unlinked_at Three e t s).standing
over_unlinked u t e (OnCall c a) h = over_still u t e.booking.end c.reference c.channel c.origin c.state a h
over_unlinked u t e (Carried from until) h = h
over_unlinked u t e s h = absurd h

-- ---- Active is not being cleared

talks_going : (u : ℕ) (s : NetState) (a : Activity) → TalksBy u s a → not (net_is_clearing s) ≡ true
talks_going u Active a up = refl
talks_going u (Enquiring asked due) a up = refl
talks_going u s a up = absurd up

pub up_going : (u : ℕ) (s : Standing) → IsUp u s → is_going s ≡ true
up_going u (OnCall c a) up = talks_going u c.state a up
up_going u s up = absurd up

-- ---- a message

-- once it was Active, a call is Active since the same moment or never again
abbrev KeptBy : ℕ → Activity → Type 0
KeptBy u Never = ⊥
KeptBy u (Since from) = from ≤ u
KeptBy u (Was from until) = Unit {0}

abbrev pub IsKept : ℕ → Standing → Type 0
IsKept u (OnCall c a) = KeptBy u a
IsKept u Unoffered = ⊥
IsKept u _ = Unit {0}

kept_after : (u t : ℕ) (a : Activity) (b : Bool) → KeptBy u a → KeptBy u (activity_after a b t)
kept_after u t Never b h = absurd h
kept_after u t (Since from) true h = h
kept_after u t (Since from) false h = tt
kept_after u t (Was from until) b h = tt

kept_over : (u t : ℕ) (a : Activity) → IsKept u (over_at a t)
kept_over u t Never = tt
kept_over u t a = tt

kept_follow : (u t : ℕ) (a : Activity) (said : Option Outgoing) (n : Next PlainNetCall) → KeptBy u a → IsKept u (follow a t said n).standing
kept_follow u t a said (Live c) h = kept_after u t a (is_active c.state) h
kept_follow u t a said Over h = kept_over u t a
kept_follow u t a said Broken h = kept_over u t a

pub kept_hears : (u t : ℕ) (m : Said) (s : Standing) → IsKept u s → IsKept u (hears m t s).standing
kept_hears u t m (OnCall c a) h = kept_follow u t a (net_message c m.heard t).reply (net_message c m.heard t).next h
kept_hears u t m s h = h

talks_kept : (u : ℕ) (s : NetState) (a : Activity) → TalksBy u s a → KeptBy u a
talks_kept u Active (Since from) h = h
talks_kept u (Enquiring asked due) (Since from) h = h
talks_kept u s a h = absurd h

pub up_kept : (u : ℕ) (s : Standing) → IsUp u s → IsKept u s
up_kept u (OnCall c a) h = talks_kept u c.state a h
up_kept u s h = absurd h

-- a call that is being cleared stays so, or is over
over_row : (u t end r ch : ℕ) (o : NetOrigin) (m : Heard) (s : NetState) (a : Activity) (k : Kind) → ClearsBy u end s a → IsOver u end (follows a t (net_row (call_of r ch o s) m t s k)).standing
over_row u t end r ch o m (DisconnectIndication cause due) (Was from until) Status h = by_step (reports_null m.state) (IsOver u end) (Was from until) t _ _ (λ _. h) (λ _. h)
over_row u t end r ch o m (ReleaseRequest again cause due) (Was from until) Status h = by_step (reports_null m.state) (IsOver u end) (Was from until) t _ _ (λ _. h) (λ _. h)
over_row u t end r ch o m (DisconnectIndication cause due) Never k h = absurd h
over_row u t end r ch o m (DisconnectIndication cause due) (Since from) k h = absurd h
over_row u t end r ch o m (ReleaseRequest again cause due) Never k h = absurd h
over_row u t end r ch o m (ReleaseRequest again cause due) (Since from) k h = absurd h
over_row u t end r ch o m OutgoingCallProceeding a k h = absurd h
over_row u t end r ch o m (CallPresent again due) a k h = absurd h
over_row u t end r ch o m (IncomingCallProceeding due) a k h = absurd h
over_row u t end r ch o m (CallReceived due) a k h = absurd h
over_row u t end r ch o m Active a k h = absurd h
over_row u t end r ch o m (Enquiring asked due) a k h = absurd h
over_row u t end r ch o m s (Was from until) k h = h

over_awake : (u end : ℕ) (s : NetState) (a : Activity) → ClearsBy u end s a → ClearsBy u end (net_awake_state s) a
over_awake u end (Enquiring asked due) a h = absurd h
over_awake u end s a h = h

pub over_hears : (u t end : ℕ) (m : Said) (s : Standing) → IsOver u end s → IsOver u end (hears m t s).standing
over_hears u t end m (OnCall c a) h = heard_by (λ (x : Transition PlainNetCall). IsOver u end (follows a t x).standing) c m.heard t c.state m.heard.kind
    (record {
      contradicted = λ asked due is q. absurd (subst (λ (s : NetState). ClearsBy u end s a) is h);
      unacknowledged = λ asked due is q. absurd (subst (λ (s : NetState). ClearsBy u end s a) is h);
      connected = λ due is q. absurd (subst (λ (s : NetState). ClearsBy u end s a) is h);
      put_off = λ offer due is q. absurd (subst (λ (s : NetState). ClearsBy u end s a) is h);
      unconnected = λ asked due is q. absurd (subst (λ (s : NetState). ClearsBy u end s a) is h);
      ringing = λ due is q. absurd (subst (λ (s : NetState). ClearsBy u end s a) is h);
    })
    (over_row u t end c.reference c.channel c.origin m.heard (net_awake_state c.state) a m.heard.kind (over_awake u end c.state a h))
over_hears u t end m (Carried from until) h = h
over_hears u t end m s h = absurd h

-- ---- a call that is settled

settled_at : (u t : ℕ) (e : Entry) (r ch : ℕ) (o : NetOrigin) (s : NetState) (a : Activity) → CallFits t e (call_of r ch o s) a → is_settled (call_of r ch o s) ≡ true → e.booking.inward ≡ false → t ≤ u → TalksBy u s a
settled_at u t e r ch o Active (Since from) h is out le = omega (arith, le, h.activity.1)
settled_at u t e r ch o Active Never h is out le = absurd h.activity
settled_at u t e r ch o Active (Was from until) h is out le = absurd h.activity
settled_at u t e r ch Inward OutgoingCallProceeding a h is out le = absurd (true≢false (sym h.origin ∙ out))
settled_at u t e r ch o s a h is out le = absurd (false≢true is)

-- an outward call that is settled is Active, since this moment or before
pub settled_up : (u t : ℕ) (e : Entry) (c : PlainNetCall) (a : Activity) → CallFits t e c a → is_settled c ≡ true → e.booking.inward ≡ false → t ≤ u → IsUp u (OnCall c a)
settled_up u t e c a h is out le = settled_at u t e c.reference c.channel c.origin c.state a h is out le

-- a call that was Active, and is not being cleared, is Active since the same moment
going_at : (u t : ℕ) (e : Entry) (r ch : ℕ) (o : NetOrigin) (s : NetState) (a : Activity) → CallFits t e (call_of r ch o s) a → net_is_clearing s ≡ false → KeptBy u a → TalksBy u s a
going_at u t e r ch o Active (Since from) h is kept = kept
going_at u t e r ch o Active Never h is kept = absurd kept
going_at u t e r ch o (Enquiring asked due) (Since from) h is kept = kept
going_at u t e r ch o s Never h is kept = absurd kept
going_at u t e r ch o (DisconnectIndication cause due) (Since from) h is kept = absurd (true≢false is)
going_at u t e r ch o (DisconnectIndication cause due) (Was from until) h is kept = absurd (true≢false is)
going_at u t e r ch o (ReleaseRequest again cause due) (Since from) h is kept = absurd (true≢false is)
going_at u t e r ch o (ReleaseRequest again cause due) (Was from until) h is kept = absurd (true≢false is)
going_at u t e r ch o s a h is kept = absurd h.activity

pub going_up : (u t : ℕ) (e : Entry) (c : PlainNetCall) (a : Activity) → CallFits t e c a → net_is_clearing c.state ≡ false → IsKept u (OnCall c a) → IsUp u (OnCall c a)
going_up u t e c a h is kept = going_at u t e c.reference c.channel c.origin c.state a h is kept

runs_at_state : (t : ℕ) (e : Entry) (r ch : ℕ) (o : NetOrigin) (s : NetState) (a : Activity) → CallFits t e (call_of r ch o s) a → net_is_clearing s ≡ false → (e.booking.start ≤ t) × (t < e.booking.end)
runs_at_state t e r ch o (DisconnectIndication cause due) a h is = absurd (true≢false is)
runs_at_state t e r ch o (ReleaseRequest again cause due) a h is = absurd (true≢false is)
runs_at_state t e r ch o s a h is = h.phase

-- its booking runs
pub going_runs : (t : ℕ) (e : Entry) (c : PlainNetCall) (a : Activity) → CallFits t e c a → net_is_clearing c.state ≡ false → (e.booking.start ≤ t) × (t < e.booking.end)
going_runs t e c a h is = runs_at_state t e c.reference c.channel c.origin c.state a h is

settled_going_in : (r ch : ℕ) (o : NetOrigin) (s : NetState) → is_settled (call_of r ch o s) ≡ true → net_is_clearing s ≡ false
settled_going_in r ch o (Enquiring asked due) is = absurd (false≢true is)
settled_going_in r ch o (DisconnectIndication cause due) is = absurd (false≢true is)
settled_going_in r ch o (ReleaseRequest again cause due) is = absurd (false≢true is)
settled_going_in r ch o s is = refl

pub settled_going : (c : PlainNetCall) → is_settled c ≡ true → net_is_clearing c.state ≡ false
settled_going c is = settled_going_in c.reference c.channel c.origin c.state is

settled_unasked_in : (r ch : ℕ) (o : NetOrigin) (s : NetState) → is_settled (call_of r ch o s) ≡ true → is_asked s ≡ false
settled_unasked_in r ch o (Enquiring asked due) is = absurd (false≢true is)
settled_unasked_in r ch o s is = refl

pub settled_unasked : (c : PlainNetCall) → is_settled c ≡ true → is_asked c.state ≡ false
settled_unasked c is = settled_unasked_in c.reference c.channel c.origin c.state is

not_cleared : (u end : ℕ) (s : NetState) (a : Activity) → ClearsBy u end s a → net_is_clearing s ≡ false → ⊥
not_cleared u end (DisconnectIndication cause due) a h is = true≢false is
not_cleared u end (ReleaseRequest again cause due) a h is = true≢false is
not_cleared u end s a h is = h

-- a call that was being cleared, and is no more, is over
pub over_cleared : (u end : ℕ) (s : Standing) → IsOver u end s → ((c : PlainNetCall) (a : Activity) → s ≡ OnCall c a → net_is_clearing c.state ≡ false) → IsCarriedBy u end s
over_cleared u end (OnCall c a) h f = absurd (not_cleared u end c.state a h (f c a refl))
over_cleared u end (Carried from until) h f = h
over_cleared u end s h f = absurd h

pub carried_over : (u end : ℕ) (s : Standing) → IsCarriedBy u end s → IsOver u end s
carried_over u end (Carried from until) h = h
carried_over u end s h = absurd h

-- what is carried stays so
pub carried_tick : (u t : ℕ) (e : Entry) (back free : Bool) (s : Standing) → IsCarriedBy u e.booking.end s → IsCarriedBy u e.booking.end (second_at e t back free s).standing
carried_tick u t e back free (Carried from until) h = h
carried_tick u t e back free s h = absurd h

pub carried_unlinked : (u t : ℕ) (e : Entry) (s : Standing) → IsCarriedBy u e.booking.end s → IsCarriedBy u e.booking.end (unlinked_at Three e t s).standing
carried_unlinked u t e (Carried from until) h = h
carried_unlinked u t e s h = absurd h

-- ---- no RELEASE waits between two turns, so no channel breaks

whole_step : (b : Bool) (a : Activity) (t : ℕ) (x y : Transition PlainNetCall) → (follows a t x).broken ≡ false → (follows a t y).broken ≡ false → (follows a t (if b then x else y)).broken ≡ false
whole_step true a t x y f g = f
whole_step false a t x y f g = g

whole_second : (t end r ch : ℕ) (o : NetOrigin) (s : NetState) (a : Activity) → is_pressed s ≡ false → (follows a t (net_second (call_of r ch o s) t end)).broken ≡ false
whole_second t end r ch o OutgoingCallProceeding a h = whole_step (nat_le end t) a t _ _ refl refl
whole_second t end r ch o (CallPresent Second due) a h = whole_step (nat_le end t) a t _ _ refl (whole_step (nat_le due t) a t _ _ refl refl)
whole_second t end r ch o (CallPresent offer due) a h = whole_step (nat_le end t) a t _ _ refl (whole_step (nat_le due t) a t _ _ refl refl)
whole_second t end r ch o (IncomingCallProceeding due) a h = whole_step (nat_le end t) a t _ _ refl (whole_step (nat_le due t) a t _ _ refl refl)
whole_second t end r ch o (CallReceived due) a h = whole_step (nat_le end t) a t _ _ refl (whole_step (nat_le due t) a t _ _ refl refl)
whole_second t end r ch o Active a h = whole_step (nat_le end t) a t _ _ refl refl
whole_second t end r ch o (Enquiring NotYet due) a h = whole_step (nat_le end t) a t _ _ refl (whole_step (nat_le due t) a t _ _ refl refl)
whole_second t end r ch o (Enquiring Once due) a h = whole_step (nat_le end t) a t _ _ refl (whole_step (nat_le due t) a t _ _ refl refl)
whole_second t end r ch o (Enquiring Twice due) a h = whole_step (nat_le end t) a t _ _ refl (whole_step (nat_le due t) a t _ _ refl refl)
whole_second t end r ch o (DisconnectIndication cause due) a h = whole_step (nat_le due t) a t _ _ refl refl
whole_second t end r ch o (ReleaseRequest again cause due) a h = absurd (true≢false h)

whole_waits : (e : Entry) (t : ℕ) (back free : Bool) → (waits e t back free).broken ≡ false
whole_waits e t back free = by_cases (offers e t free) _ _ (λ (m : Moved). m.broken ≡ false) (λ _. refl) (λ _. by_cases (nat_le e.booking.end t) _ _ (λ (m : Moved). m.broken ≡ false) (λ _. refl) (λ _. refl))

pub whole_tick : (t : ℕ) (e : Entry) (back free : Bool) (s : Standing) → IsQuietCall s → (second_at e t back free s).broken ≡ false
whole_tick t e back free (OnCall c a) h = whole_second t e.booking.end c.reference c.channel c.origin c.state a h
whole_tick t e back free Unoffered h = whole_waits e t back free
whole_tick t e back free s h = refl

pub whole_unlinked : (t : ℕ) (e : Entry) (s : Standing) → (unlinked_at Three e t s).broken ≡ false
whole_unlinked t e (OnCall c a) = whole_step (not (net_is_clearing c.state) && nat_le e.booking.end t) a t _ _ refl refl
whole_unlinked t e Unoffered = whole_waits e t false false
whole_unlinked t e s = refl

quiet_still : (t end r ch : ℕ) (o : NetOrigin) (s : NetState) (a : Activity) → is_pressed s ≡ false → IsQuietCall (follows a t (net_unlinked Three 1 (call_of r ch o s) t end)).standing
quiet_still t end r ch o (DisconnectIndication cause due) a h = refl
quiet_still t end r ch o (ReleaseRequest again cause due) a h = absurd (true≢false h)
quiet_still t end r ch o s a h = by_step (nat_le end t) IsQuietCall a t _ _ (λ _. refl) (λ _. refl)

quiet_waits : (e : Entry) (t : ℕ) → IsQuietCall (waits e t false false).standing
quiet_waits e t = by_cases (offers e t false) _ _ (λ (m : Moved). IsQuietCall m.standing) (λ _. refl) (λ _. by_cases (nat_le e.booking.end t) _ _ (λ (m : Moved). IsQuietCall m.standing) (λ _. tt) (λ _. tt))

pub quiet_unlinked : (t : ℕ) (e : Entry) (s : Standing) → IsQuietCall s → IsQuietCall (unlinked_at Three e t s).standing
quiet_unlinked t e (OnCall c a) h = quiet_still t e.booking.end c.reference c.channel c.origin c.state a h
quiet_unlinked t e Unoffered h = quiet_waits e t
quiet_unlinked t e s h = tt

quiet_at : (s : NetState) → net_is_clearing s ≡ false → is_asked s ≡ false → is_pressed s ≡ false
quiet_at (ReleaseRequest again cause due) is un = is
quiet_at (Enquiring asked due) is un = absurd (true≢false un)
quiet_at s is un = refl

pub cleared_quiet : (s : Standing) → ((c : PlainNetCall) (a : Activity) → s ≡ OnCall c a → net_is_clearing c.state ≡ false) → StandingUnasked s → IsQuietCall s
cleared_quiet (OnCall c a) f un = quiet_at c.state (f c a refl) un
cleared_quiet s f un = tt

-- ---- a call that the far end began

abbrev IsNever : Activity → Type 0
IsNever Never = Unit {0}
IsNever _ = ⊥

abbrev BegunIn : NetState → Activity → Type 0
BegunIn OutgoingCallProceeding a = IsNever a
BegunIn _ a = ⊥

-- it waits for its CONNECT
abbrev pub IsBegun : Standing → Type 0
IsBegun (OnCall c a) = BegunIn c.state a
IsBegun _ = ⊥

begun_second : (u t end r ch : ℕ) (o : NetOrigin) (s : NetState) (a : Activity) → BegunIn s a → t < end → t ≤ u → IsUp u (follows a t (net_second (call_of r ch o s) t end)).standing
begun_second u t end r ch o OutgoingCallProceeding Never h lt le = by_step (nat_le end t) (IsUp u) Never t _ _ (λ ended. let late : end ≤ t = leb-true end t ended in absurd (omega (arith, late, lt))) (λ _. le)
begun_second u t end r ch o s a h lt le = absurd h

-- a tick connects it
pub begun_tick : (u t : ℕ) (e : Entry) (back free : Bool) (s : Standing) → IsBegun s → t < e.booking.end → t ≤ u → IsUp u (second_at e t back free s).standing
begun_tick u t e back free (OnCall c a) h lt le = begun_second u t e.booking.end c.reference c.channel c.origin c.state a h lt le
begun_tick u t e back free s h lt le = absurd h

begun_still : (t end r ch : ℕ) (o : NetOrigin) (s : NetState) (a : Activity) → BegunIn s a → t < end → IsBegun (follows a t (net_unlinked Three 1 (call_of r ch o s) t end)).standing
begun_still t end r ch o OutgoingCallProceeding Never h lt = by_step (nat_le end t) IsBegun Never t _ _ (λ ended. let late : end ≤ t = leb-true end t ended in absurd (omega (arith, late, lt))) (λ _. tt)
begun_still t end r ch o s a h lt = absurd h

pub begun_unlinked : (t : ℕ) (e : Entry) (s : Standing) → IsBegun s → t < e.booking.end → IsBegun (unlinked_at Three e t s).standing
begun_unlinked t e (OnCall c a) h lt = begun_still t e.booking.end c.reference c.channel c.origin c.state a h lt
begun_unlinked t e s h lt = absurd h

begun_or_up_at : (u t : ℕ) (e : Entry) (r ch : ℕ) (o : NetOrigin) (s : NetState) (a : Activity) → CallFits t e (call_of r ch o s) a → is_settled (call_of r ch o s) ≡ true → t ≤ u → BegunIn s a ⊎ TalksBy u s a
begun_or_up_at u t e r ch o Active (Since from) h is le = inr (omega (arith, le, h.activity.1))
begun_or_up_at u t e r ch o Active Never h is le = absurd h.activity
begun_or_up_at u t e r ch o Active (Was from until) h is le = absurd h.activity
begun_or_up_at u t e r ch o OutgoingCallProceeding Never h is le = inl tt
begun_or_up_at u t e r ch o OutgoingCallProceeding (Since from) h is le = absurd h.activity
begun_or_up_at u t e r ch o OutgoingCallProceeding (Was from until) h is le = absurd h.activity
begun_or_up_at u t e r ch o s a h is le = absurd (false≢true is)

pub begun_or_up : (u t : ℕ) (e : Entry) (s : Standing) → StandingFits t e s → is_live s ≡ true → ((c : PlainNetCall) (a : Activity) → s ≡ OnCall c a → is_settled c ≡ true) → t ≤ u → IsBegun s ⊎ IsUp u s
begun_or_up u t e (OnCall c a) fits live f le = begun_or_up_at u t e c.reference c.channel c.origin c.state a fits (f c a refl) le
begun_or_up u t e s fits live f le = absurd (false≢true live)

active_at : (u t : ℕ) (e : Entry) (r ch : ℕ) (o : NetOrigin) (s : NetState) (a : Activity) → CallFits t e (call_of r ch o s) a → is_active s ≡ true → t ≤ u → TalksBy u s a
active_at u t e r ch o Active (Since from) h is le = omega (arith, le, h.activity.1)
active_at u t e r ch o Active Never h is le = absurd h.activity
active_at u t e r ch o Active (Was from until) h is le = absurd h.activity
active_at u t e r ch o (Enquiring asked due) (Since from) h is le = omega (arith, le, h.activity.1)
active_at u t e r ch o (Enquiring asked due) Never h is le = absurd h.activity
active_at u t e r ch o (Enquiring asked due) (Was from until) h is le = absurd h.activity
active_at u t e r ch o s a h is le = absurd (false≢true is)

pub active_up : (u t : ℕ) (e : Entry) (s : Standing) → StandingFits t e s → is_live s ≡ true → ((c : PlainNetCall) (a : Activity) → s ≡ OnCall c a → is_active c.state ≡ true) → t ≤ u → IsUp u s
active_up u t e (OnCall c a) fits live f le = active_at u t e c.reference c.channel c.origin c.state a fits (f c a refl) le
active_up u t e s fits live f le = absurd (false≢true live)
