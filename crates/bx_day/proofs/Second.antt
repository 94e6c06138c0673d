-- A tick keeps what is true of one booking.
use Rattle.bx_events.specs.declared.rules.Rules.TheVariants.{Two, Three}
use Rattle.bx_events.specs.declared.rules.Rules.{Rules}
use Rattle.std.proofs.Common.{◌≡◌, ℕ, ◌+◌, ◌≤◌, ◌<◌, Bool, true, false, Some, arith, refl, nat_le, if◌then◌else◌}
use Rattle.std.proofs.lemmas.Bool.{leb-false}
use Rattle.bx_calls.specs.declared.transition.Transition.{Transition}
use Rattle.bx_calls.specs.PlainCalls.{PlainNetCall}
use Rattle.bx_calls.specs.declared.net_state.NetOrigin.{NetOrigin}
use Rattle.bx_calls.specs.declared.net_state.Offer.{Offer}
use Rattle.bx_calls.specs.declared.net_state.Offer.TheVariants.{First, Second, Anew, PutOff, Unlinked, Asked}
use Rattle.bx_calls.specs.declared.times.Times.TheVariants.{NotYet, Once, Twice}
use Rattle.bx_calls.specs.declared.net_state.NetState.{NetState}
use Rattle.bx_calls.specs.declared.net_state.NetState.TheVariants.{OutgoingCallProceeding, CallPresent, IncomingCallProceeding, CallReceived, Active, Enquiring, DisconnectIndication, ReleaseRequest}
use Rattle.bx_calls.specs.NetTable.{net_offer_due, net_second, net_rings_on, net_unlinked}
use Rattle.bx_day.specs.Moves.{activity_after, is_active, follows}
use Rattle.bx_day.specs.declared.entry.Entry.{Entry}
use Rattle.bx_day.specs.declared.entry.Activity.{Activity}
use Rattle.bx_day.specs.declared.entry.Standing.TheVariants.{OnCall}
use Rattle.bx_day.specs.Invariant.{phase_of, PhaseFits, DueFits, ActivityFits, Ringing, Clearing, CallFits, EntryFits}
use Rattle.bx_day.proofs.ActivityLemmas.{ringing_kept, talking_kept, clearing_kept, ringing_clears, talking_clears, ringing_talks, ringing_over, clearing_over}

abbrev pub call_of : ℕ → ℕ → NetOrigin → NetState → PlainNetCall
call_of r ch o s = record { reference = r; channel = ch; origin = o; state = s }

-- what is true of the booking after a step at moment t
abbrev pub StepFits : ℕ → Entry → Activity → Transition PlainNetCall → Type 0
StepFits t e a step = EntryFits t (record e { standing = (follows a t step).standing })

pub by_test : (b : Bool) (t : ℕ) (e : Entry) (a : Activity) (x y : Transition PlainNetCall) → (b ≡ true → StepFits t e a x) → (b ≡ false → StepFits t e a y) → StepFits t e a (if b then x else y)
by_test true t e a x y f g = f refl
by_test false t e a x y f g = g refl

-- a step by whether the booking ends, and else by whether a timer is due
by_times : (due t : ℕ) (e : Entry) (a : Activity) (ends fires stays : Transition PlainNetCall) → StepFits (t + 1) e a ends → (t + 1 < e.booking.end → StepFits (t + 1) e a fires) → (t + 1 < e.booking.end → t + 1 < due → StepFits (t + 1) e a stays)
    → StepFits (t + 1) e a (if nat_le e.booking.end (t + 1) then ends else (if nat_le due (t + 1) then fires else stays))
by_times due t e a ends fires stays f g h =
    by_test (nat_le e.booking.end (t + 1)) (t + 1) e a ends _ (λ ended. f)
    (λ runs. let late : t + 1 < e.booking.end = leb-false e.booking.end (t + 1) runs in
    by_test (nat_le due (t + 1)) (t + 1) e a fires stays (λ fired. g late) (λ waits. h late (leb-false due (t + 1) waits)))

-- the entry of a call that goes on
abbrev pub on_call : ℕ → Entry → Activity → PlainNetCall → Entry
on_call t e a c = record e { standing = OnCall c (activity_after a (is_active c.state) t) }

-- the call goes on in another state, or in the same with another timer
pub goes_on : (t u : ℕ) (e : Entry) (r ch : ℕ) (o : NetOrigin) (s : NetState) (a : Activity) (s' : NetState) → CallFits t e (call_of r ch o s) a → PhaseFits u e.booking (phase_of s') → DueFits u s' → ActivityFits u e.booking (phase_of s') (activity_after a (is_active s') u) → EntryFits u (on_call u e a (call_of r ch o s'))
goes_on t u e r ch o s a s' h p d act = record { channel = h.channel; origin = h.origin; phase = p; due = d; activity = act }

-- DISCONNECT of a call whose booking ends, or whose timer is due
pub disconnects : (t : ℕ) (e : Entry) (r ch : ℕ) (o : NetOrigin) (s : NetState) (a : Activity) (cause : ℕ) → CallFits t e (call_of r ch o s) a → t < e.booking.end → ActivityFits (t + 1) e.booking Clearing (activity_after a false (t + 1)) → EntryFits (t + 1) (on_call (t + 1) e a (call_of r ch o (DisconnectIndication cause (t + 1 + 30))))
disconnects t e r ch o s a cause h early act = goes_on t (t + 1) e r ch o s a (DisconnectIndication cause (t + 1 + 30)) h tt (omega arith, omega arith) act

-- N6, whose timer is due
offer_again : (t : ℕ) (e : Entry) (r ch : ℕ) (o : NetOrigin) (offer other : Offer) (due : ℕ) (a : Activity) → CallFits t e (call_of r ch o (CallPresent offer due)) a → t + 1 < e.booking.end → EntryFits (t + 1) (on_call (t + 1) e a (call_of r ch o (CallPresent other (t + 1 + 4))))
offer_again t e r ch o offer other due a h late = goes_on t (t + 1) e r ch o (CallPresent offer due) a (CallPresent other (t + 1 + 4)) h (omega arith, late) (omega arith, omega arith) (ringing_kept t (t + 1) e.booking a h.activity)

offer_fits : (t : ℕ) (e : Entry) (r ch : ℕ) (o : NetOrigin) (offer : Offer) (due : ℕ) (a : Activity) → CallFits t e (call_of r ch o (CallPresent offer due)) a → t + 1 < e.booking.end → StepFits (t + 1) e a (net_offer_due (call_of r ch o (CallPresent offer due)) (t + 1) offer)
offer_fits t e r ch o First due a h late = offer_again t e r ch o First Second due a h late
offer_fits t e r ch o Second due a h late = ringing_over t (t + 1) e a h.activity
offer_fits t e r ch o Anew due a h late = offer_again t e r ch o Anew Second due a h late
offer_fits t e r ch o PutOff due a h late = offer_again t e r ch o PutOff First due a h late
offer_fits t e r ch o Unlinked due a h late = offer_again t e r ch o Unlinked Asked due a h late
offer_fits t e r ch o Asked due a h late = offer_again t e r ch o Asked First due a h late

pub second_fits : (t : ℕ) (e : Entry) (r ch : ℕ) (o : NetOrigin) (s : NetState) (a : Activity) → CallFits t e (call_of r ch o s) a → StepFits (t + 1) e a (net_second (call_of r ch o s) (t + 1) e.booking.end)
second_fits t e r ch o OutgoingCallProceeding a h =
    let b = e.booking in
    by_test (nat_le b.end (t + 1)) (t + 1) e a _ _
    (λ ended. disconnects t e r ch o OutgoingCallProceeding a 16 h h.phase.1 (ringing_clears t (t + 1) b a h.activity))
    (λ runs. let late : t + 1 < b.end = leb-false b.end (t + 1) runs in
    goes_on t (t + 1) e r ch o OutgoingCallProceeding a Active h (omega arith, late) tt (ringing_talks t (t + 1) b a (omega arith) h.activity))
second_fits t e r ch o (CallPresent offer due) a h =
    let s = CallPresent offer due in
    let clears = ringing_clears t (t + 1) e.booking a h.activity in
    by_times due t e a _ _ _ (disconnects t e r ch o s a 16 h h.phase.1 clears)
    (λ late. offer_fits t e r ch o offer due a h late)
    (λ late waits. goes_on t (t + 1) e r ch o s a s h (omega arith, late) (waits, omega (arith, h.due.1)) (ringing_kept t (t + 1) e.booking a h.activity))
second_fits t e r ch o (IncomingCallProceeding due) a h =
    let s = IncomingCallProceeding due in
    let clears = ringing_clears t (t + 1) e.booking a h.activity in
    by_times due t e a _ _ _ (disconnects t e r ch o s a 16 h h.phase.1 clears)
    (λ late. disconnects t e r ch o s a 102 h h.phase.1 clears)
    (λ late waits. goes_on t (t + 1) e r ch o s a s h (omega arith, late) (waits, omega (arith, h.due.1)) (ringing_kept t (t + 1) e.booking a h.activity))
second_fits t e r ch o (CallReceived due) a h =
    let s = CallReceived due in
    let clears = ringing_clears t (t + 1) e.booking a h.activity in
    by_times due t e a _ _ _ (disconnects t e r ch o s a 16 h h.phase.1 clears)
    (λ late. disconnects t e r ch o s a 102 h h.phase.1 clears)
    (λ late waits. goes_on t (t + 1) e r ch o s a s h (omega arith, late) (waits, omega (arith, h.due.1)) (ringing_kept t (t + 1) e.booking a h.activity))
second_fits t e r ch o Active a h =
    let b = e.booking in
    by_test (nat_le b.end (t + 1)) (t + 1) e a _ _
    (λ ended. disconnects t e r ch o Active a 16 h h.phase.1 (talking_clears t (t + 1) b a (omega arith) (omega arith) h.activity))
    (λ runs. let late : t + 1 < b.end = leb-false b.end (t + 1) runs in
    goes_on t (t + 1) e r ch o Active a Active h (omega arith, late) tt (talking_kept t (t + 1) b a (omega arith) h.activity))
second_fits t e r ch o (Enquiring NotYet due) a h =
    let s = Enquiring NotYet due in
    let clears = talking_clears t (t + 1) e.booking a (omega arith) (omega (arith, h.phase.1)) h.activity in
    by_times due t e a _ _ _ (disconnects t e r ch o s a 16 h h.phase.1 clears)
    (λ late. goes_on t (t + 1) e r ch o s a (Enquiring Once (t + 1 + 4)) h (omega arith, late) (omega arith, omega arith) (talking_kept t (t + 1) e.booking a (omega arith) h.activity))
    (λ late waits. goes_on t (t + 1) e r ch o s a s h (omega arith, late) (waits, omega (arith, h.due.1)) (talking_kept t (t + 1) e.booking a (omega arith) h.activity))
second_fits t e r ch o (Enquiring Once due) a h =
    let s = Enquiring Once due in
    let clears = talking_clears t (t + 1) e.booking a (omega arith) (omega (arith, h.phase.1)) h.activity in
    by_times due t e a _ _ _ (disconnects t e r ch o s a 16 h h.phase.1 clears)
    (λ late. goes_on t (t + 1) e r ch o s a (Enquiring Twice (t + 1 + 4)) h (omega arith, late) (omega arith, omega arith) (talking_kept t (t + 1) e.booking a (omega arith) h.activity))
    (λ late waits. goes_on t (t + 1) e r ch o s a s h (omega arith, late) (waits, omega (arith, h.due.1)) (talking_kept t (t + 1) e.booking a (omega arith) h.activity))
second_fits t e r ch o (Enquiring Twice due) a h =
    let s = Enquiring Twice due in
    let clears = talking_clears t (t + 1) e.booking a (omega arith) (omega (arith, h.phase.1)) h.activity in
    by_times due t e a _ _ _ (disconnects t e r ch o s a 16 h h.phase.1 clears)
    (λ late. disconnects t e r ch o s a 41 h h.phase.1 clears)
    (λ late waits. goes_on t (t + 1) e r ch o s a s h (omega arith, late) (waits, omega (arith, h.due.1)) (talking_kept t (t + 1) e.booking a (omega arith) h.activity))
second_fits t e r ch o (DisconnectIndication cause due) a h =
    let b = e.booking in
    let s = DisconnectIndication cause due in
    by_test (nat_le due (t + 1)) (t + 1) e a _ _
    (λ fires. goes_on t (t + 1) e r ch o s a (ReleaseRequest Once (Some cause) (t + 1 + 4)) h tt (omega arith, omega arith) (clearing_kept t (t + 1) b a (omega arith) h.activity))
    (λ waits. goes_on t (t + 1) e r ch o s a s h tt (leb-false due (t + 1) waits, omega (arith, h.due.1)) (clearing_kept t (t + 1) b a (omega arith) h.activity))
second_fits t e r ch o (ReleaseRequest NotYet cause due) a h =
    let b = e.booking in
    let s = ReleaseRequest NotYet cause due in
    by_test (nat_le due (t + 1)) (t + 1) e a _ _
    (λ fires. goes_on t (t + 1) e r ch o s a (ReleaseRequest Once cause (t + 1 + 4)) h tt (omega arith, omega arith) (clearing_kept t (t + 1) b a (omega arith) h.activity))
    (λ waits. goes_on t (t + 1) e r ch o s a s h tt (leb-false due (t + 1) waits, omega (arith, h.due.1)) (clearing_kept t (t + 1) b a (omega arith) h.activity))
second_fits t e r ch o (ReleaseRequest Once cause due) a h =
    let b = e.booking in
    let s = ReleaseRequest Once cause due in
    by_test (nat_le due (t + 1)) (t + 1) e a _ _
    (λ fires. goes_on t (t + 1) e r ch o s a (ReleaseRequest Twice cause (t + 1 + 4)) h tt (omega arith, omega arith) (clearing_kept t (t + 1) b a (omega arith) h.activity))
    (λ waits. goes_on t (t + 1) e r ch o s a s h tt (leb-false due (t + 1) waits, omega (arith, h.due.1)) (clearing_kept t (t + 1) b a (omega arith) h.activity))
second_fits t e r ch o (ReleaseRequest Twice cause due) a h =
    let b = e.booking in
    let s = ReleaseRequest Twice cause due in
    by_test (nat_le due (t + 1)) (t + 1) e a _ _
    (λ fires. clearing_over t (t + 1) e a h.activity)
    (λ waits. goes_on t (t + 1) e r ch o s a s h tt (leb-false due (t + 1) waits, omega (arith, h.due.1)) (clearing_kept t (t + 1) b a (omega arith) h.activity))

-- ---- a second without a link

-- a timer that stands still is due as much later as the moment is
still_due : (t due n : ℕ) → (t < due) × (due ≤ t + n) → (t + 1 < due + 1) × (due + 1 ≤ t + 1 + n)
still_due t due n h = (omega (arith, h.0), omega (arith, h.1))

-- a call that is set up or talks is cleared where its booking ends
ends_unlinked : (t : ℕ) (e : Entry) (r ch : ℕ) (o : NetOrigin) (s : NetState) (a : Activity) → CallFits t e (call_of r ch o s) a → ActivityFits (t + 1) e.booking Clearing (activity_after a false (t + 1)) → EntryFits (t + 1) (on_call (t + 1) e a (call_of r ch o (DisconnectIndication 16 (t + 1 + 1))))
ends_unlinked t e r ch o s a h act = goes_on t (t + 1) e r ch o s a (DisconnectIndication 16 (t + 1 + 1)) h tt (omega arith, omega arith) act

-- a call that rings goes on to ring, or is to be asked for
rings_on_fits : (rules : Rules) (t : ℕ) (e : Entry) (r ch : ℕ) (o : NetOrigin) (s later : NetState) (a : Activity) → CallFits t e (call_of r ch o s) a → e.booking.start ≤ t + 1 → t + 1 < e.booking.end → ActivityFits t e.booking Ringing a → EntryFits (t + 1) (on_call (t + 1) e a (call_of r ch o later)) → EntryFits (t + 1) (on_call (t + 1) e a (call_of r ch o (net_rings_on rules (t + 1) later)))
rings_on_fits Two t e r ch o s later a h begun late act fits = fits
rings_on_fits Three t e r ch o s later a h begun late act fits = goes_on t (t + 1) e r ch o s a (CallPresent Unlinked (t + 1 + 1)) h (begun, late) (omega arith, omega arith) (ringing_kept t (t + 1) e.booking a act)

pub unlinked_fits : (rules : Rules) (t : ℕ) (e : Entry) (r ch : ℕ) (o : NetOrigin) (s : NetState) (a : Activity) → CallFits t e (call_of r ch o s) a → StepFits (t + 1) e a (net_unlinked rules 1 (call_of r ch o s) (t + 1) e.booking.end)
unlinked_fits rules t e r ch o OutgoingCallProceeding a h =
    let b = e.booking in
    let s = OutgoingCallProceeding in
    by_test (nat_le b.end (t + 1)) (t + 1) e a _ _ (λ ended. ends_unlinked t e r ch o s a h (ringing_clears t (t + 1) b a h.activity))
    (λ runs. let late : t + 1 < b.end = leb-false b.end (t + 1) runs in goes_on t (t + 1) e r ch o s a s h (omega arith, late) tt (ringing_kept t (t + 1) b a h.activity))
unlinked_fits rules t e r ch o (CallPresent again due) a h =
    let b = e.booking in
    let s = CallPresent again due in
    by_test (nat_le b.end (t + 1)) (t + 1) e a _ _ (λ ended. ends_unlinked t e r ch o s a h (ringing_clears t (t + 1) b a h.activity))
    (λ runs. let late : t + 1 < b.end = leb-false b.end (t + 1) runs in goes_on t (t + 1) e r ch o s a (CallPresent Unlinked (t + 1 + 1)) h (omega arith, late) (omega arith, omega arith) (ringing_kept t (t + 1) b a h.activity))
unlinked_fits rules t e r ch o (IncomingCallProceeding due) a h =
    let b = e.booking in
    let s = IncomingCallProceeding due in
    by_test (nat_le b.end (t + 1)) (t + 1) e a _ _ (λ ended. ends_unlinked t e r ch o s a h (ringing_clears t (t + 1) b a h.activity))
    (λ runs. let late : t + 1 < b.end = leb-false b.end (t + 1) runs in
    rings_on_fits rules t e r ch o s (IncomingCallProceeding (due + 1)) a h (omega arith) late h.activity (goes_on t (t + 1) e r ch o s a (IncomingCallProceeding (due + 1)) h (omega arith, late) (still_due t due 10 h.due) (ringing_kept t (t + 1) b a h.activity)))
unlinked_fits rules t e r ch o (CallReceived due) a h =
    let b = e.booking in
    let s = CallReceived due in
    by_test (nat_le b.end (t + 1)) (t + 1) e a _ _ (λ ended. ends_unlinked t e r ch o s a h (ringing_clears t (t + 1) b a h.activity))
    (λ runs. let late : t + 1 < b.end = leb-false b.end (t + 1) runs in
    rings_on_fits rules t e r ch o s (CallReceived (due + 1)) a h (omega arith) late h.activity (goes_on t (t + 1) e r ch o s a (CallReceived (due + 1)) h (omega arith, late) (still_due t due 180 h.due) (ringing_kept t (t + 1) b a h.activity)))
unlinked_fits rules t e r ch o Active a h =
    let b = e.booking in
    by_test (nat_le b.end (t + 1)) (t + 1) e a _ _ (λ ended. ends_unlinked t e r ch o Active a h (talking_clears t (t + 1) b a (omega arith) (omega arith) h.activity))
    (λ runs. let late : t + 1 < b.end = leb-false b.end (t + 1) runs in goes_on t (t + 1) e r ch o Active a (Enquiring NotYet (t + 1 + 1)) h (omega arith, late) (omega arith, omega arith) (talking_kept t (t + 1) b a (omega arith) h.activity))
unlinked_fits rules t e r ch o (Enquiring asked due) a h =
    let b = e.booking in
    let s = Enquiring asked due in
    by_test (nat_le b.end (t + 1)) (t + 1) e a _ _ (λ ended. ends_unlinked t e r ch o s a h (talking_clears t (t + 1) b a (omega arith) (omega (arith, h.phase.1)) h.activity))
    (λ runs. let late : t + 1 < b.end = leb-false b.end (t + 1) runs in goes_on t (t + 1) e r ch o s a (Enquiring NotYet (t + 1 + 1)) h (omega arith, late) (omega arith, omega arith) (talking_kept t (t + 1) b a (omega arith) h.activity))
unlinked_fits rules t e r ch o (DisconnectIndication cause due) a h =
    goes_on t (t + 1) e r ch o (DisconnectIndication cause due) a (DisconnectIndication cause (t + 1 + 1)) h tt (omega arith, omega arith) (clearing_kept t (t + 1) e.booking a (omega arith) h.activity)
unlinked_fits rules t e r ch o (ReleaseRequest again cause due) a h =
    goes_on t (t + 1) e r ch o (ReleaseRequest again cause due) a (ReleaseRequest NotYet cause (t + 1 + 1)) h tt (omega arith, omega arith) (clearing_kept t (t + 1) e.booking a (omega arith) h.activity)
