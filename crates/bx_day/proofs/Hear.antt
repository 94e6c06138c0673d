-- A message keeps what is true of one booking.
use Rattle.std.proofs.Common.{◌≡◌, ℕ, ◌+◌, Bool, true, false, Option, Some, None, arith, refl, ap, subst}
use Rattle.std.proofs.lemmas.Bool.{true≢false}
use Rattle.bx_q931.specs.declared.kind.Kind.{Kind}
use Rattle.bx_q931.specs.declared.kind.Kind.TheVariants.{Alerting, CallProceeding, Setup, Connect, ConnectAcknowledge, Disconnect, Release, ReleaseComplete, StatusEnquiry, Status}
use Rattle.bx_calls.specs.declared.net_state.NetOrigin.{NetOrigin}
use Rattle.bx_calls.specs.declared.net_state.NetOrigin.TheVariants.{Outward}
use Rattle.bx_calls.specs.declared.net_state.NetState.{NetState}
use Rattle.bx_calls.specs.declared.net_state.NetState.TheVariants.{OutgoingCallProceeding, CallPresent, IncomingCallProceeding, CallReceived, Active, Enquiring, DisconnectIndication, ReleaseRequest}
use Rattle.bx_calls.specs.declared.net_state.Offer.{Offer}
use Rattle.bx_calls.specs.declared.net_state.Offer.TheVariants.{Asked, PutOff}
use Rattle.bx_calls.specs.declared.times.Times.{Times}
use Rattle.bx_calls.specs.declared.times.Times.TheVariants.{Once}
use Rattle.bx_calls.specs.declared.transition.Transition.{Transition}
use Rattle.bx_calls.specs.Hearing.{Heard, names_channel, reports_null}
use Rattle.bx_calls.specs.NetTable.{net_awake_state, net_is_contradicted, net_is_unacknowledged, net_is_put_off, net_put_off, net_is_unconnected, net_connects, net_is_ringing, net_rung, is_alerted, net_releases, net_row, net_says, net_heard, net_to}
use Rattle.bx_calls.specs.PlainCalls.{PlainNetCall}
use Rattle.bx_day.specs.Moves.{over_at}
use Rattle.bx_day.specs.declared.entry.Entry.{Entry}
use Rattle.bx_day.specs.declared.entry.Activity.{Activity}
use Rattle.bx_day.specs.Invariant.{CallFits, EntryFits}
use Rattle.bx_day.proofs.ActivityLemmas.{ringing_kept, talking_kept, clearing_kept, ringing_clears, talking_clears, ringing_talks, ringing_over, talking_over, clearing_over}
use Rattle.bx_day.proofs.Second.{call_of, StepFits, by_test, on_call, goes_on}
use Rattle.bx_day.proofs.Tick.{by_cases}

-- the call stays
pub same_fits : (t : ℕ) (e : Entry) (r ch : ℕ) (o : NetOrigin) (s : NetState) (a : Activity) → CallFits t e (call_of r ch o s) a → EntryFits t (on_call t e a (call_of r ch o s))
same_fits t e r ch o OutgoingCallProceeding a h = goes_on t t e r ch o OutgoingCallProceeding a OutgoingCallProceeding h h.phase h.due (ringing_kept t t e.booking a h.activity)
same_fits t e r ch o (CallPresent again due) a h = goes_on t t e r ch o (CallPresent again due) a (CallPresent again due) h h.phase h.due (ringing_kept t t e.booking a h.activity)
same_fits t e r ch o (IncomingCallProceeding due) a h = goes_on t t e r ch o (IncomingCallProceeding due) a (IncomingCallProceeding due) h h.phase h.due (ringing_kept t t e.booking a h.activity)
same_fits t e r ch o (CallReceived due) a h = goes_on t t e r ch o (CallReceived due) a (CallReceived due) h h.phase h.due (ringing_kept t t e.booking a h.activity)
same_fits t e r ch o Active a h = goes_on t t e r ch o Active a Active h h.phase h.due (talking_kept t t e.booking a (omega arith) h.activity)
same_fits t e r ch o (Enquiring asked due) a h = goes_on t t e r ch o (Enquiring asked due) a (Enquiring asked due) h h.phase h.due (talking_kept t t e.booking a (omega arith) h.activity)
same_fits t e r ch o (DisconnectIndication cause due) a h = goes_on t t e r ch o (DisconnectIndication cause due) a (DisconnectIndication cause due) h h.phase h.due (clearing_kept t t e.booking a (omega arith) h.activity)
same_fits t e r ch o (ReleaseRequest again cause due) a h = goes_on t t e r ch o (ReleaseRequest again cause due) a (ReleaseRequest again cause due) h h.phase h.due (clearing_kept t t e.booking a (omega arith) h.activity)

-- the call is over
pub over_fits : (t : ℕ) (e : Entry) (r ch : ℕ) (o : NetOrigin) (s : NetState) (a : Activity) → CallFits t e (call_of r ch o s) a → EntryFits t (record e { standing = over_at a t })
over_fits t e r ch o Active a h = talking_over t t e a (omega arith) (omega arith) h.activity
over_fits t e r ch o (Enquiring asked due) a h = talking_over t t e a (omega arith) (omega (arith, h.phase.1)) h.activity
over_fits t e r ch o (DisconnectIndication cause due) a h = clearing_over t t e a h.activity
over_fits t e r ch o (ReleaseRequest again cause due) a h = clearing_over t t e a h.activity
over_fits t e r ch o s a h = ringing_over t t e a h.activity

abbrev pub is_releasing : NetState → Bool
is_releasing (ReleaseRequest again cause due) = true
is_releasing _ = false

-- RELEASE, in any state but Release Request
pub release_fits : (t : ℕ) (e : Entry) (r ch : ℕ) (o : NetOrigin) (s : NetState) (a : Activity) (c : Option ℕ) → is_releasing s ≡ false → CallFits t e (call_of r ch o s) a → EntryFits t (on_call t e a (call_of r ch o (ReleaseRequest Once c (t + 4))))
release_fits t e r ch o Active a c n h = goes_on t t e r ch o Active a (ReleaseRequest Once c (t + 4)) h tt (omega arith, omega arith) (talking_clears t t e.booking a (omega arith) (omega arith) h.activity)
release_fits t e r ch o (Enquiring asked due) a c n h = goes_on t t e r ch o (Enquiring asked due) a (ReleaseRequest Once c (t + 4)) h tt (omega arith, omega arith) (talking_clears t t e.booking a (omega arith) (omega (arith, h.phase.1)) h.activity)
release_fits t e r ch o (DisconnectIndication cause due) a c n h = goes_on t t e r ch o (DisconnectIndication cause due) a (ReleaseRequest Once c (t + 4)) h tt (omega arith, omega arith) (clearing_kept t t e.booking a (omega arith) h.activity)
release_fits t e r ch o (ReleaseRequest again cause due) a c n h = absurd (true≢false n)
release_fits t e r ch o s a c n h = goes_on t t e r ch o s a (ReleaseRequest Once c (t + 4)) h tt (omega arith, omega arith) (ringing_clears t t e.booking a h.activity)

-- asked no more
pub awake_fits : (t : ℕ) (e : Entry) (r ch : ℕ) (o : NetOrigin) (s : NetState) (a : Activity) → CallFits t e (call_of r ch o s) a → CallFits t e (call_of r ch o (net_awake_state s)) a
awake_fits t e r ch o (Enquiring asked due) a h = record { channel = h.channel; origin = h.origin; phase = h.phase; due = tt; activity = h.activity }
awake_fits t e r ch o s a h = h

-- each row of the table, in its order
pub row_fits : (t : ℕ) (e : Entry) (r ch : ℕ) (o : NetOrigin) (a : Activity) (m : Heard) (s : NetState) (k : Kind) → CallFits t e (call_of r ch o s) a → StepFits t e a (net_row (call_of r ch o s) m t s k)
row_fits t e r ch o a m s ReleaseComplete h = over_fits t e r ch o s a h
row_fits t e r ch o a m s StatusEnquiry h = same_fits t e r ch o s a h
row_fits t e r ch o a m s Status h = by_test (reports_null m.state) t e a _ _ (λ _. over_fits t e r ch o s a h) (λ _. same_fits t e r ch o s a h)
row_fits t e r ch o a m s Setup h = same_fits t e r ch o s a h
row_fits t e r ch o a m (ReleaseRequest again cause due) Release h = over_fits t e r ch o (ReleaseRequest again cause due) a h
row_fits t e r ch o a m s Release h = over_fits t e r ch o s a h
row_fits t e r ch o a m (ReleaseRequest again cause due) k h = same_fits t e r ch o (ReleaseRequest again cause due) a h
row_fits t e r ch o a m s Disconnect h = release_fits t e r ch o s a None refl h
row_fits t e r ch o a m (CallPresent again due) CallProceeding h = by_test (names_channel m.channel ch) t e a _ _ (λ _. goes_on t t e r ch o (CallPresent again due) a (IncomingCallProceeding (t + 10)) h h.phase (omega arith, omega arith) (ringing_kept t t e.booking a h.activity)) (λ _. release_fits t e r ch o (CallPresent again due) a (Some 6) refl h)
row_fits t e r ch o a m (CallPresent again due) Alerting h = by_test (names_channel m.channel ch) t e a _ _ (λ _. goes_on t t e r ch o (CallPresent again due) a (CallReceived (t + 180)) h h.phase (omega arith, omega arith) (ringing_kept t t e.booking a h.activity)) (λ _. release_fits t e r ch o (CallPresent again due) a (Some 6) refl h)
row_fits t e r ch o a m (CallPresent again due) Connect h = by_test (names_channel m.channel ch) t e a _ _ (λ _. goes_on t t e r ch o (CallPresent again due) a Active h h.phase tt (ringing_talks t t e.booking a h.phase.0 h.activity)) (λ _. release_fits t e r ch o (CallPresent again due) a (Some 6) refl h)
row_fits t e r ch o a m (IncomingCallProceeding due) Alerting h = goes_on t t e r ch o (IncomingCallProceeding due) a (CallReceived (t + 180)) h h.phase (omega arith, omega arith) (ringing_kept t t e.booking a h.activity)
row_fits t e r ch o a m (IncomingCallProceeding due) Connect h = goes_on t t e r ch o (IncomingCallProceeding due) a Active h h.phase tt (ringing_talks t t e.booking a h.phase.0 h.activity)
row_fits t e r ch o a m (CallReceived due) Connect h = goes_on t t e r ch o (CallReceived due) a Active h h.phase tt (ringing_talks t t e.booking a h.phase.0 h.activity)
row_fits t e r ch (Outward called) a m Active ConnectAcknowledge h = same_fits t e r ch (Outward called) Active a h
row_fits t e r ch o a m s k h = same_fits t e r ch o s a h

-- SETUP is put off
put_off_fits : (t : ℕ) (e : Entry) (r ch : ℕ) (o : NetOrigin) (offer : Offer) (due : ℕ) (a : Activity) → CallFits t e (call_of r ch o (CallPresent offer due)) a → StepFits t e a (net_to (call_of r ch o (CallPresent offer due)) None (net_put_off t (CallPresent offer due)))
put_off_fits t e r ch o PutOff due a h = same_fits t e r ch o (CallPresent PutOff due) a h
put_off_fits t e r ch o offer due a h = goes_on t t e r ch o (CallPresent offer due) a (CallPresent PutOff (t + 1)) h h.phase (omega arith, omega arith) (ringing_kept t t e.booking a h.activity)

-- the call rings
rung_fits : (t : ℕ) (e : Entry) (r ch : ℕ) (o : NetOrigin) (due : ℕ) (a : Activity) (reported : Option ℕ) → CallFits t e (call_of r ch o (CallPresent Asked due)) a → StepFits t e a (net_to (call_of r ch o (CallPresent Asked due)) None (net_rung t reported))
rung_fits t e r ch o due a reported h = by_cases (is_alerted reported) _ _ (λ (s : NetState). StepFits t e a (net_to (call_of r ch o (CallPresent Asked due)) None s))
    (λ _. goes_on t t e r ch o (CallPresent Asked due) a (CallReceived (t + 180)) h h.phase (omega arith, omega arith) (ringing_kept t t e.booking a h.activity))
    (λ _. goes_on t t e r ch o (CallPresent Asked due) a (IncomingCallProceeding (t + 10)) h h.phase (omega arith, omega arith) (ringing_kept t t e.booking a h.activity))

-- what comes before all rows: a call that is asked for is released by a report that does not fit, and CONNECT ACKNOWLEDGE is sent for one
-- that waits for it; SETUP is put off for one that is not known, or whose refusal passes; CONNECT is sent again for one that waits for
-- it, and one that has not been answered goes to N9 or N7
pub record HoldsBefore (P : Transition PlainNetCall → Type 0) (c : PlainNetCall) (m : Heard) (t : ℕ) (s : NetState) (k : Kind) : Type 0 where
  pub contradicted : (asked : Times) (due : ℕ) → s ≡ Enquiring asked due → net_is_contradicted s c.origin m k ≡ true → P (net_releases c Once (Some 101) t)
  pub unacknowledged : (asked : Times) (due : ℕ) → s ≡ Enquiring asked due → net_is_unacknowledged s c.origin m k ≡ true → P (net_to c (Some (net_says c ConnectAcknowledge)) Active)
  pub connected : (due : ℕ) → s ≡ CallPresent Asked due → net_is_unacknowledged s c.origin m k ≡ true → P (net_to c (Some (net_says c ConnectAcknowledge)) Active)
  pub put_off : (offer : Offer) (due : ℕ) → s ≡ CallPresent offer due → net_is_put_off s m k ≡ true → P (net_to c None (net_put_off t (CallPresent offer due)))
  pub unconnected : (asked : Times) (due : ℕ) → s ≡ Enquiring asked due → net_is_unconnected s c.origin m k ≡ true → P (net_connects c)
  pub ringing : (due : ℕ) → s ≡ CallPresent Asked due → net_is_ringing s m k ≡ true → P (net_to c None (net_rung t m.state))

-- any other message finds a call that is asked for Active
pub heard_by : (P : Transition PlainNetCall → Type 0) (c : PlainNetCall) (m : Heard) (t : ℕ) (s : NetState) (k : Kind)
    → HoldsBefore P c m t s k → P (net_row (record c { state = net_awake_state s }) m t (net_awake_state s) k) → P (net_heard c m t s k)
heard_by P c m t (Enquiring asked due) k h g =
    by_cases (net_is_contradicted (Enquiring asked due) c.origin m k) _ _ P (λ q. h.contradicted asked due refl q)
    (λ _. by_cases (net_is_unacknowledged (Enquiring asked due) c.origin m k) _ _ P (λ q. h.unacknowledged asked due refl q)
    (λ _. by_cases (net_is_unconnected (Enquiring asked due) c.origin m k) _ _ P (λ q. h.unconnected asked due refl q) (λ _. g)))
heard_by P c m t (CallPresent Asked due) k h g =
    by_cases (net_is_unacknowledged (CallPresent Asked due) c.origin m k) _ _ P (λ q. h.connected due refl q)
    (λ _. by_cases (net_is_put_off (CallPresent Asked due) m k) _ _ P (λ q. h.put_off Asked due refl q)
    (λ _. by_cases (net_is_ringing (CallPresent Asked due) m k) _ _ P (λ q. h.ringing due refl q) (λ _. g)))
heard_by P c m t (CallPresent offer due) k h g = by_cases (net_is_put_off (CallPresent offer due) m k) _ _ P (λ q. h.put_off offer due refl q) (λ _. g)
heard_by P c m t s k h g = g

pub message_fits : (t : ℕ) (e : Entry) (r ch : ℕ) (o : NetOrigin) (a : Activity) (m : Heard) (s : NetState) (k : Kind) → CallFits t e (call_of r ch o s) a → StepFits t e a (net_heard (call_of r ch o s) m t s k)
message_fits t e r ch o a m s k h = heard_by (StepFits t e a) (call_of r ch o s) m t s k
    (record {
      contradicted = λ asked due is q. release_fits t e r ch o s a (Some 101) (ap is_releasing is) h;
      unacknowledged = λ asked due is q. let f = at (Enquiring asked due) is in goes_on t t e r ch o (Enquiring asked due) a Active f f.phase tt (talking_kept t t e.booking a (omega arith) f.activity);
      connected = λ due is q. let f = at (CallPresent Asked due) is in goes_on t t e r ch o (CallPresent Asked due) a Active f f.phase tt (ringing_talks t t e.booking a f.phase.0 f.activity);
      put_off = λ offer due is q. put_off_fits t e r ch o offer due a (at (CallPresent offer due) is);
      unconnected = λ asked due is q. let f = at (Enquiring asked due) is in goes_on t t e r ch o (Enquiring asked due) a Active f f.phase tt (talking_kept t t e.booking a (omega arith) f.activity);
      ringing = λ due is q. rung_fits t e r ch o due a m.state (at (CallPresent Asked due) is);
    })
    (row_fits t e r ch o a m (net_awake_state s) k (awake_fits t e r ch o s a h))
  where
    at : (x : NetState) → s ≡ x → CallFits t e (call_of r ch o x) a
    at x is = subst (λ (y : NetState). CallFits t e (call_of r ch o y) a) is h
