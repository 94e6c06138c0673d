-- A call that is asked for in vain is not Active for long, and without an outage none is touched.
use Rattle.bx_events.specs.declared.rules.Rules.TheVariants.{Three}
use Rattle.std.proofs.Common.{◌≡◌, ℕ, zero, suc, ◌+◌, ◌≤◌, ◌<◌, Bool, true, false, List, [], ◌∷◌, map, Option, Some, None, arith, refl, sym, ap, subst, ◌∙◌, not, ◌&&◌, nat_le, Result, Ok, Err, ◌==◌, ◌||◌, if◌then◌else◌}
use Rattle.std.specs.List.{AllByRecursion, position}
use Rattle.std.proofs.lemmas.Bool.{leb-false, true≢false, false≢true, eqb-true, false_from_ne_true}
use Rattle.bx_q931.specs.Messages.{PlainMessage, message_at}
use Rattle.bx_q931.specs.declared.fault.MessageFault.{MessageFault}
use Rattle.bx_q931.specs.declared.kind.Kind.{Kind}
use Rattle.bx_q931.specs.declared.kind.Kind.TheVariants.{Alerting, CallProceeding, Setup, Connect, ConnectAcknowledge, Disconnect, Release, ReleaseComplete, StatusEnquiry, Status}
use Rattle.bx_q931.specs.declared.channel_field.ChannelField.{ChannelField}
use Rattle.bx_q931.specs.declared.channel_field.ChannelField.TheVariants.{Absent, Named, AnyChannel, Unread}
use Rattle.bx_q931.specs.declared.reference.Reference.{Reference}
use Rattle.bx_q931.specs.declared.reference.Reference.TheVariants.{Dummy, Value}
use Rattle.bx_base.specs.Bookings.{Row}
use Rattle.bx_events.specs.Events.{Event, Tick, Receive}
use Rattle.bx_calls.specs.declared.transition.Next.{Next}
use Rattle.bx_calls.specs.declared.transition.Next.TheVariants.{Live, Over, Broken}
use Rattle.bx_calls.specs.declared.transition.Transition.{Transition}
use Rattle.bx_calls.specs.PlainCalls.{PlainNetCall}
use Rattle.bx_calls.specs.declared.net_state.Offer.{Offer}
use Rattle.bx_calls.specs.declared.net_state.Offer.TheVariants.{Asked, Unlinked, PutOff, Anew, Second, First}
use Rattle.bx_calls.specs.declared.net_state.NetOrigin.{NetOrigin}
use Rattle.bx_calls.specs.declared.net_state.NetOrigin.TheVariants.{Outward, Inward}
use Rattle.bx_calls.specs.declared.times.Times.{Times}
use Rattle.bx_calls.specs.declared.times.Times.TheVariants.{NotYet, Once, Twice}
use Rattle.bx_calls.specs.declared.net_state.NetState.{NetState}
use Rattle.bx_calls.specs.declared.net_state.NetState.TheVariants.{OutgoingCallProceeding, CallPresent, IncomingCallProceeding, CallReceived, Active, Enquiring, DisconnectIndication, ReleaseRequest}
use Rattle.bx_calls.specs.Hearing.{Heard, names_channel, reports_null, is_by_three}
use Rattle.bx_calls.specs.NetTable.{waits_for_acknowledge, is_after_outage, net_to, net_put_off, net_is_unacknowledged, net_is_put_off, net_disconnects, net_is_clearing, net_awake_state, net_heard, net_message, fits_active, reports_other, net_row, net_second, net_unlinked, net_rung, is_alerted, net_is_unconnected, waits_for_connect}
use Rattle.bx_calls.specs.Said.{Said, said_of}
use Rattle.bx_calls.specs.Sending.{Sent, Answered}
use Rattle.bx_day.specs.Day.{Day, entry_at, is_free, opening, entry_of, entries_from, every_channel}
use Rattle.bx_day.specs.Moves.{is_active, follows, over_at}
use Rattle.bx_day.specs.Ticks.{after_in, second_at, waits}
use Rattle.bx_day.specs.Receipts.{hears, takes_call, takes_or, takes_preferred, called_on, called, stray, received_at, opens, lowest_open, names, with_moved}
use Rattle.bx_day.specs.Run.{receive_from, receive_read, happens, day_after}
use Rattle.bx_two_ends.specs.Asking.{next_second, call_after, is_call_up, is_asked, is_touched, StandingUnasked, StandingUntouched, EntryUntouched, DayUntouched}
use Rattle.bx_day.specs.declared.entry.Activity.{Activity}
use Rattle.bx_day.specs.declared.entry.Activity.TheVariants.{Never}
use Rattle.bx_day.specs.declared.entry.Entry.{Entry}
use Rattle.bx_day.specs.declared.entry.Moved.{Moved}
use Rattle.bx_day.specs.declared.entry.Link.TheVariants.{Up}
use Rattle.bx_day.specs.declared.entry.Standing.{Standing}
use Rattle.bx_day.specs.declared.entry.Standing.TheVariants.{Unoffered, OnCall}
use Rattle.bx_day.proofs.Hear.{heard_by}
use Rattle.bx_day.proofs.Second.{call_of}
use Rattle.bx_day.proofs.Tick.{by_cases, with_standing, offers}
use Rattle.bx_day.proofs.Law.{all_update}

-- ---- a call that is being cleared is not Active again

abbrev is_cleared : Next PlainNetCall → Bool
is_cleared (Live c) = net_is_clearing c.state
is_cleared _ = true

abbrev IsCleared : Transition PlainNetCall → Type 0
IsCleared step = is_cleared step.next ≡ true

cleared_second : (c : PlainNetCall) (s : NetState) (t end : ℕ) → net_is_clearing s ≡ true → IsCleared (net_second (record c { state = s }) t end)
cleared_second c (DisconnectIndication cause due) t end h = by_cases (nat_le due t) _ _ IsCleared (λ _. refl) (λ _. refl)
cleared_second c (ReleaseRequest Twice cause due) t end h = by_cases (nat_le due t) _ _ IsCleared (λ _. refl) (λ _. refl)
cleared_second c (ReleaseRequest sent cause due) t end h = by_cases (nat_le due t) _ _ IsCleared (λ _. refl) (λ _. refl)
cleared_second c OutgoingCallProceeding t end h = absurd (false≢true h)
cleared_second c (CallPresent again due) t end h = absurd (false≢true h)
cleared_second c (IncomingCallProceeding due) t end h = absurd (false≢true h)
cleared_second c (CallReceived due) t end h = absurd (false≢true h)
cleared_second c Active t end h = absurd (false≢true h)
cleared_second c (Enquiring asked due) t end h = absurd (false≢true h)

cleared_next : (t end : ℕ) (x : Next PlainNetCall) → is_cleared x ≡ true → is_cleared (next_second t end x) ≡ true
cleared_next t end (Live c) h = cleared_second c c.state t end h
cleared_next t end Over h = refl
cleared_next t end Broken h = refl

clearing_calm : (s : NetState) → net_is_clearing s ≡ true → is_active s ≡ false
clearing_calm Active h = absurd (false≢true h)
clearing_calm (Enquiring asked due) h = absurd (false≢true h)
clearing_calm s h = refl

not_up : (x : Next PlainNetCall) → is_cleared x ≡ true → is_call_up x ≡ false
not_up (Live c) h = clearing_calm c.state h
not_up Over h = refl
not_up Broken h = refl

cleared_after : (n t end : ℕ) (x : Next PlainNetCall) → is_cleared x ≡ true → is_call_up (call_after n t end x) ≡ false
cleared_after zero t end x h = not_up x h
cleared_after (suc n) t end x h = cleared_after n (t + 1) end (next_second (t + 1) end x) (cleared_next (t + 1) end x h)

-- ---- a call that is asked for

abbrev asked_as : PlainNetCall → Times → ℕ → PlainNetCall
asked_as c asked due = record c { state = Enquiring asked due }

-- the moment at which it is cleared at the latest, where no word comes
abbrev given_up : Times → ℕ → ℕ
given_up NotYet due = due + 8
given_up Once due = due + 4
given_up Twice due = due

abbrev IsDown : ℕ → ℕ → ℕ → Transition PlainNetCall → Type 0
IsDown n t end step = is_call_up (call_after n t end step.next) ≡ false

asked_after : (n t end : ℕ) (c : PlainNetCall) (asked : Times) (due : ℕ) → t < due → given_up asked due ≤ t + n → is_call_up (call_after n t end (Live (asked_as c asked due))) ≡ false
asked_after zero t end c NotYet due waits fit = absurd (omega (arith, waits, fit))
asked_after zero t end c asked due waits fit = absurd (omega (arith, waits, fit))
asked_after (suc n) t end c NotYet due waits fit =
    by_cases (nat_le end (t + 1)) _ _ (IsDown n (t + 1) end)
    (λ _. cleared_after n (t + 1) end (net_disconnects (asked_as c NotYet due) 16 (t + 1)).next refl)
    (λ _. by_cases (nat_le due (t + 1)) _ _ (IsDown n (t + 1) end)
    (λ fires. asked_after n (t + 1) end c Once (t + 1 + 4) (omega arith) (omega (arith, waits, fit)))
    (λ later. asked_after n (t + 1) end c NotYet due (leb-false due (t + 1) later) (omega (arith, fit))))
asked_after (suc n) t end c Once due waits fit =
    by_cases (nat_le end (t + 1)) _ _ (IsDown n (t + 1) end)
    (λ _. cleared_after n (t + 1) end (net_disconnects (asked_as c Once due) 16 (t + 1)).next refl)
    (λ _. by_cases (nat_le due (t + 1)) _ _ (IsDown n (t + 1) end)
    (λ fires. asked_after n (t + 1) end c Twice (t + 1 + 4) (omega arith) (omega (arith, waits, fit)))
    (λ later. asked_after n (t + 1) end c Once due (leb-false due (t + 1) later) (omega (arith, fit))))
asked_after (suc n) t end c Twice due waits fit =
    by_cases (nat_le end (t + 1)) _ _ (IsDown n (t + 1) end)
    (λ _. cleared_after n (t + 1) end (net_disconnects (asked_as c Twice due) 16 (t + 1)).next refl)
    (λ _. by_cases (nat_le due (t + 1)) _ _ (IsDown n (t + 1) end)
    (λ fires. cleared_after n (t + 1) end (net_disconnects (asked_as c Twice due) 41 (t + 1)).next refl)
    (λ later. asked_after n (t + 1) end c Twice due (leb-false due (t + 1) later) (omega (arith, fit))))

lost_at : (c : PlainNetCall) (s : NetState) (t end : ℕ) → is_active s ≡ true → IsDown 9 t end (net_unlinked Three 1 (record c { state = s }) t end)
lost_at c Active t end h =
    by_cases (nat_le end t) _ _ (IsDown 9 t end)
    (λ _. cleared_after 9 t end (Live (record c { state = DisconnectIndication 16 (t + 1) })) refl)
    (λ _. asked_after 9 t end c NotYet (t + 1) (omega arith) (omega arith))
lost_at c (Enquiring asked due) t end h =
    by_cases (nat_le end t) _ _ (IsDown 9 t end)
    (λ _. cleared_after 9 t end (Live (record c { state = DisconnectIndication 16 (t + 1) })) refl)
    (λ _. asked_after 9 t end c NotYet (t + 1) (omega arith) (omega arith))
lost_at c OutgoingCallProceeding t end h = absurd (false≢true h)
lost_at c (CallPresent again due) t end h = absurd (false≢true h)
lost_at c (IncomingCallProceeding due) t end h = absurd (false≢true h)
lost_at c (CallReceived due) t end h = absurd (false≢true h)
lost_at c (DisconnectIndication cause due) t end h = absurd (false≢true h)
lost_at c (ReleaseRequest again cause due) t end h = absurd (false≢true h)

pub asked_in_vain : (c : PlainNetCall) (t end : ℕ) → is_active c.state ≡ true → is_call_up (call_after 9 t end (net_unlinked Three 1 c t end).next) ≡ false
asked_in_vain c t end h = lost_at c c.state t end h

-- ---- a report of a state that does not fit

is_null : (b c : Bool) → (not b && not c) ≡ false → c ≡ false → b ≡ true
is_null true c p q = refl
is_null false true p q = absurd (true≢false q)
is_null false false p q = absurd (true≢false p)

either : (x y : Bool) → y ≡ true → (x || y) ≡ true
either true y q = refl
either false y q = q

and_last : (x y : Bool) → (x && y) ≡ true → y ≡ true
and_last true y q = q
and_last false y q = absurd (false≢true q)

-- one that waits for CONNECT ACKNOWLEDGE fits
waiting_fits : (o : NetOrigin) (asked : Times) (due : ℕ) (m : Heard) (n : ℕ) → m.state ≡ Some n → net_is_unacknowledged (Enquiring asked due) o m Status ≡ true → fits_active o n ≡ true
waiting_fits (Outward called) asked due m n state q = either (n == 10) (n == 8) (sym (ap waits_for_acknowledge state) ∙ q)
waiting_fits Inward asked due m n state q = absurd (false≢true q)

-- and so does one that waits for CONNECT
connecting_fits : (o : NetOrigin) (asked : Times) (due : ℕ) (m : Heard) (n : ℕ) → m.state ≡ Some n → net_is_unconnected (Enquiring asked due) o m Status ≡ true → fits_active o n ≡ true
connecting_fits (Outward called) asked due m n state q = absurd (false≢true q)
connecting_fits Inward asked due m n state q = either (n == 10) (n == 3 || n == 1) (sym (ap waits_for_connect state) ∙ and_last (is_by_three m.rules) (waits_for_connect m.state) q)

report_ends : (c : PlainNetCall) (m : Heard) (t n : ℕ) (s : NetState) → is_asked s ≡ true → m.state ≡ Some n → fits_active c.origin n ≡ false → is_call_up (net_heard c m t s Status).next ≡ false
report_ends c m t n (Enquiring asked due) a state unfit = by_cases (reports_other c.origin m.state) _ _ (λ (x : Transition PlainNetCall). is_call_up x.next ≡ false)
    (λ _. refl)
    (λ q. by_cases (net_is_unacknowledged (Enquiring asked due) c.origin m Status) _ _ (λ (x : Transition PlainNetCall). is_call_up x.next ≡ false)
    (λ waits. absurd (true≢false (sym (waiting_fits c.origin asked due m n state waits) ∙ unfit)))
    (λ _. by_cases (net_is_unconnected (Enquiring asked due) c.origin m Status) _ _ (λ (x : Transition PlainNetCall). is_call_up x.next ≡ false)
    (λ waits. absurd (true≢false (sym (connecting_fits c.origin asked due m n state waits) ∙ unfit)))
    (λ _. (let null : reports_null m.state ≡ true = ap reports_null state ∙ is_null (n == 0) (fits_active c.origin n) (sym (ap (reports_other c.origin) state) ∙ q) unfit in
    by_cases (reports_null m.state) _ _ (λ (x : Transition PlainNetCall). is_call_up x.next ≡ false) (λ _. refl) (λ p. absurd (true≢false (sym null ∙ p)))))))
report_ends c m t n s a state unfit = absurd (false≢true a)

pub reported_down : (c : PlainNetCall) (m : Heard) (t n : ℕ) → is_asked c.state ≡ true → m.kind ≡ Status → m.state ≡ Some n → fits_active c.origin n ≡ false → is_call_up (net_message c m t).next ≡ false
reported_down c m t n a kind state unfit = subst (λ (k : Kind). is_call_up (net_heard c m t c.state k).next ≡ false) (sym kind) (report_ends c m t n c.state a state unfit)

-- a call that is not touched does as the table of messages says
never_put_off : (offer : Offer) (due : ℕ) (m : Heard) (k : Kind) → is_after_outage offer ≡ false → net_is_put_off (CallPresent offer due) m k ≡ false
never_put_off First due m ReleaseComplete q = refl
never_put_off Second due m ReleaseComplete q = refl
never_put_off First due m k q = refl
never_put_off Second due m k q = refl
never_put_off Anew due m k q = absurd (true≢false q)
never_put_off PutOff due m k q = absurd (true≢false q)
never_put_off Unlinked due m k q = absurd (true≢false q)
never_put_off Asked due m k q = absurd (true≢false q)

pub untouched_row : (c : PlainNetCall) (m : Heard) (t : ℕ) → is_touched c.state ≡ false → net_message c m t ≡ net_row c m t c.state m.kind
untouched_row c m t h = at c.state h
  where
    offered : (offer : Offer) (due : ℕ) → is_after_outage offer ≡ false → (if net_is_put_off (CallPresent offer due) m m.kind then net_to c None (net_put_off t (CallPresent offer due)) else net_row (record c { state = CallPresent offer due }) m t (CallPresent offer due) m.kind) ≡ net_row (record c { state = CallPresent offer due }) m t (CallPresent offer due) m.kind
    offered offer due q = ap (λ b. if b then net_to c None (net_put_off t (CallPresent offer due)) else net_row (record c { state = CallPresent offer due }) m t (CallPresent offer due) m.kind) (never_put_off offer due m m.kind q)

    at : (s : NetState) → is_touched s ≡ false → net_heard c m t s m.kind ≡ net_row (record c { state = s }) m t s m.kind
    at (Enquiring asked due) q = absurd (true≢false q)
    at Active q = refl
    at OutgoingCallProceeding q = refl
    at (CallPresent Asked due) q = absurd (true≢false q)
    at (CallPresent offer due) q = offered offer due q
    at (IncomingCallProceeding due) q = refl
    at (CallReceived due) q = refl
    at (DisconnectIndication cause due) q = refl
    at (ReleaseRequest sent cause due) q = refl

-- ---- what a row of the table leaves: the state as it was, or one that is neither N6 nor asked for

-- a test of a state that these do not pass
record IsOfOthers (p : NetState → Bool) : Type 0 where
  proceeding : (due : ℕ) → p (IncomingCallProceeding due) ≡ false
  received : (due : ℕ) → p (CallReceived due) ≡ false
  active : p Active ≡ false
  releases : (sent : Times) (cause : Option ℕ) (due : ℕ) → p (ReleaseRequest sent cause due) ≡ false

abbrev IsNone : (NetState → Bool) → Standing → Type 0
IsNone p (OnCall call activity) = p call.state ≡ false
IsNone p _ = Unit {0}

abbrev StepNone : (NetState → Bool) → Activity → ℕ → Transition PlainNetCall → Type 0
StepNone p a t step = IsNone p (follows a t step).standing

over_none : (p : NetState → Bool) (a : Activity) (t : ℕ) → IsNone p (over_at a t)
over_none p Never t = tt
over_none p a t = tt

row_none : (p : NetState → Bool) (r ch : ℕ) (o : NetOrigin) (t : ℕ) (a : Activity) (m : Heard) (s : NetState) (k : Kind) → IsOfOthers p → p s ≡ false → StepNone p a t (net_row (call_of r ch o s) m t s k)
row_none p r ch o t a m s ReleaseComplete f h = over_none p a t
row_none p r ch o t a m s StatusEnquiry f h = h
row_none p r ch o t a m s Status f h = by_cases (reports_null m.state) _ _ (StepNone p a t) (λ _. over_none p a t) (λ _. h)
row_none p r ch o t a m s Setup f h = h
row_none p r ch o t a m (ReleaseRequest again cause due) Release f h = over_none p a t
row_none p r ch o t a m s Release f h = over_none p a t
row_none p r ch o t a m (ReleaseRequest again cause due) k f h = h
row_none p r ch o t a m s Disconnect f h = f.releases Once None (t + 4)
row_none p r ch o t a m (DisconnectIndication cause due) k f h = h
row_none p r ch o t a m (CallPresent again due) CallProceeding f h = by_cases (names_channel m.channel ch) _ _ (StepNone p a t) (λ _. f.proceeding (t + 10)) (λ _. f.releases Once (Some 6) (t + 4))
row_none p r ch o t a m (CallPresent again due) Alerting f h = by_cases (names_channel m.channel ch) _ _ (StepNone p a t) (λ _. f.received (t + 180)) (λ _. f.releases Once (Some 6) (t + 4))
row_none p r ch o t a m (CallPresent again due) Connect f h = by_cases (names_channel m.channel ch) _ _ (StepNone p a t) (λ _. f.active) (λ _. f.releases Once (Some 6) (t + 4))
row_none p r ch o t a m (IncomingCallProceeding due) Alerting f h = f.received (t + 180)
row_none p r ch o t a m (IncomingCallProceeding due) Connect f h = f.active
row_none p r ch o t a m (CallReceived due) Connect f h = f.active
row_none p r ch (Outward called) t a m Active ConnectAcknowledge f h = h
row_none p r ch Inward t a m Active ConnectAcknowledge f h = h
row_none p r ch o t a m s k f h = h

-- ---- no call is asked for after a message of it

pub awake_unasked : (s : NetState) → is_asked (net_awake_state s) ≡ false
awake_unasked OutgoingCallProceeding = refl
awake_unasked s = refl

put_off_unasked : (t : ℕ) (offer : Offer) (due : ℕ) → is_asked (net_put_off t (CallPresent offer due)) ≡ false
put_off_unasked t PutOff due = refl
put_off_unasked t offer due = refl

rung_unasked : (t : ℕ) (reported : Option ℕ) → is_asked (net_rung t reported) ≡ false
rung_unasked t reported = by_cases (is_alerted reported) _ _ (λ (x : NetState). is_asked x ≡ false) (λ _. refl) (λ _. refl)

to_unasked : (s : Standing) → IsNone is_asked s → StandingUnasked s
to_unasked (OnCall c a) h = h
to_unasked s h = tt

pub hears_awake : (m : Said) (t : ℕ) (s : Standing) → StandingUnasked (hears m t s).standing
hears_awake m t (OnCall c a) = to_unasked (hears m t (OnCall c a)).standing (heard_by (StepNone is_asked a t) c m.heard t c.state m.heard.kind
    (record { contradicted = λ asked due is q. refl; unacknowledged = λ asked due is q. refl; connected = λ due is q. refl; put_off = λ offer due is q. put_off_unasked t offer due; unconnected = λ asked due is q. refl; ringing = λ due is q. rung_unasked t m.heard.state })
    (row_none is_asked c.reference c.channel c.origin t a m.heard (net_awake_state c.state) m.heard.kind (record { proceeding = λ due. refl; received = λ due. refl; active = refl; releases = λ sent cause due. refl }) (awake_unasked c.state)))
hears_awake m t s = tt

-- ---- no call is touched without an outage

-- there was none
abbrev IsUntouched : Day → Type 0
IsUntouched d = (d.unlinked ≡ 0) × DayUntouched d

abbrev StepUntouched : Activity → ℕ → Transition PlainNetCall → Type 0
StepUntouched a t step = StandingUntouched (follows a t step).standing

to_untouched : (s : Standing) → IsNone is_touched s → StandingUntouched s
to_untouched (OnCall c a) h = h
to_untouched s h = tt

over_untouched : (a : Activity) (t : ℕ) → StandingUntouched (over_at a t)
over_untouched Never t = tt
over_untouched a t = tt

second_untouched : (c : PlainNetCall) (s : NetState) (a : Activity) (t end : ℕ) → is_touched s ≡ false → StepUntouched a t (net_second (record c { state = s }) t end)
second_untouched c OutgoingCallProceeding a t end h = by_cases (nat_le end t) _ _ (StepUntouched a t) (λ _. refl) (λ _. refl)
second_untouched c (CallPresent First due) a t end h = by_cases (nat_le end t) _ _ (StepUntouched a t) (λ _. refl) (λ _. by_cases (nat_le due t) _ _ (StepUntouched a t) (λ _. refl) (λ _. refl))
second_untouched c (CallPresent Second due) a t end h = by_cases (nat_le end t) _ _ (StepUntouched a t) (λ _. refl) (λ _. by_cases (nat_le due t) _ _ (StepUntouched a t) (λ _. over_untouched a t) (λ _. refl))
second_untouched c (CallPresent offer due) a t end h = absurd (true≢false h)
second_untouched c (IncomingCallProceeding due) a t end h = by_cases (nat_le end t) _ _ (StepUntouched a t) (λ _. refl) (λ _. by_cases (nat_le due t) _ _ (StepUntouched a t) (λ _. refl) (λ _. refl))
second_untouched c (CallReceived due) a t end h = by_cases (nat_le end t) _ _ (StepUntouched a t) (λ _. refl) (λ _. by_cases (nat_le due t) _ _ (StepUntouched a t) (λ _. refl) (λ _. refl))
second_untouched c Active a t end h = by_cases (nat_le end t) _ _ (StepUntouched a t) (λ _. refl) (λ _. refl)
second_untouched c (Enquiring asked due) a t end h = absurd (true≢false h)
second_untouched c (DisconnectIndication cause due) a t end h = by_cases (nat_le due t) _ _ (StepUntouched a t) (λ _. refl) (λ _. refl)
second_untouched c (ReleaseRequest Twice cause due) a t end h = by_cases (nat_le due t) _ _ (StepUntouched a t) (λ _. over_untouched a t) (λ _. refl)
second_untouched c (ReleaseRequest sent cause due) a t end h = by_cases (nat_le due t) _ _ (StepUntouched a t) (λ _. refl) (λ _. refl)

hears_untouched : (m : Said) (t : ℕ) (s : Standing) → StandingUntouched s → StandingUntouched (hears m t s).standing
hears_untouched m t (OnCall c a) h = subst (StepUntouched a t) (sym (untouched_row c m.heard t h))
    (to_untouched (follows a t (net_row c m.heard t c.state m.heard.kind)).standing (row_none is_touched c.reference c.channel c.origin t a m.heard c.state m.heard.kind (record { proceeding = λ due. refl; received = λ due. refl; active = refl; releases = λ sent cause due. refl }) h))
hears_untouched m t s h = tt

waits_untouched : (t : ℕ) (e : Entry) (free : Bool) → StandingUntouched (waits e t false free).standing
waits_untouched t e free =
    let P : Moved → Type 0 = λ m. StandingUntouched m.standing in
    by_cases (offers e t free) _ _ P (λ _. refl) (λ _. by_cases (nat_le e.booking.end t) _ _ P (λ _. tt) (λ _. tt))

tick_untouched : (t : ℕ) (e : Entry) (free : Bool) (s : Standing) → StandingUntouched s → StandingUntouched (second_at e t false free s).standing
tick_untouched t e free (OnCall c a) h = second_untouched c c.state a t e.booking.end h
tick_untouched t e free Unoffered h = waits_untouched t e free
tick_untouched t e free s h = tt

never_now : (t : ℕ) → (0 == t + 1) ≡ false
never_now t = false_from_ne_true (0 == t + 1) (λ same. let q : 0 ≡ t + 1 = eqb-true 0 (t + 1) same in absurd (omega (arith, q)))

up_untouched : (d : Day) (es : List Entry) → d.unlinked ≡ 0 → AllByRecursion EntryUntouched es → AllByRecursion EntryUntouched (map (after_in Up d) es)
up_untouched d [] never h = tt
up_untouched d (e ∷ es) never h = (
  subst (λ b. StandingUntouched (second_at e (d.moment + 1) b (is_free d e.channel) e.standing).standing) (sym (ap (λ n. n == d.moment + 1) never ∙ never_now d.moment)) (tick_untouched (d.moment + 1) e (is_free d e.channel) e.standing h.0),
  up_untouched d es never h.1,
)

moved_untouched : (d : Day) (i : ℕ) (m : Moved) → (EntryUntouched (entry_at d.entries i) → EntryUntouched (with_standing (entry_at d.entries i) m.standing)) → IsUntouched d → IsUntouched (with_moved d i m).day
moved_untouched d i m f h = (h.0, all_update EntryUntouched d.entries i (with_standing (entry_at d.entries i) m.standing) f h.1)

takes_untouched : (d : Day) (m : Said) (cause : ℕ) (o : Option ℕ) → IsUntouched d → IsUntouched (takes_or d m cause o).day
takes_untouched d m cause None h = h
takes_untouched d m cause (Some i) h = moved_untouched d i (takes_call m (entry_at d.entries i)) (λ _. refl) h

preferred_untouched : (d : Day) (m : Said) (o : Option ℕ) → IsUntouched d → IsUntouched (takes_preferred d m o).day
preferred_untouched d m None h = takes_untouched d m 34 (lowest_open d every_channel) h
preferred_untouched d m (Some i) h = takes_untouched d m 34 (Some i) h

on_untouched : (d : Day) (m : Said) (f : ChannelField) → IsUntouched d → IsUntouched (called_on d m f).day
on_untouched d m Absent h = takes_untouched d m 34 (lowest_open d every_channel) h
on_untouched d m AnyChannel h = takes_untouched d m 34 (lowest_open d every_channel) h
on_untouched d m Unread h = h
on_untouched d m (Named c true) h = takes_untouched d m 44 (position (opens d c) d.entries) h
on_untouched d m (Named c false) h = preferred_untouched d m (position (opens d c) d.entries) h

called_untouched : (d : Day) (m : Said) (b : Option ℕ) → IsUntouched d → IsUntouched (called d m b).day
called_untouched d m (Some cause) h = h
called_untouched d m None h = on_untouched d m m.heard.channel h

stray_untouched : (d : Day) (m : Said) (k : Kind) → IsUntouched d → IsUntouched (stray d m k).day
stray_untouched d m Setup h = by_cases m.flag _ _ (λ (x : Answered Day). IsUntouched x.day) (λ _. h) (λ _. called_untouched d m m.refused h)
stray_untouched d m k h = h

received_untouched : (d : Day) (m : Said) (o : Option ℕ) → IsUntouched d → IsUntouched (received_at d m o).day
received_untouched d m None h = stray_untouched d m m.heard.kind h
received_untouched d m (Some i) h = moved_untouched d i (hears m d.moment (entry_at d.entries i).standing) (λ k. hears_untouched m d.moment (entry_at d.entries i).standing k) h

from_untouched : (d : Day) (m : PlainMessage) (r : Reference) → IsUntouched d → IsUntouched (receive_from Three d m r).day
from_untouched d m Dummy h = h
from_untouched d m (Value value flag) h = by_cases (value == 0) _ _ (λ (x : Answered Day). IsUntouched x.day) (λ _. h) (λ _. received_untouched d (said_of value flag m) (position (names (said_of value flag m)) d.entries) h)

read_untouched : (d : Day) (r : Result PlainMessage MessageFault) → IsUntouched d → IsUntouched (receive_read Three d r).day
read_untouched d (Err fault) h = h
read_untouched d (Ok m) h = from_untouched d m m.reference h

happens_untouched : (d : Day) (e : Event) → IsUntouched d → IsUntouched (happens d e).day
happens_untouched d Tick h = by_cases (nat_le 300000 d.moment) _ _ (λ (s : Sent Day). IsUntouched s.day) (λ _. h) (λ _. (h.0, up_untouched d d.entries h.0 h.1))
happens_untouched d (Receive octets) h = read_untouched d (message_at octets) h

run_untouched : (events : List Event) (d : Day) → IsUntouched d → IsUntouched (day_after events d)
run_untouched [] d h = h
run_untouched (e ∷ es) d h = run_untouched es (happens d e).day (happens_untouched d e h)

opens_untouched : (k : ℕ) (b : Row) (a : Option ℕ) → EntryUntouched (entry_of k b a)
opens_untouched k b None = tt
opens_untouched k b (Some c) = tt

all_open : (k : ℕ) (rows : List Row) (assigned : List (Option ℕ)) → AllByRecursion EntryUntouched (entries_from k rows assigned)
all_open k [] assigned = tt
all_open k (b ∷ bs) [] = (opens_untouched k b None, all_open (k + 1) bs [])
all_open k (b ∷ bs) (a ∷ as') = (opens_untouched k b a, all_open (k + 1) bs as')

pub never_touched : (rows : List Row) (assigned : List (Option ℕ)) (events : List Event) → DayUntouched (day_after events (opening rows assigned))
never_touched rows assigned events = (run_untouched events (opening rows assigned) (refl, all_open 1 rows assigned)).1
