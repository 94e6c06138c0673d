-- What is sent is in its time: SETUP and CALL PROCEEDING only for an accepted booking that runs.
use Rattle.bx_events.specs.declared.rules.Rules.TheVariants.{Two, Three}
use Rattle.bx_events.specs.declared.rules.Rules.{Rules}
use Rattle.std.proofs.Common.{◌≡◌, ℕ, suc, ◌+◌, ◌-◌, ◌≤◌, ◌<◌, not, Bool, true, false, List, [], ◌∷◌, Option, Some, None, arith, refl, sym, subst, ap, ◌∙◌, nat_le, if◌then◌else◌, ◌==◌, Result, Ok, Err}
use Rattle.std.specs.List.{AllByRecursion, position}
use Rattle.std.proofs.lemmas.Bool.{false≢true, true≢false, and_from, le-leb, lt-ltb, leb-false}
use Rattle.std.proofs.lemmas.List.Elements.{All-cons, All-nil}
use Rattle.std.specs.Prelude.{All, nat_lt}
use Rattle.bx_base.specs.Bookings.{Row, row_at, is_running}
use Rattle.bx_base.specs.Plans.{is_accepted, channel_at}
use Rattle.bx_q931.specs.declared.kind.Kind.{Kind}
use Rattle.bx_q931.specs.declared.kind.Kind.TheVariants.{Alerting, CallProceeding, Progress, Setup, Connect, ConnectAcknowledge, Disconnect, Release, ReleaseComplete, Notify, StatusEnquiry, Information, Status}
use Rattle.bx_q931.specs.Outgoing.{Outgoing}
use Rattle.bx_calls.specs.declared.transition.Transition.{Transition}
use Rattle.bx_calls.specs.declared.transition.Next.{Next}
use Rattle.bx_calls.specs.declared.transition.Next.TheVariants.{Broken}
use Rattle.bx_calls.specs.PlainCalls.{PlainNetCall}
use Rattle.bx_calls.specs.declared.net_state.NetOrigin.{NetOrigin}
use Rattle.bx_calls.specs.declared.net_state.NetOrigin.TheVariants.{Outward, Inward}
use Rattle.bx_calls.specs.declared.net_state.Offer.{Offer}
use Rattle.bx_calls.specs.declared.net_state.Offer.TheVariants.{Second, Unlinked}
use Rattle.bx_calls.specs.declared.times.Times.{Times}
use Rattle.bx_calls.specs.declared.times.Times.TheVariants.{NotYet, Once, Twice}
use Rattle.bx_calls.specs.declared.net_state.NetState.{NetState}
use Rattle.bx_calls.specs.declared.net_state.NetState.TheVariants.{OutgoingCallProceeding, CallPresent, IncomingCallProceeding, CallReceived, Active, Enquiring, DisconnectIndication, ReleaseRequest}
use Rattle.bx_calls.specs.Hearing.{Heard, names_channel, reports_null}
use Rattle.bx_calls.specs.NetTable.{net_awake_state, net_heard, net_row, net_message, net_second, net_offer_due, net_release_due, net_releases, net_setup_again, proceeding_of}
use Rattle.bx_calls.specs.Saying.{setup_of}
use Rattle.bx_day.specs.Law.{OutFits, SentFits}
use Rattle.bx_q931.specs.Messages.{PlainMessage, message_at}
use Rattle.bx_q931.specs.declared.reference.Reference.{Reference}
use Rattle.bx_q931.specs.declared.reference.Reference.TheVariants.{Dummy, Value}
use Rattle.bx_q931.specs.declared.fault.MessageFault.{MessageFault}
use Rattle.bx_q931.specs.declared.channel_field.ChannelField.{ChannelField}
use Rattle.bx_q931.specs.declared.channel_field.ChannelField.TheVariants.{Named, Unread}
use Rattle.bx_calls.specs.UnknownTable.{unknown_row, unknown_status}
use Rattle.bx_calls.specs.declared.unknown_reference.Side.TheVariants.{Network}
use Rattle.bx_calls.specs.Said.{Said, said_under}
use Rattle.bx_day.specs.Day.{is_back, Day, entry_at, is_free, every_channel}
use Rattle.bx_day.specs.Ticks.{waits, second_at, tick, second_in}
use Rattle.bx_day.specs.Receipts.{opens, lowest_open, names, hears, takes_or, takes_preferred, called_on, called, stray, received_at}
use Rattle.bx_day.specs.Moves.{follow}
use Rattle.bx_calls.specs.Sending.{Sent, Answered, reply_list}
use Rattle.bx_events.specs.Events.{Event, Tick, Receive, LiveEvent, OnLink, HeardByRulesTwo}
use Rattle.bx_day.specs.Outages.{live_happens}
use Rattle.bx_day.specs.Run.{receive_from, receive_read, happens}
use Rattle.bx_day.specs.declared.entry.Standing.{Standing}
use Rattle.bx_day.specs.declared.entry.Standing.TheVariants.{Unoffered, OnCall}
use Rattle.bx_day.specs.declared.entry.Moved.{Moved}
use Rattle.bx_day.specs.declared.entry.Entry.{Entry}
use Rattle.bx_day.specs.declared.entry.Activity.{Activity}
use Rattle.bx_day.specs.Invariant.{CallFits, OriginFits, EntryFits, DayFits, is_refused}
use Rattle.bx_day.proofs.Second.{call_of}
use Rattle.bx_day.proofs.Said.{OfSaid, all_over}
use Rattle.bx_day.proofs.Hear.{heard_by}
use Rattle.bx_day.proofs.Tick.{by_cases, with_standing, offers, offers_parts, all_weaker}
use Rattle.bx_day.proofs.Receive.{all_at, OpenAt, Open, open_parts, open_index, open_lowest}
use Rattle.bx_day.specs.declared.entry.Link.TheVariants.{Up}

-- neither SETUP nor CALL PROCEEDING
abbrev pub is_plain : Kind → Bool
is_plain Setup = false
is_plain CallProceeding = false
is_plain _ = true

pub plain_fits : (rows : List Row) (assigned : List (Option ℕ)) (t : ℕ) (o : Outgoing) → is_plain o.kind ≡ true → OutFits rows assigned t o
plain_fits rows assigned t o h = record {
  setup = λ k. absurd (true≢false (sym h ∙ ap is_plain k));
  proceeding = λ k. absurd (true≢false (sym h ∙ ap is_plain k));
}

abbrev pub is_setup : Kind → Bool
is_setup Setup = true
is_setup _ = false

-- a SETUP with this reference, for the booking of this index
setup_at : (rows : List Row) (assigned : List (Option ℕ)) (t i r ch : ℕ) (called : List ℕ) → r ≡ suc i → is_accepted assigned i ≡ true → (row_at rows i).inward ≡ false → is_running (row_at rows i) t ≡ true → ch ≡ channel_at assigned i → OutFits rows assigned t (setup_of r ch called)
setup_at rows assigned t i r ch called is accepted outward runs channel = let q = less r i is in record {
  setup = λ _. record {
    named = omega (arith, is);
    accepted = subst (λ j. is_accepted assigned j ≡ true) (sym q) accepted;
    outward = subst (λ j. (row_at rows j).inward ≡ false) (sym q) outward;
    runs = subst (λ j. is_running (row_at rows j) t ≡ true) (sym q) runs;
    channel = ap (λ (x : ℕ). Some (x, true)) (channel ∙ ap (channel_at assigned) (sym q));
  };
  proceeding = λ k. absurd (true≢false (ap is_setup k));
}
  where
    less : (x y : ℕ) → x ≡ suc y → x - 1 ≡ y
    less x y q = omega arith

pub proceeding_fits : (rows : List Row) (assigned : List (Option ℕ)) (t i r ch : ℕ) → is_accepted assigned i ≡ true → (row_at rows i).inward ≡ true → is_running (row_at rows i) t ≡ true → ch ≡ channel_at assigned i → OutFits rows assigned t (proceeding_of r ch)
proceeding_fits rows assigned t i r ch accepted inward runs channel = record {
  setup = λ k. absurd (false≢true (ap is_setup k));
  proceeding = λ _. record { row = i; accepted = accepted; inward = inward; runs = runs; channel = ap (λ (x : ℕ). Some (x, true)) channel };
}

-- where an entry stands in its plan: its index there, and what no event changes of it
pub record Placed (rows : List Row) (assigned : List (Option ℕ)) (e : Entry) : Type 0 where
  pub index : ℕ
  pub row : e.reference ≡ suc index
  pub own : e.reference ≡ e.row
  pub booking : e.booking ≡ row_at rows index
  pub channel : e.channel ≡ channel_at assigned index
  pub accepted : is_refused e.standing ≡ not (is_accepted assigned index)

placed_accepted : (rows : List Row) (assigned : List (Option ℕ)) (e : Entry) (p : Placed rows assigned e) → is_refused e.standing ≡ false → is_accepted assigned p.index ≡ true
placed_accepted rows assigned e p accepted = not_refused (is_accepted assigned p.index) (sym accepted ∙ p.accepted)
  where
    not_refused : (b : Bool) → false ≡ not b → b ≡ true
    not_refused true h = refl
    not_refused false h = h

-- a SETUP for a booking that runs, from the exchange
pub setup_fits : (rows : List Row) (assigned : List (Option ℕ)) (t : ℕ) (e : Entry) (r ch : ℕ) (called : List ℕ) → Placed rows assigned e → is_refused e.standing ≡ false → e.booking.inward ≡ false → is_running e.booking t ≡ true → r ≡ e.reference → ch ≡ e.channel → OutFits rows assigned t (setup_of r ch called)
setup_fits rows assigned t e r ch called p accepted outward runs same on =
    setup_at rows assigned t p.index r ch called (same ∙ p.row)
    (placed_accepted rows assigned e p accepted)
    (subst (λ b. b.inward ≡ false) p.booking outward)
    (subst (λ b. is_running b t ≡ true) p.booking runs)
    (on ∙ p.channel)

-- what a message makes the exchange say is neither
pub test_said : (P : Outgoing → Type 0) (b : Bool) (x y : Transition PlainNetCall) → (b ≡ true → OfSaid P x.reply) → (b ≡ false → OfSaid P y.reply) → OfSaid P (if b then x else y).reply
test_said P true x y f g = f refl
test_said P false x y f g = g refl

abbrev pub Plain : Outgoing → Type 0
Plain o = is_plain o.kind ≡ true

releases_plain : (c : PlainNetCall) (sent : Times) (cause : Option ℕ) (t : ℕ) → OfSaid Plain (net_releases c sent cause t).reply
releases_plain c sent None t = refl
releases_plain c sent (Some cause) t = refl

pub row_plain : (r ch : ℕ) (o : NetOrigin) (t : ℕ) (m : Heard) (s : NetState) (k : Kind) → OfSaid Plain (net_row (call_of r ch o s) m t s k).reply
row_plain r ch o t m s ReleaseComplete = tt
row_plain r ch o t m s StatusEnquiry = refl
row_plain r ch o t m s Status = test_said Plain (reports_null m.state) _ _ (λ _. tt) (λ _. tt)
row_plain r ch o t m s Setup = tt
row_plain r ch o t m (ReleaseRequest again cause due) Release = tt
row_plain r ch o t m s Release = refl
row_plain r ch o t m (ReleaseRequest again cause due) k = tt
row_plain r ch o t m s Disconnect = refl
row_plain r ch o t m (DisconnectIndication cause due) k = tt
row_plain r ch o t m (CallPresent again due) CallProceeding = test_said Plain (names_channel m.channel ch) _ _ (λ _. tt) (λ _. refl)
row_plain r ch o t m (CallPresent again due) Alerting = test_said Plain (names_channel m.channel ch) _ _ (λ _. tt) (λ _. refl)
row_plain r ch o t m (CallPresent again due) Connect = test_said Plain (names_channel m.channel ch) _ _ (λ _. refl) (λ _. refl)
row_plain r ch o t m (IncomingCallProceeding due) Alerting = tt
row_plain r ch Inward t m Active ConnectAcknowledge = tt
row_plain r ch o t m s Progress = tt
row_plain r ch o t m s Notify = tt
row_plain r ch o t m s Information = tt
row_plain r ch o t m s k = refl

pub heard_plain : (r ch : ℕ) (o : NetOrigin) (t : ℕ) (m : Heard) (s : NetState) (k : Kind) → OfSaid Plain (net_heard (call_of r ch o s) m t s k).reply
heard_plain r ch o t m s k = heard_by (λ (x : Transition PlainNetCall). OfSaid Plain x.reply) (call_of r ch o s) m t s k
    (record { contradicted = λ asked due is q. releases_plain (call_of r ch o s) Once (Some 101) t; unacknowledged = λ asked due is q. refl; connected = λ due is q. refl; put_off = λ offer due is q. tt; unconnected = λ asked due is q. refl; ringing = λ due is q. tt }) (row_plain r ch o t m (net_awake_state s) k)

-- what a second makes a call say: SETUP again, of an outward call, or neither
abbrev SecondFits : List Row → List (Option ℕ) → ℕ → ℕ → PlainNetCall → Type 0
SecondFits rows assigned t end c = OfSaid (OutFits rows assigned t) (net_second c t end).reply

again_fits : (rows : List Row) (assigned : List (Option ℕ)) (t : ℕ) (e : Entry) (r ch : ℕ) (o : NetOrigin) (s : NetState) → Placed rows assigned e → is_refused e.standing ≡ false → OriginFits e.reference e.booking r o → is_running e.booking t ≡ true → ch ≡ e.channel → OfSaid (OutFits rows assigned t) (net_setup_again (call_of r ch o s) o)
again_fits rows assigned t e r ch (Outward called) s p accepted origin runs on = setup_fits rows assigned t e r ch called p accepted origin.0 runs origin.1 on
again_fits rows assigned t e r ch Inward s p accepted origin runs on = tt

plain_said : (rows : List Row) (assigned : List (Option ℕ)) (t : ℕ) (o : Option Outgoing) → OfSaid Plain o → OfSaid (OutFits rows assigned t) o
plain_said rows assigned t None h = tt
plain_said rows assigned t (Some o) h = plain_fits rows assigned t o h

runs_on : (b : Row) (t : ℕ) → b.start ≤ t → nat_le b.end (t + 1) ≡ false → is_running b (t + 1) ≡ true
runs_on b t start late =
    let early : t + 1 < b.end = leb-false b.end (t + 1) late in
    and_from (nat_le b.start (t + 1)) (nat_lt (t + 1) b.end) (le-leb b.start (t + 1) (omega arith)) (lt-ltb (t + 1) b.end early)

-- N6, whose timer is due: SETUP again, or neither
offer_said : (rows : List Row) (assigned : List (Option ℕ)) (t r ch : ℕ) (o : NetOrigin) (offer : Offer) (due : ℕ) → OfSaid (OutFits rows assigned t) (net_setup_again (call_of r ch o (CallPresent offer due)) o) → OfSaid (OutFits rows assigned t) (net_offer_due (call_of r ch o (CallPresent offer due)) t offer).reply
offer_said rows assigned t r ch o Second due h = plain_fits rows assigned t _ refl
offer_said rows assigned t r ch o Unlinked due h = plain_fits rows assigned t _ refl
offer_said rows assigned t r ch o offer due h = h

release_said : (rows : List Row) (assigned : List (Option ℕ)) (t : ℕ) (c : PlainNetCall) (sent : Times) (cause : Option ℕ) → OfSaid (OutFits rows assigned t) (net_release_due c t sent cause).reply
release_said rows assigned t c NotYet cause = plain_said rows assigned t (net_releases c Once cause t).reply (releases_plain c Once cause t)
release_said rows assigned t c Once cause = plain_said rows assigned t (net_releases c Twice cause t).reply (releases_plain c Twice cause t)
release_said rows assigned t c Twice cause = tt

pub second_said : (rows : List Row) (assigned : List (Option ℕ)) (t : ℕ) (e : Entry) (r ch : ℕ) (o : NetOrigin) (s : NetState) (a : Activity) → Placed rows assigned e → is_refused e.standing ≡ false → CallFits t e (call_of r ch o s) a → SecondFits rows assigned (t + 1) e.booking.end (call_of r ch o s)
second_said rows assigned t e r ch o OutgoingCallProceeding a p acc h =
    test_said (OutFits rows assigned (t + 1)) (nat_le e.booking.end (t + 1)) _ _ (λ _. plain_fits rows assigned (t + 1) _ refl) (λ _. plain_fits rows assigned (t + 1) _ refl)
second_said rows assigned t e r ch o (CallPresent offer due) a p acc h =
    test_said (OutFits rows assigned (t + 1)) (nat_le e.booking.end (t + 1)) _ _ (λ _. plain_fits rows assigned (t + 1) _ refl)
    (λ late. test_said (OutFits rows assigned (t + 1)) (nat_le due (t + 1)) _ _
    (λ _. offer_said rows assigned (t + 1) r ch o offer due (again_fits rows assigned (t + 1) e r ch o (CallPresent offer due) p acc h.origin (runs_on e.booking t h.phase.0 late) h.channel))
    (λ _. tt))
second_said rows assigned t e r ch o (IncomingCallProceeding due) a p acc h =
    test_said (OutFits rows assigned (t + 1)) (nat_le e.booking.end (t + 1)) _ _ (λ _. plain_fits rows assigned (t + 1) _ refl)
    (λ _. test_said (OutFits rows assigned (t + 1)) (nat_le due (t + 1)) _ _ (λ _. plain_fits rows assigned (t + 1) _ refl) (λ _. tt))
second_said rows assigned t e r ch o (CallReceived due) a p acc h =
    test_said (OutFits rows assigned (t + 1)) (nat_le e.booking.end (t + 1)) _ _ (λ _. plain_fits rows assigned (t + 1) _ refl)
    (λ _. test_said (OutFits rows assigned (t + 1)) (nat_le due (t + 1)) _ _ (λ _. plain_fits rows assigned (t + 1) _ refl) (λ _. tt))
second_said rows assigned t e r ch o Active a p acc h =
    test_said (OutFits rows assigned (t + 1)) (nat_le e.booking.end (t + 1)) _ _ (λ _. plain_fits rows assigned (t + 1) _ refl) (λ _. tt)
second_said rows assigned t e r ch o (Enquiring Twice due) a p acc h =
    test_said (OutFits rows assigned (t + 1)) (nat_le e.booking.end (t + 1)) _ _ (λ _. plain_fits rows assigned (t + 1) _ refl)
    (λ _. test_said (OutFits rows assigned (t + 1)) (nat_le due (t + 1)) _ _ (λ _. plain_fits rows assigned (t + 1) _ refl) (λ _. tt))
second_said rows assigned t e r ch o (DisconnectIndication cause due) a p acc h =
    test_said (OutFits rows assigned (t + 1)) (nat_le due (t + 1)) _ _ (λ _. plain_fits rows assigned (t + 1) _ refl) (λ _. tt)
second_said rows assigned t e r ch o (ReleaseRequest sent cause due) a p acc h =
    test_said (OutFits rows assigned (t + 1)) (nat_le due (t + 1)) _ _ (λ _. release_said rows assigned (t + 1) (call_of r ch o (ReleaseRequest sent cause due)) sent cause) (λ _. tt)
second_said rows assigned t e r ch o (Enquiring x due) a p acc h =
    test_said (OutFits rows assigned (t + 1)) (nat_le e.booking.end (t + 1)) _ _ (λ _. plain_fits rows assigned (t + 1) _ refl)
    (λ _. test_said (OutFits rows assigned (t + 1)) (nat_le due (t + 1)) _ _ (λ _. plain_fits rows assigned (t + 1) _ refl) (λ _. tt))

follow_said : (P : Outgoing → Type 0) (a : Activity) (t : ℕ) (said : Option Outgoing) (n : Next PlainNetCall) → OfSaid P said → OfSaid P (follow a t said n).said
follow_said P a t said Broken h = h
follow_said P a t said n h = h

-- what a second makes one booking say
waits_said : (rows : List Row) (assigned : List (Option ℕ)) (t : ℕ) (e : Entry) (back free : Bool) → Placed rows assigned (with_standing e Unoffered) → OfSaid (OutFits rows assigned t) (waits e t back free).said
waits_said rows assigned t e back free p =
    by_cases (offers e t free) _ _ (λ (m : Moved). OfSaid (OutFits rows assigned t) m.said)
    (λ offered. let q = offers_parts e t free offered in
    setup_fits rows assigned t (with_standing e Unoffered) e.reference e.channel e.booking.number p refl q.1 q.0 refl refl)
    (λ _. by_cases (nat_le e.booking.end t) _ _ (λ (m : Moved). OfSaid (OutFits rows assigned t) m.said) (λ _. tt) (λ _. tt))

entry_said : (rows : List Row) (assigned : List (Option ℕ)) (t : ℕ) (e : Entry) (back free : Bool) (s : Standing) → Placed rows assigned (with_standing e s) → EntryFits t (with_standing e s) → OfSaid (OutFits rows assigned (t + 1)) (second_at e (t + 1) back free s).said
entry_said rows assigned t e back free Unoffered p h = waits_said rows assigned (t + 1) e back free p
entry_said rows assigned t e back free (OnCall c a) p h =
    follow_said (OutFits rows assigned (t + 1)) a (t + 1) (net_second c (t + 1) e.booking.end).reply (net_second c (t + 1) e.booking.end).next
    (second_said rows assigned t (with_standing e (OnCall c a)) c.reference c.channel c.origin c.state a p refl h)
entry_said rows assigned t e back free s p h = tt

entries_said : (rows : List Row) (assigned : List (Option ℕ)) (d : Day) (es : List Entry) → AllByRecursion (Placed rows assigned) es → AllByRecursion (EntryFits d.moment) es → AllByRecursion (λ e. OfSaid (OutFits rows assigned (d.moment + 1)) (second_in Up d e).said) es
entries_said rows assigned d [] p h = tt
entries_said rows assigned d (e ∷ es) p h = (entry_said rows assigned d.moment e (is_back d) (is_free d e.channel) e.standing p.0 h.0, entries_said rows assigned d es p.1 h.1)

-- a tick
pub tick_said : (rows : List Row) (assigned : List (Option ℕ)) (d : Day) → AllByRecursion (Placed rows assigned) d.entries → DayFits d → AllByRecursion (OutFits rows assigned (tick d).day.moment) (tick d).sent
tick_said rows assigned d p h = by_cases (nat_le 300000 d.moment) _ _ (λ (s : Sent Day). AllByRecursion (OutFits rows assigned s.day.moment) s.sent)
    (λ _. tt)
    (λ _. all_over (OutFits rows assigned (d.moment + 1)) d every_channel (entries_said rows assigned d d.entries p h.each))

-- a receipt
abbrev pub ReplyFits : List Row → List (Option ℕ) → Answered Day → Type 0
ReplyFits rows assigned x = OfSaid (OutFits rows assigned x.day.moment) x.reply

placed_at : (rows : List Row) (assigned : List (Option ℕ)) (es : List Entry) (i : ℕ) → AllByRecursion (Placed rows assigned) es → is_refused (entry_at es i).standing ≡ false → Placed rows assigned (entry_at es i)
placed_at rows assigned es i h =
    all_at (λ e. is_refused e.standing ≡ false → Placed rows assigned e) (λ r. absurd (true≢false r)) es i
    (all_weaker (Placed rows assigned) (λ e. is_refused e.standing ≡ false → Placed rows assigned e) (λ e p _. p) es h)

hears_plain : (m : Said) (t : ℕ) (s : Standing) → OfSaid Plain (hears m t s).said
hears_plain m t (OnCall c a) = follow_said Plain a t (net_message c m.heard t).reply (net_message c m.heard t).next (heard_plain c.reference c.channel c.origin t m.heard c.state m.heard.kind)
hears_plain m t s = tt

takes_said : (rows : List Row) (assigned : List (Option ℕ)) (d : Day) (m : Said) (cause : ℕ) (o : Option ℕ) → AllByRecursion (Placed rows assigned) d.entries → OpenAt d o → ReplyFits rows assigned (takes_or d m cause o)
takes_said rows assigned d m cause None p op = plain_fits rows assigned d.moment _ refl
takes_said rows assigned d m cause (Some i) p op =
    let e = entry_at d.entries i in
    let q : Open d e = open_parts d e op in
    let at : Placed rows assigned e = placed_at rows assigned d.entries i p q.accepted in
    proceeding_fits rows assigned d.moment at.index m.reference e.channel
    (placed_accepted rows assigned e at q.accepted)
    (subst (λ b. b.inward ≡ true) at.booking q.inward)
    (subst (λ b. is_running b d.moment ≡ true) at.booking q.runs)
    at.channel

preferred_said : (rows : List Row) (assigned : List (Option ℕ)) (d : Day) (m : Said) (o : Option ℕ) → AllByRecursion (Placed rows assigned) d.entries → OpenAt d o → ReplyFits rows assigned (takes_preferred d m o)
preferred_said rows assigned d m None p op = takes_said rows assigned d m 34 (lowest_open d every_channel) p (open_lowest d every_channel)
preferred_said rows assigned d m (Some i) p op = takes_said rows assigned d m 34 (Some i) p op

on_said : (rows : List Row) (assigned : List (Option ℕ)) (d : Day) (m : Said) (f : ChannelField) → AllByRecursion (Placed rows assigned) d.entries → ReplyFits rows assigned (called_on d m f)
on_said rows assigned d m Unread p = plain_fits rows assigned d.moment _ refl
on_said rows assigned d m (Named c true) p = takes_said rows assigned d m 44 (position (opens d c) d.entries) p (open_index d c)
on_said rows assigned d m (Named c false) p = preferred_said rows assigned d m (position (opens d c) d.entries) p (open_index d c)
on_said rows assigned d m f p = takes_said rows assigned d m 34 (lowest_open d every_channel) p (open_lowest d every_channel)

called_said : (rows : List Row) (assigned : List (Option ℕ)) (d : Day) (m : Said) (o : Option ℕ) → AllByRecursion (Placed rows assigned) d.entries → ReplyFits rows assigned (called d m o)
called_said rows assigned d m (Some cause) p = plain_fits rows assigned d.moment _ refl
called_said rows assigned d m None p = on_said rows assigned d m m.heard.channel p

status_plain : (r : ℕ) (flag : Bool) (o : Option ℕ) → OfSaid Plain (unknown_status Network r flag o)
status_plain r flag None = tt
status_plain r flag (Some n) = by_cases (n == 0) _ _ (λ (x : Option Outgoing). OfSaid Plain x) (λ _. tt) (λ _. refl)

unknown_plain : (r : ℕ) (flag : Bool) (m : Heard) (k : Kind) → OfSaid Plain (unknown_row Network r flag m k)
unknown_plain r flag m ReleaseComplete = tt
unknown_plain r flag m Status = status_plain r flag m.state
unknown_plain r flag m Setup = tt
unknown_plain r flag m k = refl

stray_said : (rows : List Row) (assigned : List (Option ℕ)) (d : Day) (m : Said) (k : Kind) → AllByRecursion (Placed rows assigned) d.entries → ReplyFits rows assigned (stray d m k)
stray_said rows assigned d m Setup p = by_cases m.flag _ _ (λ (x : Answered Day). ReplyFits rows assigned x) (λ _. tt) (λ _. called_said rows assigned d m m.refused p)
stray_said rows assigned d m k p = plain_said rows assigned d.moment (unknown_row Network m.reference (not m.flag) m.heard k) (unknown_plain m.reference (not m.flag) m.heard k)

received_said : (rows : List Row) (assigned : List (Option ℕ)) (d : Day) (m : Said) (o : Option ℕ) → AllByRecursion (Placed rows assigned) d.entries → ReplyFits rows assigned (received_at d m o)
received_said rows assigned d m None p = stray_said rows assigned d m m.heard.kind p
received_said rows assigned d m (Some i) p = plain_said rows assigned d.moment (hears m d.moment (entry_at d.entries i).standing).said (hears_plain m d.moment (entry_at d.entries i).standing)

from_said : (u : Rules) (rows : List Row) (assigned : List (Option ℕ)) (d : Day) (m : PlainMessage) (r : Reference) → AllByRecursion (Placed rows assigned) d.entries → ReplyFits rows assigned (receive_from u d m r)
from_said u rows assigned d m Dummy p = tt
from_said u rows assigned d m (Value value flag) p = by_cases (value == 0) _ _ (λ (x : Answered Day). ReplyFits rows assigned x) (λ _. tt) (λ _. received_said rows assigned d (said_under u value flag m) (position (names (said_under u value flag m)) d.entries) p)

read_said : (u : Rules) (rows : List Row) (assigned : List (Option ℕ)) (d : Day) (r : Result PlainMessage MessageFault) → AllByRecursion (Placed rows assigned) d.entries → ReplyFits rows assigned (receive_read u d r)
read_said u rows assigned d (Err fault) p = tt
read_said u rows assigned d (Ok m) p = from_said u rows assigned d m m.reference p

-- every event
all_of : (P : Outgoing → Type 0) (os : List Outgoing) → AllByRecursion P os → All P os
all_of P [] h = All-nil P
all_of P (o ∷ os) h = All-cons P o os h.0 (all_of P os h.1)

reply_of : (P : Outgoing → Type 0) (o : Option Outgoing) → OfSaid P o → All P (reply_list o)
reply_of P None h = All-nil P
reply_of P (Some o) h = All-cons P o [] h (All-nil P)

hears_fits : (u : Rules) (rows : List Row) (assigned : List (Option ℕ)) (d : Day) (octets : List ℕ) → AllByRecursion (Placed rows assigned) d.entries → SentFits rows assigned (record { day = (receive_read u d (message_at octets)).day; sent = reply_list (receive_read u d (message_at octets)).reply })
hears_fits u rows assigned d octets p =
    let x = receive_read u d (message_at octets) in
    record { each = reply_of (OutFits rows assigned x.day.moment) x.reply (read_said u rows assigned d (message_at octets) p) }

pub sent_fits : (rows : List Row) (assigned : List (Option ℕ)) (d : Day) (event : Event) → AllByRecursion (Placed rows assigned) d.entries → DayFits d → SentFits rows assigned (happens d event)
sent_fits rows assigned d Tick p h = record { each = all_of _ (tick d).sent (tick_said rows assigned d p h) }
sent_fits rows assigned d (Receive octets) p h =
    hears_fits Three rows assigned d octets p

pub live_sent : (rows : List Row) (assigned : List (Option ℕ)) (d : Day) (event : LiveEvent) → AllByRecursion (Placed rows assigned) d.entries → DayFits d → SentFits rows assigned (live_happens d event)
live_sent rows assigned d (OnLink event) p h = sent_fits rows assigned d event p h
live_sent rows assigned d (HeardByRulesTwo octets) p h = hears_fits Two rows assigned d octets p
live_sent rows assigned d event p h = record { each = All-nil _ }
