-- Row by row of the network side's call table: what a step of a call says, and where it leads.
use Rattle.bx_events.specs.declared.rules.Rules.TheVariants.{Two, Three}
use Rattle.bx_events.specs.declared.rules.Rules.{Rules}
use Rattle.std.proofs.Common.{◌≡◌, ℕ, ◌==◌, ◌%◌, ◌&&◌, ◌||◌, not, Bool, true, false, Option, Some, None, refl, sym, subst, ap, ◌∙◌, if◌then◌else◌, nat_le}
use Rattle.bx_q931.specs.declared.kind.Kind.{Kind}
use Rattle.bx_q931.specs.declared.kind.Kind.TheVariants.{Alerting, CallProceeding, Progress, Setup, Connect, ConnectAcknowledge, Disconnect, Release, ReleaseComplete, Notify, StatusEnquiry, Information, Status, Other}
use Rattle.bx_q931.specs.Outgoing.{Outgoing}
use Rattle.bx_calls.specs.declared.transition.Transition.{Transition}
use Rattle.bx_calls.specs.declared.transition.Next.{Next}
use Rattle.bx_calls.specs.declared.transition.Next.TheVariants.{Live, Over, Broken}
use Rattle.bx_calls.specs.PlainCalls.{PlainNetCall}
use Rattle.bx_calls.specs.declared.net_state.NetOrigin.{NetOrigin}
use Rattle.bx_calls.specs.declared.net_state.NetOrigin.TheVariants.{Outward, Inward}
use Rattle.bx_calls.specs.declared.net_state.Offer.{Offer}
use Rattle.bx_calls.specs.declared.net_state.Offer.TheVariants.{First, Second, Anew, PutOff, Unlinked, Asked}
use Rattle.bx_calls.specs.declared.times.Times.{Times}
use Rattle.bx_calls.specs.declared.times.Times.TheVariants.{NotYet, Once, Twice}
use Rattle.bx_calls.specs.declared.net_state.NetState.{NetState}
use Rattle.bx_calls.specs.declared.net_state.NetState.TheVariants.{OutgoingCallProceeding, CallPresent, IncomingCallProceeding, CallReceived, Active, Enquiring, DisconnectIndication, ReleaseRequest}
use Rattle.bx_calls.specs.Hearing.{Heard, names_channel, reports_null}
use Rattle.bx_calls.specs.States.{state_value, net_state}
use Rattle.bx_calls.specs.NetTable.{has_connected, net_awake_state, net_heard, net_is_unacknowledged, net_offer_due, net_offers, net_put_off, net_release_due, net_row, net_second, net_timer, net_flag, net_is_clearing, net_releases, net_unlinked, net_later, net_rung, is_alerted}
use Rattle.std.proofs.lemmas.Bool.{false≢true, or_left}
use Rattle.bx_day.specs.Moves.{is_active}
use Rattle.bx_day.proofs.Hear.{heard_by}
use Rattle.bx_day.proofs.Said.{OfSaid}
use Rattle.bx_day.proofs.Second.{call_of}
use Rattle.bx_day.proofs.Tick.{by_cases}

-- messages that end a call: DISCONNECT, RELEASE, RELEASE COMPLETE, and STATUS that reports Null
abbrev pub clears_as : Kind → Option ℕ → Bool
clears_as Disconnect state = true
clears_as Release state = true
clears_as ReleaseComplete state = true
clears_as Status state = reports_null state
clears_as _ state = false

-- messages that show that the user has connected: CONNECT, and STATUS that reports U8 or U10
abbrev pub shows_connected : Kind → Option ℕ → Bool
shows_connected Connect state = true
shows_connected Status state = has_connected state
shows_connected _ state = false

abbrev pub is_proceeding : NetState → Bool
is_proceeding OutgoingCallProceeding = true
is_proceeding _ = false

abbrev pub Mild : Outgoing → Type 0
Mild o = clears_as o.kind o.state ≡ false

-- a call whose state was s, at a message of kind k (or a tick)
pub record Goes (r ch : ℕ) (o : NetOrigin) (s : NetState) (k : Bool) (reply : Option Outgoing) (c : PlainNetCall) : Type 0 where
  pub reference : c.reference ≡ r
  pub channel : c.channel ≡ ch
  pub origin : c.origin ≡ o
  pub mild : net_is_clearing c.state ≡ false → (net_is_clearing s ≡ false) × OfSaid Mild reply
  pub active : is_active c.state ≡ true → (is_active s || (k || is_proceeding s)) ≡ true
  pub proceeding : is_proceeding c.state ≡ true → is_proceeding s ≡ true

abbrev pub OnNext : (PlainNetCall → Type 0) → Next PlainNetCall → Type 0
OnNext P (Live c) = P c
OnNext P Over = Unit {0}
OnNext P Broken = Unit {0}

abbrev pub GoesOn : ℕ → ℕ → NetOrigin → NetState → Bool → Transition PlainNetCall → Type 0
GoesOn r ch o s k step = OnNext (Goes r ch o s k step.reply) step.next

-- no live state is Null
pub live_state : (s : NetState) → (state_value (net_state s) % 64 == 0) ≡ false
live_state OutgoingCallProceeding = refl
live_state s = refl

-- the same, with a mild reply
same : (r ch : ℕ) (o : NetOrigin) (s : NetState) (k : Bool) (reply : Option Outgoing) → OfSaid Mild reply → Goes r ch o s k reply (call_of r ch o s)
same r ch o s k reply h = record { reference = refl; channel = refl; origin = refl; mild = λ c. (c, h); active = λ a. or_left (is_active s) (k || is_proceeding s) a; proceeding = λ a. a }

-- to a state of clearing
clearing : (r ch : ℕ) (o : NetOrigin) (s s' : NetState) (k : Bool) (reply : Option Outgoing) → net_is_clearing s' ≡ true → is_active s' ≡ false → is_proceeding s' ≡ false → Goes r ch o s k reply (call_of r ch o s')
clearing r ch o s s' k reply h a b = record { reference = refl; channel = refl; origin = refl; mild = λ c. absurd (false≢true (sym c ∙ h)); active = λ c. absurd (false≢true (sym a ∙ c)); proceeding = λ c. absurd (false≢true (sym b ∙ c)) }

-- to another state of setting up
ringing : (r ch : ℕ) (o : NetOrigin) (s s' : NetState) (k : Bool) (reply : Option Outgoing) → net_is_clearing s ≡ false → is_active s' ≡ false → is_proceeding s' ≡ false → OfSaid Mild reply → Goes r ch o s k reply (call_of r ch o s')
ringing r ch o s s' k reply h a b m = record { reference = refl; channel = refl; origin = refl; mild = λ c. (h, m); active = λ c. absurd (false≢true (sym a ∙ c)); proceeding = λ c. absurd (false≢true (sym b ∙ c)) }

-- Active
talking : (r ch : ℕ) (o : NetOrigin) (s : NetState) (k : Bool) (reply : Option Outgoing) → net_is_clearing s ≡ false → (is_active s || (k || is_proceeding s)) ≡ true → OfSaid Mild reply → Goes r ch o s k reply (call_of r ch o Active)
talking r ch o s k reply h a m = record { reference = refl; channel = refl; origin = refl; mild = λ c. (h, m); active = λ c. a; proceeding = λ c. absurd (false≢true c) }

-- Active still, and asked
asking : (r ch : ℕ) (o : NetOrigin) (s s' : NetState) (k : Bool) (reply : Option Outgoing) → net_is_clearing s ≡ false → is_active s ≡ true → is_proceeding s' ≡ false → OfSaid Mild reply → Goes r ch o s k reply (call_of r ch o s')
asking r ch o s s' k reply h a b m = record { reference = refl; channel = refl; origin = refl; mild = λ c. (h, m); active = λ c. or_left (is_active s) (k || is_proceeding s) a; proceeding = λ c. absurd (false≢true (sym b ∙ c)) }

pub row_goes : (r ch : ℕ) (o : NetOrigin) (t : ℕ) (m : Heard) (s : NetState) (k : Kind) → GoesOn r ch o s (shows_connected k m.state) (net_row (call_of r ch o s) m t s k)
row_goes r ch o t m s ReleaseComplete = tt
row_goes r ch o t m s StatusEnquiry = same r ch o s false _ (live_state s)
row_goes r ch o t m s Status = by_cases (reports_null m.state) _ _ (GoesOn r ch o s (has_connected m.state)) (λ _. tt) (λ _. same r ch o s (has_connected m.state) None tt)
row_goes r ch o t m s Setup = same r ch o s false None tt
row_goes r ch o t m (ReleaseRequest again cause due) Release = tt
row_goes r ch o t m s Release = tt
row_goes r ch o t m (ReleaseRequest again cause due) k = same r ch o (ReleaseRequest again cause due) (shows_connected k m.state) None tt
row_goes r ch o t m s Disconnect = clearing r ch o s _ false _ refl refl refl
row_goes r ch o t m (DisconnectIndication cause due) k = same r ch o (DisconnectIndication cause due) (shows_connected k m.state) None tt
row_goes r ch o t m (CallPresent again due) CallProceeding = by_cases (names_channel m.channel ch) _ _ (GoesOn r ch o (CallPresent again due) false) (λ _. ringing r ch o (CallPresent again due) _ false None refl refl refl tt) (λ _. clearing r ch o (CallPresent again due) _ false _ refl refl refl)
row_goes r ch o t m (CallPresent again due) Alerting = by_cases (names_channel m.channel ch) _ _ (GoesOn r ch o (CallPresent again due) false) (λ _. ringing r ch o (CallPresent again due) _ false None refl refl refl tt) (λ _. clearing r ch o (CallPresent again due) _ false _ refl refl refl)
row_goes r ch o t m (CallPresent again due) Connect = by_cases (names_channel m.channel ch) _ _ (GoesOn r ch o (CallPresent again due) true) (λ _. talking r ch o (CallPresent again due) true _ refl refl refl) (λ _. clearing r ch o (CallPresent again due) _ true _ refl refl refl)
row_goes r ch o t m (IncomingCallProceeding due) Alerting = ringing r ch o (IncomingCallProceeding due) _ false None refl refl refl tt
row_goes r ch o t m (IncomingCallProceeding due) Connect = talking r ch o (IncomingCallProceeding due) true _ refl refl refl
row_goes r ch o t m (CallReceived due) Connect = talking r ch o (CallReceived due) true _ refl refl refl
row_goes r ch (Outward called) t m Active ConnectAcknowledge = same r ch (Outward called) Active false _ refl
row_goes r ch Inward t m Active ConnectAcknowledge = same r ch Inward Active false None tt
row_goes r ch o t m s Progress = same r ch o s false None tt
row_goes r ch o t m s Notify = same r ch o s false None tt
row_goes r ch o t m s Information = same r ch o s false None tt
row_goes r ch o t m s (Other octet) = same r ch o s false _ (live_state s)
row_goes r ch o t m s k = same r ch o s (shows_connected k m.state) _ (live_state s)

-- N6, whose timer is due
offers_goes : (r ch : ℕ) (o : NetOrigin) (t : ℕ) (offer other : Offer) (due : ℕ) → GoesOn r ch o (CallPresent offer due) false (net_offers (call_of r ch o (CallPresent offer due)) other t)
offers_goes r ch (Outward called) t offer other due = ringing r ch (Outward called) (CallPresent offer due) _ false _ refl refl refl refl
offers_goes r ch Inward t offer other due = ringing r ch Inward (CallPresent offer due) _ false _ refl refl refl tt

offer_goes : (r ch : ℕ) (o : NetOrigin) (t : ℕ) (offer : Offer) (due : ℕ) → GoesOn r ch o (CallPresent offer due) false (net_offer_due (call_of r ch o (CallPresent offer due)) t offer)
offer_goes r ch o t First due = offers_goes r ch o t First Second due
offer_goes r ch o t Second due = tt
offer_goes r ch o t Anew due = offers_goes r ch o t Anew Second due
offer_goes r ch o t PutOff due = offers_goes r ch o t PutOff First due
offer_goes r ch o t Unlinked due = ringing r ch o (CallPresent Unlinked due) _ false _ refl refl refl refl
offer_goes r ch o t Asked due = offers_goes r ch o t Asked First due

-- N19, whose timer is due
release_goes : (r ch : ℕ) (o : NetOrigin) (t : ℕ) (sent : Times) (cause : Option ℕ) (due : ℕ) → GoesOn r ch o (ReleaseRequest sent cause due) false (net_release_due (call_of r ch o (ReleaseRequest sent cause due)) t sent cause)
release_goes r ch o t NotYet cause due = clearing r ch o (ReleaseRequest NotYet cause due) _ false _ refl refl refl
release_goes r ch o t Once cause due = clearing r ch o (ReleaseRequest Once cause due) _ false _ refl refl refl
release_goes r ch o t Twice cause due = tt

timer_goes : (r ch : ℕ) (o : NetOrigin) (t : ℕ) (s : NetState) → GoesOn r ch o s false (net_timer (call_of r ch o s) t s)
timer_goes r ch o t OutgoingCallProceeding = talking r ch o OutgoingCallProceeding false _ refl refl refl
timer_goes r ch o t (CallPresent offer due) = by_cases (nat_le due t) _ _ (GoesOn r ch o (CallPresent offer due) false) (λ _. offer_goes r ch o t offer due) (λ _. same r ch o (CallPresent offer due) false None tt)
timer_goes r ch o t (IncomingCallProceeding due) = by_cases (nat_le due t) _ _ (GoesOn r ch o (IncomingCallProceeding due) false) (λ _. clearing r ch o (IncomingCallProceeding due) _ false _ refl refl refl) (λ _. same r ch o (IncomingCallProceeding due) false None tt)
timer_goes r ch o t (CallReceived due) = by_cases (nat_le due t) _ _ (GoesOn r ch o (CallReceived due) false) (λ _. clearing r ch o (CallReceived due) _ false _ refl refl refl) (λ _. same r ch o (CallReceived due) false None tt)
timer_goes r ch o t Active = same r ch o Active false None tt
timer_goes r ch o t (Enquiring NotYet due) = by_cases (nat_le due t) _ _ (GoesOn r ch o (Enquiring NotYet due) false) (λ _. asking r ch o (Enquiring NotYet due) _ false _ refl refl refl refl) (λ _. same r ch o (Enquiring NotYet due) false None tt)
timer_goes r ch o t (Enquiring Once due) = by_cases (nat_le due t) _ _ (GoesOn r ch o (Enquiring Once due) false) (λ _. asking r ch o (Enquiring Once due) _ false _ refl refl refl refl) (λ _. same r ch o (Enquiring Once due) false None tt)
timer_goes r ch o t (Enquiring Twice due) = by_cases (nat_le due t) _ _ (GoesOn r ch o (Enquiring Twice due) false) (λ _. clearing r ch o (Enquiring Twice due) _ false _ refl refl refl) (λ _. same r ch o (Enquiring Twice due) false None tt)
timer_goes r ch o t (DisconnectIndication cause due) = by_cases (nat_le due t) _ _ (GoesOn r ch o (DisconnectIndication cause due) false) (λ _. clearing r ch o (DisconnectIndication cause due) _ false _ refl refl refl) (λ _. same r ch o (DisconnectIndication cause due) false None tt)
timer_goes r ch o t (ReleaseRequest sent cause due) = by_cases (nat_le due t) _ _ (GoesOn r ch o (ReleaseRequest sent cause due) false) (λ _. release_goes r ch o t sent cause due) (λ _. same r ch o (ReleaseRequest sent cause due) false None tt)

pub second_goes : (r ch : ℕ) (o : NetOrigin) (t end : ℕ) (s : NetState) → GoesOn r ch o s false (net_second (call_of r ch o s) t end)
second_goes r ch o t end s = by_cases (not (net_is_clearing s) && nat_le end t) _ _ (GoesOn r ch o s false) (λ _. clearing r ch o s _ false _ refl refl refl) (λ _. timer_goes r ch o t s)

-- in a second without a link
still_goes : (rules : Rules) (r ch t : ℕ) (o : NetOrigin) (s : NetState) → Goes r ch o s false None (call_of r ch o (net_later rules 1 t s))
still_goes rules r ch t o OutgoingCallProceeding = same r ch o OutgoingCallProceeding false None tt
still_goes rules r ch t o (CallPresent again due) = ringing r ch o (CallPresent again due) _ false None refl refl refl tt
still_goes Two r ch t o (IncomingCallProceeding due) = ringing r ch o (IncomingCallProceeding due) _ false None refl refl refl tt
still_goes Three r ch t o (IncomingCallProceeding due) = ringing r ch o (IncomingCallProceeding due) _ false None refl refl refl tt
still_goes Two r ch t o (CallReceived due) = ringing r ch o (CallReceived due) _ false None refl refl refl tt
still_goes Three r ch t o (CallReceived due) = ringing r ch o (CallReceived due) _ false None refl refl refl tt
still_goes rules r ch t o Active = asking r ch o Active _ false None refl refl refl tt
still_goes rules r ch t o (Enquiring asked due) = asking r ch o (Enquiring asked due) _ false None refl refl refl tt
still_goes rules r ch t o (DisconnectIndication cause due) = clearing r ch o (DisconnectIndication cause due) _ false None refl refl refl
still_goes rules r ch t o (ReleaseRequest again cause due) = clearing r ch o (ReleaseRequest again cause due) _ false None refl refl refl

pub unlinked_goes : (rules : Rules) (r ch : ℕ) (o : NetOrigin) (t end : ℕ) (s : NetState) → GoesOn r ch o s false (net_unlinked rules 1 (call_of r ch o s) t end)
unlinked_goes rules r ch o t end s = by_cases (not (net_is_clearing s) && nat_le end t) _ _ (GoesOn r ch o s false) (λ _. clearing r ch o s _ false None refl refl refl) (λ _. still_goes rules r ch t o s)

-- a message, where the user may be asked
asked_goes : (r ch : ℕ) (o : NetOrigin) (asked : Times) (due : ℕ) (k : Bool) (reply : Option Outgoing) (n : Next PlainNetCall) → OnNext (Goes r ch o Active k reply) n → OnNext (Goes r ch o (Enquiring asked due) k reply) n
asked_goes r ch o asked due k reply (Live c) g = record { reference = g.reference; channel = g.channel; origin = g.origin; mild = g.mild; active = g.active; proceeding = g.proceeding }
asked_goes r ch o asked due k reply Over g = tt
asked_goes r ch o asked due k reply Broken g = tt

awake_goes : (r ch : ℕ) (o : NetOrigin) (s : NetState) (k : Bool) (reply : Option Outgoing) (n : Next PlainNetCall) → OnNext (Goes r ch o (net_awake_state s) k reply) n → OnNext (Goes r ch o s k reply) n
awake_goes r ch o (Enquiring asked due) k reply n g = asked_goes r ch o asked due k reply n g
awake_goes r ch o s k reply n g = g

-- the user was asked in N6, and reports that it has connected
shown : (due : ℕ) (o : NetOrigin) (m : Heard) (k : Kind) → net_is_unacknowledged (CallPresent Asked due) o m k ≡ true → shows_connected k m.state ≡ true
shown due o m Status q = q
shown due o m k q = absurd (false≢true q)

-- SETUP is put off
put_off_goes : (r ch : ℕ) (o : NetOrigin) (t : ℕ) (offer : Offer) (due : ℕ) (s : NetState) (k : Bool) → net_is_clearing s ≡ false → Goes r ch o s k None (call_of r ch o (net_put_off t (CallPresent offer due)))
put_off_goes r ch o t PutOff due s k h = ringing r ch o s _ k None h refl refl tt
put_off_goes r ch o t offer due s k h = ringing r ch o s _ k None h refl refl tt

-- it rings
rung_goes : (r ch : ℕ) (o : NetOrigin) (t : ℕ) (reported : Option ℕ) (s : NetState) (k : Bool) → net_is_clearing s ≡ false → Goes r ch o s k None (call_of r ch o (net_rung t reported))
rung_goes r ch o t reported s k h = by_cases (is_alerted reported) _ _ (λ (x : NetState). Goes r ch o s k None (call_of r ch o x)) (λ _. ringing r ch o s _ k None h refl refl tt) (λ _. ringing r ch o s _ k None h refl refl tt)

pub heard_goes : (r ch : ℕ) (o : NetOrigin) (t : ℕ) (m : Heard) (s : NetState) (k : Kind) → GoesOn r ch o s (shows_connected k m.state) (net_heard (call_of r ch o s) m t s k)
heard_goes r ch o t m s k =
    let shows = shows_connected k m.state in
    let row : Transition PlainNetCall = net_row (call_of r ch o (net_awake_state s)) m t (net_awake_state s) k in
    heard_by (GoesOn r ch o s shows) (call_of r ch o s) m t s k
    (record {
      contradicted = λ asked due is q. clearing r ch o s _ shows _ refl refl refl;
      unacknowledged = λ asked due is q. talking r ch o s shows _ (ap net_is_clearing is) (ap (λ x. is_active x || (shows || is_proceeding x)) is) refl;
      connected = λ due is q. talking r ch o s shows _ (ap net_is_clearing is) (ap (λ x. is_active x || (shows || is_proceeding x)) is ∙ ap (λ b. b || false) (shown due o m k (subst (λ x. net_is_unacknowledged x o m k ≡ true) is q))) refl;
      put_off = λ offer due is q. put_off_goes r ch o t offer due s shows (ap net_is_clearing is);
      unconnected = λ asked due is q. talking r ch o s shows _ (ap net_is_clearing is) (ap (λ x. is_active x || (shows || is_proceeding x)) is) refl;
      ringing = λ due is q. rung_goes r ch o t m.state s shows (ap net_is_clearing is);
    })
    (awake_goes r ch o s shows row.reply row.next (row_goes r ch o t m (net_awake_state s) k))

-- what is said is of the call
abbrev pub OfCall : ℕ → NetOrigin → Outgoing → Type 0
OfCall r o out = (out.reference ≡ r) × (out.flag ≡ net_flag o)

test_said : (P : Outgoing → Type 0) (b : Bool) (x y : Transition PlainNetCall) → OfSaid P x.reply → OfSaid P y.reply → OfSaid P (if b then x else y).reply
test_said P true x y f g = f
test_said P false x y f g = g

pub row_says : (r ch : ℕ) (o : NetOrigin) (t : ℕ) (m : Heard) (s : NetState) (k : Kind) → OfSaid (OfCall r o) (net_row (call_of r ch o s) m t s k).reply
row_says r ch o t m s ReleaseComplete = tt
row_says r ch o t m s StatusEnquiry = (refl, refl)
row_says r ch o t m s Status = test_said (OfCall r o) (reports_null m.state) _ _ tt tt
row_says r ch o t m s Setup = tt
row_says r ch o t m (ReleaseRequest again cause due) Release = tt
row_says r ch o t m s Release = (refl, refl)
row_says r ch o t m (ReleaseRequest again cause due) k = tt
row_says r ch o t m s Disconnect = (refl, refl)
row_says r ch o t m (DisconnectIndication cause due) k = tt
row_says r ch o t m (CallPresent again due) CallProceeding = test_said (OfCall r o) (names_channel m.channel ch) _ _ tt (refl, refl)
row_says r ch o t m (CallPresent again due) Alerting = test_said (OfCall r o) (names_channel m.channel ch) _ _ tt (refl, refl)
row_says r ch o t m (CallPresent again due) Connect = test_said (OfCall r o) (names_channel m.channel ch) _ _ (refl, refl) (refl, refl)
row_says r ch o t m (IncomingCallProceeding due) Alerting = tt
row_says r ch o t m (IncomingCallProceeding due) Connect = (refl, refl)
row_says r ch o t m (CallReceived due) Connect = (refl, refl)
row_says r ch (Outward called) t m Active ConnectAcknowledge = (refl, refl)
row_says r ch Inward t m Active ConnectAcknowledge = tt
row_says r ch o t m s Progress = tt
row_says r ch o t m s Notify = tt
row_says r ch o t m s Information = tt
row_says r ch o t m s (Other octet) = (refl, refl)
row_says r ch o t m s k = (refl, refl)

pub heard_says : (r ch : ℕ) (o : NetOrigin) (t : ℕ) (m : Heard) (s : NetState) (k : Kind) → OfSaid (OfCall r o) (net_heard (call_of r ch o s) m t s k).reply
heard_says r ch o t m s k = heard_by (λ (x : Transition PlainNetCall). OfSaid (OfCall r o) x.reply) (call_of r ch o s) m t s k
    (record { contradicted = λ asked due is q. (refl, refl); unacknowledged = λ asked due is q. (refl, refl); connected = λ due is q. (refl, refl); put_off = λ offer due is q. tt; unconnected = λ asked due is q. (refl, refl); ringing = λ due is q. tt })
    (row_says r ch o t m (net_awake_state s) k)

-- at a tick; a SETUP that goes again names the channel
pub record Speaks (r ch : ℕ) (o : NetOrigin) (out : Outgoing) : Type 0 where
  pub reference : out.reference ≡ r
  pub flag : out.flag ≡ net_flag o
  pub setup : out.kind ≡ Setup → out.channel ≡ Some (ch, true)

abbrev is_setup_kind : Kind → Bool
is_setup_kind Setup = true
is_setup_kind _ = false

other : (r ch : ℕ) (o : NetOrigin) (out : Outgoing) → out.reference ≡ r → out.flag ≡ net_flag o → is_setup_kind out.kind ≡ false → Speaks r ch o out
other r ch o out a b c = record { reference = a; flag = b; setup = λ q. absurd (false≢true (sym c ∙ ap is_setup_kind q)) }

again_speaks : (r ch : ℕ) (o : NetOrigin) (t : ℕ) (s : NetState) (b : Times) (cause : Option ℕ) → OfSaid (Speaks r ch o) (net_releases (call_of r ch o s) b cause t).reply
again_speaks r ch o t s b None = other r ch o _ refl refl refl
again_speaks r ch o t s b (Some cause) = other r ch o _ refl refl refl

offers_speaks : (r ch : ℕ) (o : NetOrigin) (t : ℕ) (offer other : Offer) (due : ℕ) → OfSaid (Speaks r ch o) (net_offers (call_of r ch o (CallPresent offer due)) other t).reply
offers_speaks r ch (Outward called) t offer other due = record { reference = refl; flag = refl; setup = λ q. refl }
offers_speaks r ch Inward t offer other due = tt

offer_speaks : (r ch : ℕ) (o : NetOrigin) (t : ℕ) (offer : Offer) (due : ℕ) → OfSaid (Speaks r ch o) (net_offer_due (call_of r ch o (CallPresent offer due)) t offer).reply
offer_speaks r ch o t First due = offers_speaks r ch o t First Second due
offer_speaks r ch o t Second due = other r ch o _ refl refl refl
offer_speaks r ch o t Anew due = offers_speaks r ch o t Anew Second due
offer_speaks r ch o t PutOff due = offers_speaks r ch o t PutOff First due
offer_speaks r ch o t Unlinked due = other r ch o _ refl refl refl
offer_speaks r ch o t Asked due = offers_speaks r ch o t Asked First due

release_speaks : (r ch : ℕ) (o : NetOrigin) (t : ℕ) (sent : Times) (cause : Option ℕ) (due : ℕ) → OfSaid (Speaks r ch o) (net_release_due (call_of r ch o (ReleaseRequest sent cause due)) t sent cause).reply
release_speaks r ch o t NotYet cause due = again_speaks r ch o t (ReleaseRequest NotYet cause due) Once cause
release_speaks r ch o t Once cause due = again_speaks r ch o t (ReleaseRequest Once cause due) Twice cause
release_speaks r ch o t Twice cause due = tt

timer_speaks : (r ch : ℕ) (o : NetOrigin) (t : ℕ) (s : NetState) → OfSaid (Speaks r ch o) (net_timer (call_of r ch o s) t s).reply
timer_speaks r ch o t OutgoingCallProceeding = other r ch o _ refl refl refl
timer_speaks r ch o t (CallPresent offer due) = test_said (Speaks r ch o) (nat_le due t) _ _ (offer_speaks r ch o t offer due) tt
timer_speaks r ch o t (IncomingCallProceeding due) = test_said (Speaks r ch o) (nat_le due t) _ _ (other r ch o _ refl refl refl) tt
timer_speaks r ch o t (CallReceived due) = test_said (Speaks r ch o) (nat_le due t) _ _ (other r ch o _ refl refl refl) tt
timer_speaks r ch o t Active = tt
timer_speaks r ch o t (Enquiring NotYet due) = test_said (Speaks r ch o) (nat_le due t) _ _ (other r ch o _ refl refl refl) tt
timer_speaks r ch o t (Enquiring Once due) = test_said (Speaks r ch o) (nat_le due t) _ _ (other r ch o _ refl refl refl) tt
timer_speaks r ch o t (Enquiring Twice due) = test_said (Speaks r ch o) (nat_le due t) _ _ (other r ch o _ refl refl refl) tt
timer_speaks r ch o t (DisconnectIndication cause due) = test_said (Speaks r ch o) (nat_le due t) _ _ (other r ch o _ refl refl refl) tt
timer_speaks r ch o t (ReleaseRequest sent cause due) = test_said (Speaks r ch o) (nat_le due t) _ _ (release_speaks r ch o t sent cause due) tt

pub second_speaks : (r ch : ℕ) (o : NetOrigin) (t end : ℕ) (s : NetState) → OfSaid (Speaks r ch o) (net_second (call_of r ch o s) t end).reply
second_speaks r ch o t end s = test_said (Speaks r ch o) (not (net_is_clearing s) && nat_le end t) _ _ (other r ch o _ refl refl refl) (timer_speaks r ch o t s)

-- in a second without a link nothing is
pub unlinked_says : (rules : Rules) (P : Outgoing → Type 0) (c : PlainNetCall) (t end : ℕ) → OfSaid P (net_unlinked rules 1 c t end).reply
unlinked_says rules P c t end = test_said P (not (net_is_clearing c.state) && nat_le end t) _ _ tt tt
