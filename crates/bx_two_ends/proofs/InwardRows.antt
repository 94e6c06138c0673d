-- Row by row of both call tables, for calls that the far end began: what a step of a call says, and where it leads.
use Rattle.bx_events.specs.declared.rules.Rules.{Rules}
use Rattle.std.proofs.Common.{◌≡◌, ℕ, ◌==◌, ◌%◌, ◌&&◌, ◌||◌, not, Bool, true, false, List, Option, Some, None, refl, sym, ap, ◌∙◌, nat_le}
use Rattle.std.proofs.lemmas.Bool.{false≢true, or_left}
use Rattle.bx_q931.specs.declared.kind.Kind.{Kind}
use Rattle.bx_q931.specs.declared.kind.Kind.TheVariants.{Alerting, CallProceeding, Progress, Setup, Connect, ConnectAcknowledge, Disconnect, Release, ReleaseComplete, Notify, StatusEnquiry, Information, Status, Other}
use Rattle.bx_q931.specs.Outgoing.{Outgoing}
use Rattle.bx_calls.specs.declared.transition.Transition.{Transition}
use Rattle.bx_calls.specs.declared.transition.Next.{Next}
use Rattle.bx_calls.specs.declared.transition.Next.TheVariants.{Live, Over, Broken}
use Rattle.bx_calls.specs.PlainCalls.{PlainNetCall, PlainUserCall}
use Rattle.bx_calls.specs.declared.net_state.NetOrigin.{NetOrigin}
use Rattle.bx_calls.specs.declared.net_state.NetOrigin.TheVariants.{Outward, Inward}
use Rattle.bx_calls.specs.declared.net_state.Offer.{Offer}
use Rattle.bx_calls.specs.declared.net_state.Offer.TheVariants.{Second}
use Rattle.bx_calls.specs.declared.times.Times.{Times}
use Rattle.bx_calls.specs.declared.times.Times.TheVariants.{NotYet, Once, Twice}
use Rattle.bx_calls.specs.declared.net_state.NetState.{NetState}
use Rattle.bx_calls.specs.declared.net_state.NetState.TheVariants as net
use Rattle.bx_calls.specs.declared.user_state.UserOrigin.{UserOrigin}
use Rattle.bx_calls.specs.declared.user_state.UserOrigin.TheVariants.{Calling}
use Rattle.bx_calls.specs.declared.user_state.UserState.{UserState}
use Rattle.bx_calls.specs.declared.user_state.UserState.TheVariants as user
use Rattle.bx_calls.specs.Hearing.{Heard, names_channel, reports_null}
use Rattle.bx_calls.specs.States.{state_value, user_state}
use Rattle.bx_calls.specs.NetTable.{net_awake_state, net_heard, net_offer_due, net_put_off, net_row, net_second, net_timer, net_is_clearing, net_unlinked, net_later, net_rung}
use Rattle.bx_calls.specs.UserTable.{user_row, user_second, user_flag, user_releases}
use Rattle.bx_day.proofs.Hear.{heard_by}
use Rattle.bx_day.proofs.Said.{OfSaid}
use Rattle.bx_day.proofs.Second.{call_of}
use Rattle.bx_day.proofs.Tick.{by_cases}
use Rattle.bx_two_ends.proofs.NetworkRows.{clears_as, Mild}
use Rattle.bx_two_ends.proofs.UserRows.{user_call_of, is_talking}
use Rattle.bx_two_ends.proofs.History.{is_setup_kind}
use Rattle.bx_two_ends.specs.TwoEndsInward.{is_connect_kind}

-- ---- a call of the exchange

-- N6, N9 and N7, which only a call that the exchange began comes to
abbrev pub is_presented : NetState → Bool
is_presented (net.CallPresent again due) = true
is_presented (net.IncomingCallProceeding due) = true
is_presented (net.CallReceived due) = true
is_presented _ = false

pub record NetGoes (r ch : ℕ) (o : NetOrigin) (s : NetState) (c : PlainNetCall) : Type 0 where
  pub reference : c.reference ≡ r
  pub channel : c.channel ≡ ch
  pub origin : c.origin ≡ o
  pub presented : is_presented c.state ≡ true → is_presented s ≡ true

-- cleared says whether what came ends a call; ticks whether it was a tick
abbrev pub NetMoves : ℕ → ℕ → NetOrigin → NetState → Bool → Bool → Next PlainNetCall → Type 0
NetMoves r ch o s cleared ticks (Live c) = NetGoes r ch o s c
NetMoves r ch o s cleared ticks Over = (cleared || is_presented s) ≡ true
NetMoves r ch o s cleared ticks Broken = ticks ≡ true

abbrev NetMovesBy : ℕ → ℕ → NetOrigin → NetState → Bool → Bool → Transition PlainNetCall → Type 0
NetMovesBy r ch o s cleared ticks step = NetMoves r ch o s cleared ticks step.next

stays : (r ch : ℕ) (o : NetOrigin) (s : NetState) → NetGoes r ch o s (call_of r ch o s)
stays r ch o s = record { reference = refl; channel = refl; origin = refl; presented = λ h. h }

leads : (r ch : ℕ) (o : NetOrigin) (s s' : NetState) → is_presented s' ≡ false → NetGoes r ch o s (call_of r ch o s')
leads r ch o s s' h = record { reference = refl; channel = refl; origin = refl; presented = λ q. absurd (false≢true (sym h ∙ q)) }

-- a call that the exchange began
own : (r ch : ℕ) (o : NetOrigin) (s s' : NetState) → is_presented s ≡ true → NetGoes r ch o s (call_of r ch o s')
own r ch o s s' h = record { reference = refl; channel = refl; origin = refl; presented = λ _. h }

abbrev NetRowMoves : ℕ → ℕ → NetOrigin → NetState → Heard → Kind → Transition PlainNetCall → Type 0
NetRowMoves r ch o s m k step = NetMovesBy r ch o s (clears_as k m.state) false step

pub net_row_moves : (r ch : ℕ) (o : NetOrigin) (t : ℕ) (m : Heard) (s : NetState) (k : Kind) → NetRowMoves r ch o s m k (net_row (call_of r ch o s) m t s k)
net_row_moves r ch o t m s ReleaseComplete = refl
net_row_moves r ch o t m s StatusEnquiry = stays r ch o s
net_row_moves r ch o t m s Status = by_cases (reports_null m.state) _ _ (NetRowMoves r ch o s m Status) (λ q. or_left (reports_null m.state) (is_presented s) q) (λ _. stays r ch o s)
net_row_moves r ch o t m s Setup = stays r ch o s
net_row_moves r ch o t m (net.ReleaseRequest again cause due) Release = refl
net_row_moves r ch o t m s Release = refl
net_row_moves r ch o t m (net.ReleaseRequest again cause due) k = stays r ch o (net.ReleaseRequest again cause due)
net_row_moves r ch o t m s Disconnect = leads r ch o s _ refl
net_row_moves r ch o t m (net.DisconnectIndication cause due) k = stays r ch o (net.DisconnectIndication cause due)
net_row_moves r ch o t m (net.CallPresent again due) CallProceeding = by_cases (names_channel m.channel ch) _ _ (NetRowMoves r ch o (net.CallPresent again due) m CallProceeding) (λ _. own r ch o (net.CallPresent again due) _ refl) (λ _. leads r ch o (net.CallPresent again due) _ refl)
net_row_moves r ch o t m (net.CallPresent again due) Alerting = by_cases (names_channel m.channel ch) _ _ (NetRowMoves r ch o (net.CallPresent again due) m Alerting) (λ _. own r ch o (net.CallPresent again due) _ refl) (λ _. leads r ch o (net.CallPresent again due) _ refl)
net_row_moves r ch o t m (net.CallPresent again due) Connect = by_cases (names_channel m.channel ch) _ _ (NetRowMoves r ch o (net.CallPresent again due) m Connect) (λ _. leads r ch o (net.CallPresent again due) _ refl) (λ _. leads r ch o (net.CallPresent again due) _ refl)
net_row_moves r ch o t m (net.IncomingCallProceeding due) Alerting = own r ch o (net.IncomingCallProceeding due) _ refl
net_row_moves r ch o t m (net.IncomingCallProceeding due) Connect = leads r ch o (net.IncomingCallProceeding due) _ refl
net_row_moves r ch o t m (net.CallReceived due) Connect = leads r ch o (net.CallReceived due) _ refl
net_row_moves r ch (Outward called) t m net.Active ConnectAcknowledge = stays r ch (Outward called) net.Active
net_row_moves r ch Inward t m net.Active ConnectAcknowledge = stays r ch Inward net.Active
net_row_moves r ch o t m s k = stays r ch o s

abbrev NetTickMoves : ℕ → ℕ → NetOrigin → NetState → Transition PlainNetCall → Type 0
NetTickMoves r ch o s step = NetMovesBy r ch o s false true step

-- N6, whose timer is due
offer_moves : (r ch : ℕ) (o : NetOrigin) (t : ℕ) (offer : Offer) (due : ℕ) → NetTickMoves r ch o (net.CallPresent offer due) (net_offer_due (call_of r ch o (net.CallPresent offer due)) t offer)
offer_moves r ch o t Second due = refl
offer_moves r ch o t offer due = record { reference = refl; channel = refl; origin = refl; presented = λ h. refl }

timer_moves : (r ch : ℕ) (o : NetOrigin) (t : ℕ) (s : NetState) → NetTickMoves r ch o s (net_timer (call_of r ch o s) t s)
timer_moves r ch o t net.OutgoingCallProceeding = leads r ch o net.OutgoingCallProceeding _ refl
timer_moves r ch o t (net.CallPresent offer due) = by_cases (nat_le due t) _ _ (NetTickMoves r ch o (net.CallPresent offer due)) (λ _. offer_moves r ch o t offer due) (λ _. stays r ch o (net.CallPresent offer due))
timer_moves r ch o t (net.IncomingCallProceeding due) = by_cases (nat_le due t) _ _ (NetTickMoves r ch o (net.IncomingCallProceeding due)) (λ _. leads r ch o (net.IncomingCallProceeding due) _ refl) (λ _. stays r ch o (net.IncomingCallProceeding due))
timer_moves r ch o t (net.CallReceived due) = by_cases (nat_le due t) _ _ (NetTickMoves r ch o (net.CallReceived due)) (λ _. leads r ch o (net.CallReceived due) _ refl) (λ _. stays r ch o (net.CallReceived due))
timer_moves r ch o t net.Active = stays r ch o net.Active
timer_moves r ch o t (net.Enquiring NotYet due) = by_cases (nat_le due t) _ _ (NetTickMoves r ch o (net.Enquiring NotYet due)) (λ _. leads r ch o (net.Enquiring NotYet due) _ refl) (λ _. stays r ch o (net.Enquiring NotYet due))
timer_moves r ch o t (net.Enquiring Once due) = by_cases (nat_le due t) _ _ (NetTickMoves r ch o (net.Enquiring Once due)) (λ _. leads r ch o (net.Enquiring Once due) _ refl) (λ _. stays r ch o (net.Enquiring Once due))
timer_moves r ch o t (net.Enquiring Twice due) = by_cases (nat_le due t) _ _ (NetTickMoves r ch o (net.Enquiring Twice due)) (λ _. leads r ch o (net.Enquiring Twice due) _ refl) (λ _. stays r ch o (net.Enquiring Twice due))
timer_moves r ch o t (net.DisconnectIndication cause due) = by_cases (nat_le due t) _ _ (NetTickMoves r ch o (net.DisconnectIndication cause due)) (λ _. leads r ch o (net.DisconnectIndication cause due) _ refl) (λ _. stays r ch o (net.DisconnectIndication cause due))
timer_moves r ch o t (net.ReleaseRequest Twice cause due) = by_cases (nat_le due t) _ _ (NetTickMoves r ch o (net.ReleaseRequest Twice cause due)) (λ _. refl) (λ _. stays r ch o (net.ReleaseRequest Twice cause due))
timer_moves r ch o t (net.ReleaseRequest NotYet cause due) = by_cases (nat_le due t) _ _ (NetTickMoves r ch o (net.ReleaseRequest NotYet cause due)) (λ _. leads r ch o (net.ReleaseRequest NotYet cause due) _ refl) (λ _. stays r ch o (net.ReleaseRequest NotYet cause due))
timer_moves r ch o t (net.ReleaseRequest Once cause due) = by_cases (nat_le due t) _ _ (NetTickMoves r ch o (net.ReleaseRequest Once cause due)) (λ _. leads r ch o (net.ReleaseRequest Once cause due) _ refl) (λ _. stays r ch o (net.ReleaseRequest Once cause due))

pub net_second_moves : (r ch : ℕ) (o : NetOrigin) (t end : ℕ) (s : NetState) → NetTickMoves r ch o s (net_second (call_of r ch o s) t end)
net_second_moves r ch o t end s = by_cases (not (net_is_clearing s) && nat_le end t) _ _ (NetTickMoves r ch o s) (λ _. leads r ch o s _ refl) (λ _. timer_moves r ch o t s)

-- in a second without a link
still_moves : (rules : Rules) (r ch t : ℕ) (o : NetOrigin) (s : NetState) → NetGoes r ch o s (call_of r ch o (net_later rules 1 t s))
still_moves rules r ch t o net.OutgoingCallProceeding = stays r ch o net.OutgoingCallProceeding
still_moves rules r ch t o (net.CallPresent again due) = record { reference = refl; channel = refl; origin = refl; presented = λ h. refl }
still_moves rules r ch t o (net.IncomingCallProceeding due) = own r ch o (net.IncomingCallProceeding due) _ refl
still_moves rules r ch t o (net.CallReceived due) = own r ch o (net.CallReceived due) _ refl
still_moves rules r ch t o net.Active = leads r ch o net.Active _ refl
still_moves rules r ch t o (net.Enquiring asked due) = leads r ch o (net.Enquiring asked due) _ refl
still_moves rules r ch t o (net.DisconnectIndication cause due) = leads r ch o (net.DisconnectIndication cause due) _ refl
still_moves rules r ch t o (net.ReleaseRequest again cause due) = leads r ch o (net.ReleaseRequest again cause due) _ refl

pub net_unlinked_moves : (rules : Rules) (r ch : ℕ) (o : NetOrigin) (t end : ℕ) (s : NetState) → NetTickMoves r ch o s (net_unlinked rules 1 (call_of r ch o s) t end)
net_unlinked_moves rules r ch o t end s = by_cases (not (net_is_clearing s) && nat_le end t) _ _ (NetTickMoves r ch o s) (λ _. leads r ch o s _ refl) (λ _. still_moves rules r ch t o s)

-- a message, where the user may be asked
asked_moves : (r ch : ℕ) (o : NetOrigin) (asked : Times) (due : ℕ) (cleared : Bool) (n : Next PlainNetCall) → NetMoves r ch o net.Active cleared false n → NetMoves r ch o (net.Enquiring asked due) cleared false n
asked_moves r ch o asked due cleared (Live c) g = record { reference = g.reference; channel = g.channel; origin = g.origin; presented = g.presented }
asked_moves r ch o asked due cleared Over g = g
asked_moves r ch o asked due cleared Broken g = g

awake_moves : (r ch : ℕ) (o : NetOrigin) (s : NetState) (cleared : Bool) (n : Next PlainNetCall) → NetMoves r ch o (net_awake_state s) cleared false n → NetMoves r ch o s cleared false n
awake_moves r ch o (net.Enquiring asked due) cleared n g = asked_moves r ch o asked due cleared n g
awake_moves r ch o s cleared n g = g

-- SETUP is put off
put_off_moves : (r ch : ℕ) (o : NetOrigin) (t : ℕ) (offer : Offer) (due : ℕ) (s : NetState) → is_presented s ≡ true → NetGoes r ch o s (call_of r ch o (net_put_off t (net.CallPresent offer due)))
put_off_moves r ch o t offer due s h = record { reference = refl; channel = refl; origin = refl; presented = λ _. h }

-- it rings
rung_moves : (r ch : ℕ) (o : NetOrigin) (t : ℕ) (reported : Option ℕ) (s : NetState) → is_presented s ≡ true → NetGoes r ch o s (call_of r ch o (net_rung t reported))
rung_moves r ch o t reported s h = own r ch o s _ h

pub net_heard_moves : (r ch : ℕ) (o : NetOrigin) (t : ℕ) (m : Heard) (s : NetState) (k : Kind) → NetRowMoves r ch o s m k (net_heard (call_of r ch o s) m t s k)
net_heard_moves r ch o t m s k = heard_by (NetRowMoves r ch o s m k) (call_of r ch o s) m t s k
    (record {
      contradicted = λ asked due is q. leads r ch o s _ refl;
      unacknowledged = λ asked due is q. leads r ch o s _ refl;
      connected = λ due is q. leads r ch o s _ refl;
      put_off = λ offer due is q. put_off_moves r ch o t offer due s (ap is_presented is);
      unconnected = λ asked due is q. leads r ch o s _ refl;
      ringing = λ due is q. rung_moves r ch o t m.state s (ap is_presented is);
    })
    (awake_moves r ch o s (clears_as k m.state) (net_row (call_of r ch o (net_awake_state s)) m t (net_awake_state s) k).next (net_row_moves r ch o t m (net_awake_state s) k))

-- ---- a call of the far end

-- the call is being cleared
abbrev pub is_user_clearing : UserState → Bool
is_user_clearing (user.DisconnectRequest cause due) = true
is_user_clearing (user.ReleaseRequest again cause due) = true
is_user_clearing _ = false

-- U8, which only a call that the exchange began comes to
abbrev pub is_answering : UserState → Bool
is_answering (user.ConnectRequest due) = true
is_answering _ = false

-- connected says whether CONNECT came
pub record OwnGoes (r ch : ℕ) (o : UserOrigin) (s : UserState) (connected : Bool) (reply : Option Outgoing) (c : PlainUserCall) : Type 0 where
  pub reference : c.reference ≡ r
  pub channel : c.channel ≡ ch
  pub origin : c.origin ≡ o
  pub mild : is_user_clearing c.state ≡ false → (is_user_clearing s ≡ false) × OfSaid Mild reply
  pub active : is_talking c.state ≡ true → (is_talking s || (connected || is_answering s)) ≡ true
  pub answering : is_answering c.state ≡ true → is_answering s ≡ true

abbrev pub OwnMoves : ℕ → ℕ → UserOrigin → UserState → Bool → Option Outgoing → Next PlainUserCall → Type 0
OwnMoves r ch o s connected reply (Live c) = OwnGoes r ch o s connected reply c
OwnMoves r ch o s connected reply Over = Unit {0}
OwnMoves r ch o s connected reply Broken = Unit {0}

abbrev pub OwnMovesBy : ℕ → ℕ → UserOrigin → UserState → Bool → Transition PlainUserCall → Type 0
OwnMovesBy r ch o s connected step = OwnMoves r ch o s connected step.reply step.next

live_user : (s : UserState) → (state_value (user_state s) % 64 == 0) ≡ false
live_user (user.CallInitiated again due) = refl
live_user s = refl

same : (r ch : ℕ) (o : UserOrigin) (s : UserState) (connected : Bool) (reply : Option Outgoing) → OfSaid Mild reply → OwnGoes r ch o s connected reply (user_call_of r ch o s)
same r ch o s connected reply h = record { reference = refl; channel = refl; origin = refl; mild = λ c. (c, h); active = λ a. or_left (is_talking s) (connected || is_answering s) a; answering = λ a. a }

-- to a state of clearing
clearing : (r ch : ℕ) (o : UserOrigin) (s s' : UserState) (connected : Bool) (reply : Option Outgoing) → is_user_clearing s' ≡ true → is_talking s' ≡ false → is_answering s' ≡ false → OwnGoes r ch o s connected reply (user_call_of r ch o s')
clearing r ch o s s' connected reply h a b = record { reference = refl; channel = refl; origin = refl; mild = λ c. absurd (false≢true (sym c ∙ h)); active = λ c. absurd (false≢true (sym a ∙ c)); answering = λ c. absurd (false≢true (sym b ∙ c)) }

-- to another state of setting up
ringing : (r ch : ℕ) (o : UserOrigin) (s s' : UserState) (connected : Bool) (reply : Option Outgoing) → is_user_clearing s ≡ false → is_talking s' ≡ false → is_answering s' ≡ false → OfSaid Mild reply → OwnGoes r ch o s connected reply (user_call_of r ch o s')
ringing r ch o s s' connected reply h a b m = record { reference = refl; channel = refl; origin = refl; mild = λ c. (h, m); active = λ c. absurd (false≢true (sym a ∙ c)); answering = λ c. absurd (false≢true (sym b ∙ c)) }

-- Active
talking : (r ch : ℕ) (o : UserOrigin) (s : UserState) (connected : Bool) (t : ℕ) → is_user_clearing s ≡ false → (is_talking s || (connected || is_answering s)) ≡ true → OwnGoes r ch o s connected None (user_call_of r ch o (user.Active t))
talking r ch o s connected t h a = record { reference = refl; channel = refl; origin = refl; mild = λ c. (h, tt); active = λ c. a; answering = λ c. absurd (false≢true c) }

pub own_row : (r ch : ℕ) (o : UserOrigin) (t : ℕ) (m : Heard) (s : UserState) (k : Kind) → OwnMovesBy r ch o s (is_connect_kind k) (user_row (user_call_of r ch o s) m t s k)
own_row r ch o t m s ReleaseComplete = tt
own_row r ch o t m s StatusEnquiry = same r ch o s false _ (live_user s)
own_row r ch o t m s Status = by_cases (reports_null m.state) _ _ (OwnMovesBy r ch o s false) (λ _. tt) (λ _. same r ch o s false None tt)
own_row r ch o t m s Setup = same r ch o s false None tt
own_row r ch o t m (user.ReleaseRequest again cause due) Release = tt
own_row r ch o t m s Release = tt
own_row r ch o t m (user.ReleaseRequest again cause due) k = same r ch o (user.ReleaseRequest again cause due) (is_connect_kind k) None tt
own_row r ch o t m s Disconnect = clearing r ch o s _ false _ refl refl refl
own_row r ch o t m (user.DisconnectRequest cause due) k = same r ch o (user.DisconnectRequest cause due) (is_connect_kind k) None tt
own_row r ch o t m (user.ConnectRequest due) ConnectAcknowledge = talking r ch o (user.ConnectRequest due) false t refl refl
own_row r ch o t m (user.CallInitiated again due) CallProceeding = by_cases (names_channel m.channel ch) _ _ (OwnMovesBy r ch o (user.CallInitiated again due) false) (λ _. ringing r ch o (user.CallInitiated again due) _ false None refl refl refl tt) (λ _. clearing r ch o (user.CallInitiated again due) _ false _ refl refl refl)
own_row r ch o t m (user.CallInitiated again due) Connect = by_cases (names_channel m.channel ch) _ _ (OwnMovesBy r ch o (user.CallInitiated again due) true) (λ _. talking r ch o (user.CallInitiated again due) true t refl refl) (λ _. clearing r ch o (user.CallInitiated again due) _ true _ refl refl refl)
own_row r ch o t m (user.OutgoingCallProceeding due) Connect = talking r ch o (user.OutgoingCallProceeding due) true t refl refl
own_row r ch o t m s Progress = same r ch o s false None tt
own_row r ch o t m s Notify = same r ch o s false None tt
own_row r ch o t m s Information = same r ch o s false None tt
own_row r ch o t m s (Other octet) = same r ch o s false _ (live_user s)
own_row r ch o t m s k = same r ch o s (is_connect_kind k) _ (live_user s)

pub own_second : (r ch : ℕ) (called : List ℕ) (t : ℕ) (s : UserState) → OwnMovesBy r ch (Calling called) s false (user_second (user_call_of r ch (Calling called) s) t)
own_second r ch called t user.CallPresent = same r ch (Calling called) user.CallPresent false None tt
own_second r ch called t user.CallReceived = same r ch (Calling called) user.CallReceived false None tt
own_second r ch called t (user.ConnectRequest due) = by_cases (nat_le due t) _ _ (OwnMovesBy r ch (Calling called) (user.ConnectRequest due) false) (λ _. clearing r ch (Calling called) (user.ConnectRequest due) _ false _ refl refl refl) (λ _. same r ch (Calling called) (user.ConnectRequest due) false None tt)
own_second r ch called t (user.Active since) = same r ch (Calling called) (user.Active since) false None tt
own_second r ch called t user.IncomingCallProceeding = same r ch (Calling called) user.IncomingCallProceeding false None tt
own_second r ch called t (user.CallInitiated false due) = by_cases (nat_le due t) _ _ (OwnMovesBy r ch (Calling called) (user.CallInitiated false due) false) (λ _. ringing r ch (Calling called) (user.CallInitiated false due) _ false _ refl refl refl refl) (λ _. same r ch (Calling called) (user.CallInitiated false due) false None tt)
own_second r ch called t (user.CallInitiated true due) = by_cases (nat_le due t) _ _ (OwnMovesBy r ch (Calling called) (user.CallInitiated true due) false) (λ _. tt) (λ _. same r ch (Calling called) (user.CallInitiated true due) false None tt)
own_second r ch called t (user.OutgoingCallProceeding due) = by_cases (nat_le due t) _ _ (OwnMovesBy r ch (Calling called) (user.OutgoingCallProceeding due) false) (λ _. clearing r ch (Calling called) (user.OutgoingCallProceeding due) _ false _ refl refl refl) (λ _. same r ch (Calling called) (user.OutgoingCallProceeding due) false None tt)
own_second r ch called t (user.DisconnectRequest cause due) = by_cases (nat_le due t) _ _ (OwnMovesBy r ch (Calling called) (user.DisconnectRequest cause due) false) (λ _. clearing r ch (Calling called) (user.DisconnectRequest cause due) _ false _ refl refl refl) (λ _. same r ch (Calling called) (user.DisconnectRequest cause due) false None tt)
own_second r ch called t (user.ReleaseRequest Twice cause due) = by_cases (nat_le due t) _ _ (OwnMovesBy r ch (Calling called) (user.ReleaseRequest Twice cause due) false) (λ _. tt) (λ _. same r ch (Calling called) (user.ReleaseRequest Twice cause due) false None tt)
own_second r ch called t (user.ReleaseRequest NotYet cause due) = by_cases (nat_le due t) _ _ (OwnMovesBy r ch (Calling called) (user.ReleaseRequest NotYet cause due) false) (λ _. clearing r ch (Calling called) (user.ReleaseRequest NotYet cause due) _ false _ refl refl refl) (λ _. same r ch (Calling called) (user.ReleaseRequest NotYet cause due) false None tt)
own_second r ch called t (user.ReleaseRequest Once cause due) = by_cases (nat_le due t) _ _ (OwnMovesBy r ch (Calling called) (user.ReleaseRequest Once cause due) false) (λ _. clearing r ch (Calling called) (user.ReleaseRequest Once cause due) _ false _ refl refl refl) (λ _. same r ch (Calling called) (user.ReleaseRequest Once cause due) false None tt)

-- ---- what such a call says: a SETUP names its channel

pub record OwnSpeaks (r ch : ℕ) (o : UserOrigin) (out : Outgoing) : Type 0 where
  pub reference : out.reference ≡ r
  pub flag : out.flag ≡ user_flag o
  pub setup : out.kind ≡ Setup → out.channel ≡ Some (ch, true)

other : (r ch : ℕ) (o : UserOrigin) (out : Outgoing) → out.reference ≡ r → out.flag ≡ user_flag o → is_setup_kind out.kind ≡ false → OwnSpeaks r ch o out
other r ch o out a b c = record { reference = a; flag = b; setup = λ q. absurd (false≢true (sym c ∙ ap is_setup_kind q)) }

abbrev OwnSays : ℕ → ℕ → UserOrigin → Transition PlainUserCall → Type 0
OwnSays r ch o step = OfSaid (OwnSpeaks r ch o) step.reply

releases : (r ch : ℕ) (o : UserOrigin) (s : UserState) (again : Times) (cause : Option ℕ) (t : ℕ) → OwnSays r ch o (user_releases (user_call_of r ch o s) again cause t)
releases r ch o s again None t = other r ch o _ refl refl refl
releases r ch o s again (Some cause) t = other r ch o _ refl refl refl

pub own_row_says : (r ch : ℕ) (o : UserOrigin) (t : ℕ) (m : Heard) (s : UserState) (k : Kind) → OwnSays r ch o (user_row (user_call_of r ch o s) m t s k)
own_row_says r ch o t m s ReleaseComplete = tt
own_row_says r ch o t m s StatusEnquiry = other r ch o _ refl refl refl
own_row_says r ch o t m s Status = by_cases (reports_null m.state) _ _ (OwnSays r ch o) (λ _. tt) (λ _. tt)
own_row_says r ch o t m s Setup = tt
own_row_says r ch o t m (user.ReleaseRequest again cause due) Release = tt
own_row_says r ch o t m s Release = other r ch o _ refl refl refl
own_row_says r ch o t m (user.ReleaseRequest again cause due) k = tt
own_row_says r ch o t m s Disconnect = other r ch o _ refl refl refl
own_row_says r ch o t m (user.DisconnectRequest cause due) k = tt
own_row_says r ch o t m (user.ConnectRequest due) ConnectAcknowledge = tt
own_row_says r ch o t m (user.CallInitiated again due) CallProceeding = by_cases (names_channel m.channel ch) _ _ (OwnSays r ch o) (λ _. tt) (λ _. other r ch o _ refl refl refl)
own_row_says r ch o t m (user.CallInitiated again due) Connect = by_cases (names_channel m.channel ch) _ _ (OwnSays r ch o) (λ _. tt) (λ _. other r ch o _ refl refl refl)
own_row_says r ch o t m (user.OutgoingCallProceeding due) Connect = tt
own_row_says r ch o t m s Progress = tt
own_row_says r ch o t m s Notify = tt
own_row_says r ch o t m s Information = tt
own_row_says r ch o t m s (Other octet) = other r ch o _ refl refl refl
own_row_says r ch o t m s k = other r ch o _ refl refl refl

pub own_second_says : (r ch : ℕ) (called : List ℕ) (t : ℕ) (s : UserState) → OwnSays r ch (Calling called) (user_second (user_call_of r ch (Calling called) s) t)
own_second_says r ch called t (user.ConnectRequest due) = by_cases (nat_le due t) _ _ (OwnSays r ch (Calling called)) (λ _. other r ch (Calling called) _ refl refl refl) (λ _. tt)
own_second_says r ch called t (user.CallInitiated false due) = by_cases (nat_le due t) _ _ (OwnSays r ch (Calling called)) (λ _. record { reference = refl; flag = refl; setup = λ _. refl }) (λ _. tt)
own_second_says r ch called t (user.CallInitiated true due) = by_cases (nat_le due t) _ _ (OwnSays r ch (Calling called)) (λ _. other r ch (Calling called) _ refl refl refl) (λ _. tt)
own_second_says r ch called t (user.OutgoingCallProceeding due) = by_cases (nat_le due t) _ _ (OwnSays r ch (Calling called)) (λ _. other r ch (Calling called) _ refl refl refl) (λ _. tt)
own_second_says r ch called t (user.DisconnectRequest cause due) = by_cases (nat_le due t) _ _ (OwnSays r ch (Calling called)) (λ _. other r ch (Calling called) _ refl refl refl) (λ _. tt)
own_second_says r ch called t (user.ReleaseRequest Twice cause due) = by_cases (nat_le due t) _ _ (OwnSays r ch (Calling called)) (λ _. tt) (λ _. tt)
own_second_says r ch called t (user.ReleaseRequest NotYet cause due) = by_cases (nat_le due t) _ _ (OwnSays r ch (Calling called)) (λ _. releases r ch (Calling called) (user.ReleaseRequest NotYet cause due) Once cause t) (λ _. tt)
own_second_says r ch called t (user.ReleaseRequest Once cause due) = by_cases (nat_le due t) _ _ (OwnSays r ch (Calling called)) (λ _. releases r ch (Calling called) (user.ReleaseRequest Once cause due) Twice cause t) (λ _. tt)
own_second_says r ch called t s = tt
