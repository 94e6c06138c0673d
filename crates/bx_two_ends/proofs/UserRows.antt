-- Row by row of the user side's call table: what a step of a call says, and where it leads.
use Rattle.std.proofs.Common.{◌≡◌, ℕ, ◌+◌, ◌==◌, ◌||◌, max, Bool, true, false, Option, Some, None, refl, sym, ◌∙◌, nat_le}
use Rattle.std.proofs.lemmas.Bool.{false≢true, or_left}
use Rattle.bx_q931.specs.declared.kind.Kind.{Kind}
use Rattle.bx_q931.specs.declared.kind.Kind.TheVariants.{CallProceeding, Progress, Setup, Connect, ConnectAcknowledge, Disconnect, Release, ReleaseComplete, Notify, StatusEnquiry, Information, Status, Other}
use Rattle.bx_q931.specs.Outgoing.{Outgoing}
use Rattle.bx_calls.specs.declared.transition.Transition.{Transition}
use Rattle.bx_calls.specs.declared.transition.Next.{Next}
use Rattle.bx_calls.specs.declared.transition.Next.TheVariants.{Live, Over, Broken}
use Rattle.bx_calls.specs.PlainCalls.{PlainUserCall}
use Rattle.bx_calls.specs.declared.user_state.Policy.TheVariants.{Answer, Alert, Proceed, Clear}
use Rattle.bx_calls.specs.declared.user_state.UserOrigin.{UserOrigin}
use Rattle.bx_calls.specs.declared.user_state.UserOrigin.TheVariants.{Offered, Calling}
use Rattle.bx_calls.specs.declared.times.Times.{Times}
use Rattle.bx_calls.specs.declared.times.Times.TheVariants.{NotYet, Once, Twice}
use Rattle.bx_calls.specs.declared.user_state.UserState.{UserState}
use Rattle.bx_calls.specs.declared.user_state.UserState.TheVariants.{CallInitiated, OutgoingCallProceeding, CallPresent, CallReceived, ConnectRequest, IncomingCallProceeding, Active, DisconnectRequest, ReleaseRequest}
use Rattle.bx_calls.specs.Hearing.{Heard, names_channel, reports_null}
use Rattle.bx_calls.specs.UserTable.{user_row, user_second, user_takes, user_answers, user_clears, user_flag, user_releases}
use Rattle.bx_day.proofs.Said.{OfSaid}
use Rattle.bx_two_ends.specs.TwoEnds.{is_acknowledge}
use Rattle.bx_two_ends.proofs.NetworkRows.{shows_connected, clears_as}
use Rattle.bx_day.proofs.Tick.{by_cases}

abbrev pub user_call_of : ℕ → ℕ → UserOrigin → UserState → PlainUserCall
user_call_of r ch o s = record { reference = r; channel = ch; origin = o; state = s }

abbrev pub is_talking : UserState → Bool
is_talking (Active since) = true
is_talking _ = false

-- states of a call that the far end begins alone
abbrev pub is_calling : UserState → Bool
is_calling (CallInitiated again due) = true
is_calling (OutgoingCallProceeding due) = true
is_calling _ = false

pub record UserGoes (r ch : ℕ) (o : UserOrigin) (s : UserState) (ack : Bool) (c : PlainUserCall) : Type 0 where
  pub reference : c.reference ≡ r
  pub channel : c.channel ≡ ch
  pub origin : c.origin ≡ o
  pub active : is_talking c.state ≡ true → (is_talking s || (ack || is_calling s)) ≡ true
  pub calling : is_calling c.state ≡ true → is_calling s ≡ true

abbrev pub Moves : ℕ → ℕ → UserOrigin → UserState → Bool → Bool → Next PlainUserCall → Type 0
Moves r ch o s ack cleared (Live c) = UserGoes r ch o s ack c
Moves r ch o s ack cleared Over = (cleared || is_calling s) ≡ true
Moves r ch o s ack cleared Broken = Unit {0}

abbrev pub MovesBy : ℕ → ℕ → UserOrigin → UserState → Bool → Bool → Transition PlainUserCall → Type 0
MovesBy r ch o s ack cleared step = Moves r ch o s ack cleared step.next

same : (r ch : ℕ) (o : UserOrigin) (s : UserState) (ack : Bool) → UserGoes r ch o s ack (user_call_of r ch o s)
same r ch o s ack = record { reference = refl; channel = refl; origin = refl; active = λ a. or_left (is_talking s) (ack || is_calling s) a; calling = λ a. a }

to : (r ch : ℕ) (o : UserOrigin) (s s' : UserState) (ack : Bool) → is_talking s' ≡ false → is_calling s' ≡ false → UserGoes r ch o s ack (user_call_of r ch o s')
to r ch o s s' ack a b = record { reference = refl; channel = refl; origin = refl; active = λ q. absurd (false≢true (sym a ∙ q)); calling = λ q. absurd (false≢true (sym b ∙ q)) }

talk : (r ch : ℕ) (o : UserOrigin) (s : UserState) (ack : Bool) (t : ℕ) → (is_talking s || (ack || is_calling s)) ≡ true → UserGoes r ch o s ack (user_call_of r ch o (Active t))
talk r ch o s ack t a = record { reference = refl; channel = refl; origin = refl; active = λ q. a; calling = λ q. absurd (false≢true q) }

calls_on : (r ch : ℕ) (o : UserOrigin) (s s' : UserState) (ack : Bool) → is_talking s' ≡ false → is_calling s ≡ true → UserGoes r ch o s ack (user_call_of r ch o s')
calls_on r ch o s s' ack a b = record { reference = refl; channel = refl; origin = refl; active = λ q. absurd (false≢true (sym a ∙ q)); calling = λ q. b }

abbrev RowMoves : ℕ → ℕ → UserOrigin → UserState → Heard → Kind → Transition PlainUserCall → Type 0
RowMoves r ch o s m k step = MovesBy r ch o s (is_acknowledge k) (clears_as k m.state) step

pub row_moves : (r ch : ℕ) (o : UserOrigin) (t : ℕ) (m : Heard) (s : UserState) (k : Kind) → RowMoves r ch o s m k (user_row (user_call_of r ch o s) m t s k)
row_moves r ch o t m s ReleaseComplete = refl
row_moves r ch o t m s StatusEnquiry = same r ch o s false
row_moves r ch o t m s Status = by_cases (reports_null m.state) _ _ (RowMoves r ch o s m Status) (λ q. or_left (reports_null m.state) (is_calling s) q) (λ _. same r ch o s false)
row_moves r ch o t m s Setup = same r ch o s false
row_moves r ch o t m (ReleaseRequest again cause due) Release = refl
row_moves r ch o t m s Release = refl
row_moves r ch o t m (ReleaseRequest again cause due) k = same r ch o (ReleaseRequest again cause due) (is_acknowledge k)
row_moves r ch o t m s Disconnect = to r ch o s _ false refl refl
row_moves r ch o t m (DisconnectRequest cause due) k = same r ch o (DisconnectRequest cause due) (is_acknowledge k)
row_moves r ch o t m (ConnectRequest due) ConnectAcknowledge = talk r ch o (ConnectRequest due) true t refl
row_moves r ch o t m (CallInitiated again due) CallProceeding = by_cases (names_channel m.channel ch) _ _ (RowMoves r ch o (CallInitiated again due) m CallProceeding) (λ _. calls_on r ch o (CallInitiated again due) _ false refl refl) (λ _. to r ch o (CallInitiated again due) _ false refl refl)
row_moves r ch o t m (CallInitiated again due) Connect = by_cases (names_channel m.channel ch) _ _ (RowMoves r ch o (CallInitiated again due) m Connect) (λ _. talk r ch o (CallInitiated again due) false t refl) (λ _. to r ch o (CallInitiated again due) _ false refl refl)
row_moves r ch o t m (OutgoingCallProceeding due) Connect = talk r ch o (OutgoingCallProceeding due) false t refl
row_moves r ch o t m s k = same r ch o s (is_acknowledge k)

abbrev TickMoves : ℕ → ℕ → UserOrigin → UserState → Transition PlainUserCall → Type 0
TickMoves r ch o s step = MovesBy r ch o s false false step

takes_moves : (r ch t : ℕ) (o : UserOrigin) → TickMoves r ch o CallPresent (user_takes (user_call_of r ch o CallPresent) t o)
takes_moves r ch t (Offered (Answer n) at) = by_cases (n == 0) _ _ (TickMoves r ch (Offered (Answer n) at) CallPresent) (λ _. to r ch (Offered (Answer n) at) CallPresent _ false refl refl) (λ _. to r ch (Offered (Answer n) at) CallPresent _ false refl refl)
takes_moves r ch t (Offered (Clear n) at) = to r ch (Offered (Clear n) at) CallPresent _ false refl refl
takes_moves r ch t (Offered Alert at) = to r ch (Offered Alert at) CallPresent _ false refl refl
takes_moves r ch t (Offered Proceed at) = to r ch (Offered Proceed at) CallPresent _ false refl refl
takes_moves r ch t o = same r ch o CallPresent false

answers_moves : (r ch t : ℕ) (o : UserOrigin) → TickMoves r ch o CallReceived (user_answers (user_call_of r ch o CallReceived) t o)
answers_moves r ch t (Offered (Answer n) at) = by_cases (nat_le (at + 1 + n) t) _ _ (TickMoves r ch (Offered (Answer n) at) CallReceived) (λ _. to r ch (Offered (Answer n) at) CallReceived _ false refl refl) (λ _. same r ch (Offered (Answer n) at) CallReceived false)
answers_moves r ch t o = same r ch o CallReceived false

clears_moves : (r ch t since : ℕ) (o : UserOrigin) → TickMoves r ch o (Active since) (user_clears (user_call_of r ch o (Active since)) t since o)
clears_moves r ch t since (Offered (Clear n) at) = by_cases (nat_le (since + max n 1) t) _ _ (TickMoves r ch (Offered (Clear n) at) (Active since)) (λ _. to r ch (Offered (Clear n) at) (Active since) _ false refl refl) (λ _. same r ch (Offered (Clear n) at) (Active since) false)
clears_moves r ch t since o = same r ch o (Active since) false

pub second_moves : (r ch : ℕ) (o : UserOrigin) (t : ℕ) (s : UserState) → TickMoves r ch o s (user_second (user_call_of r ch o s) t)
second_moves r ch o t CallPresent = takes_moves r ch t o
second_moves r ch o t CallReceived = answers_moves r ch t o
second_moves r ch o t (ConnectRequest due) = by_cases (nat_le due t) _ _ (TickMoves r ch o (ConnectRequest due)) (λ _. to r ch o (ConnectRequest due) _ false refl refl) (λ _. same r ch o (ConnectRequest due) false)
second_moves r ch o t (Active since) = clears_moves r ch t since o
second_moves r ch o t IncomingCallProceeding = same r ch o IncomingCallProceeding false
second_moves r ch o t (CallInitiated false due) = by_cases (nat_le due t) _ _ (TickMoves r ch o (CallInitiated false due)) (λ _. calls_on r ch o (CallInitiated false due) _ false refl refl) (λ _. same r ch o (CallInitiated false due) false)
second_moves r ch o t (CallInitiated true due) = by_cases (nat_le due t) _ _ (TickMoves r ch o (CallInitiated true due)) (λ _. refl) (λ _. same r ch o (CallInitiated true due) false)
second_moves r ch o t (OutgoingCallProceeding due) = by_cases (nat_le due t) _ _ (TickMoves r ch o (OutgoingCallProceeding due)) (λ _. to r ch o (OutgoingCallProceeding due) _ false refl refl) (λ _. same r ch o (OutgoingCallProceeding due) false)
second_moves r ch o t (DisconnectRequest cause due) = by_cases (nat_le due t) _ _ (TickMoves r ch o (DisconnectRequest cause due)) (λ _. to r ch o (DisconnectRequest cause due) _ false refl refl) (λ _. same r ch o (DisconnectRequest cause due) false)
second_moves r ch o t (ReleaseRequest Twice cause due) = by_cases (nat_le due t) _ _ (TickMoves r ch o (ReleaseRequest Twice cause due)) (λ _. tt) (λ _. same r ch o (ReleaseRequest Twice cause due) false)
second_moves r ch o t (ReleaseRequest NotYet cause due) = by_cases (nat_le due t) _ _ (TickMoves r ch o (ReleaseRequest NotYet cause due)) (λ _. to r ch o (ReleaseRequest NotYet cause due) _ false refl refl) (λ _. same r ch o (ReleaseRequest NotYet cause due) false)
second_moves r ch o t (ReleaseRequest Once cause due) = by_cases (nat_le due t) _ _ (TickMoves r ch o (ReleaseRequest Once cause due)) (λ _. to r ch o (ReleaseRequest Once cause due) _ false refl refl) (λ _. same r ch o (ReleaseRequest Once cause due) false)

-- ---- what is said. What shows that it has connected is said by a call that goes on

abbrev pub goes_on : Next PlainUserCall → Bool
goes_on (Live c) = true
goes_on _ = false

pub record UserSpeaks (r : ℕ) (o : UserOrigin) (next : Next PlainUserCall) (out : Outgoing) : Type 0 where
  pub reference : out.reference ≡ r
  pub flag : out.flag ≡ user_flag o
  pub connect : shows_connected out.kind out.state ≡ true → goes_on next ≡ true

abbrev pub SpeaksBy : ℕ → UserOrigin → Transition PlainUserCall → Type 0
SpeaksBy r o step = OfSaid (UserSpeaks r o step.next) step.reply

live : (r : ℕ) (o : UserOrigin) (c : PlainUserCall) (out : Outgoing) → out.reference ≡ r → out.flag ≡ user_flag o → UserSpeaks r o (Live c) out
live r o c out a b = record { reference = a; flag = b; connect = λ _. refl }

gone : (r : ℕ) (o : UserOrigin) (next : Next PlainUserCall) (out : Outgoing) → out.reference ≡ r → out.flag ≡ user_flag o → shows_connected out.kind out.state ≡ false → UserSpeaks r o next out
gone r o next out a b c = record { reference = a; flag = b; connect = λ q. absurd (false≢true (sym c ∙ q)) }

releases : (r ch : ℕ) (o : UserOrigin) (s : UserState) (again : Times) (cause : Option ℕ) (t : ℕ) → SpeaksBy r o (user_releases (user_call_of r ch o s) again cause t)
releases r ch o s again None t = live r o _ _ refl refl
releases r ch o s again (Some cause) t = live r o _ _ refl refl

pub row_speaks : (r ch : ℕ) (o : UserOrigin) (t : ℕ) (m : Heard) (s : UserState) (k : Kind) → SpeaksBy r o (user_row (user_call_of r ch o s) m t s k)
row_speaks r ch o t m s ReleaseComplete = tt
row_speaks r ch o t m s StatusEnquiry = live r o _ _ refl refl
row_speaks r ch o t m s Status = by_cases (reports_null m.state) _ _ (SpeaksBy r o) (λ _. tt) (λ _. tt)
row_speaks r ch o t m s Setup = tt
row_speaks r ch o t m (ReleaseRequest again cause due) Release = tt
row_speaks r ch o t m s Release = gone r o Over _ refl refl refl
row_speaks r ch o t m (ReleaseRequest again cause due) k = tt
row_speaks r ch o t m s Disconnect = live r o _ _ refl refl
row_speaks r ch o t m (DisconnectRequest cause due) k = tt
row_speaks r ch o t m (ConnectRequest due) ConnectAcknowledge = tt
row_speaks r ch o t m (CallInitiated again due) CallProceeding = by_cases (names_channel m.channel ch) _ _ (SpeaksBy r o) (λ _. tt) (λ _. live r o _ _ refl refl)
row_speaks r ch o t m (CallInitiated again due) Connect = by_cases (names_channel m.channel ch) _ _ (SpeaksBy r o) (λ _. tt) (λ _. live r o _ _ refl refl)
row_speaks r ch o t m (OutgoingCallProceeding due) Connect = tt
row_speaks r ch o t m s Progress = tt
row_speaks r ch o t m s Notify = tt
row_speaks r ch o t m s Information = tt
row_speaks r ch o t m s (Other octet) = live r o _ _ refl refl
row_speaks r ch o t m s k = live r o _ _ refl refl

takes_speaks : (r ch t : ℕ) (o : UserOrigin) → SpeaksBy r o (user_takes (user_call_of r ch o CallPresent) t o)
takes_speaks r ch t (Offered (Answer n) at) = by_cases (n == 0) _ _ (SpeaksBy r (Offered (Answer n) at)) (λ _. live r _ _ _ refl refl) (λ _. live r _ _ _ refl refl)
takes_speaks r ch t (Offered (Clear n) at) = live r _ _ _ refl refl
takes_speaks r ch t (Offered Alert at) = live r _ _ _ refl refl
takes_speaks r ch t (Offered Proceed at) = live r _ _ _ refl refl
takes_speaks r ch t o = tt

answers_speaks : (r ch t : ℕ) (o : UserOrigin) → SpeaksBy r o (user_answers (user_call_of r ch o CallReceived) t o)
answers_speaks r ch t (Offered (Answer n) at) = by_cases (nat_le (at + 1 + n) t) _ _ (SpeaksBy r (Offered (Answer n) at)) (λ _. live r _ _ _ refl refl) (λ _. tt)
answers_speaks r ch t o = tt

clears_speaks : (r ch t since : ℕ) (o : UserOrigin) → SpeaksBy r o (user_clears (user_call_of r ch o (Active since)) t since o)
clears_speaks r ch t since (Offered (Clear n) at) = by_cases (nat_le (since + max n 1) t) _ _ (SpeaksBy r (Offered (Clear n) at)) (λ _. live r _ _ _ refl refl) (λ _. tt)
clears_speaks r ch t since o = tt

setup_speaks : (r ch t due : ℕ) (o : UserOrigin) → SpeaksBy r o (user_second (user_call_of r ch o (CallInitiated false due)) t)
setup_speaks r ch t due (Offered p at) = by_cases (nat_le due t) _ _ (SpeaksBy r (Offered p at)) (λ _. tt) (λ _. tt)
setup_speaks r ch t due (Calling called) = by_cases (nat_le due t) _ _ (SpeaksBy r (Calling called)) (λ _. live r _ _ _ refl refl) (λ _. tt)

pub second_speaks : (r ch : ℕ) (o : UserOrigin) (t : ℕ) (s : UserState) → SpeaksBy r o (user_second (user_call_of r ch o s) t)
second_speaks r ch o t CallPresent = takes_speaks r ch t o
second_speaks r ch o t CallReceived = answers_speaks r ch t o
second_speaks r ch o t (ConnectRequest due) = by_cases (nat_le due t) _ _ (SpeaksBy r o) (λ _. live r o _ _ refl refl) (λ _. tt)
second_speaks r ch o t (Active since) = clears_speaks r ch t since o
second_speaks r ch o t IncomingCallProceeding = tt
second_speaks r ch o t (CallInitiated false due) = setup_speaks r ch t due o
second_speaks r ch o t (CallInitiated true due) = by_cases (nat_le due t) _ _ (SpeaksBy r o) (λ _. gone r o Over _ refl refl refl) (λ _. tt)
second_speaks r ch o t (OutgoingCallProceeding due) = by_cases (nat_le due t) _ _ (SpeaksBy r o) (λ _. live r o _ _ refl refl) (λ _. tt)
second_speaks r ch o t (DisconnectRequest cause due) = by_cases (nat_le due t) _ _ (SpeaksBy r o) (λ _. live r o _ _ refl refl) (λ _. tt)
second_speaks r ch o t (ReleaseRequest Twice cause due) = by_cases (nat_le due t) _ _ (SpeaksBy r o) (λ _. tt) (λ _. tt)
second_speaks r ch o t (ReleaseRequest NotYet cause due) = by_cases (nat_le due t) _ _ (SpeaksBy r o) (λ _. releases r ch o (ReleaseRequest NotYet cause due) Once cause t) (λ _. tt)
second_speaks r ch o t (ReleaseRequest Once cause due) = by_cases (nat_le due t) _ _ (SpeaksBy r o) (λ _. releases r ch o (ReleaseRequest Once cause due) Twice cause t) (λ _. tt)
