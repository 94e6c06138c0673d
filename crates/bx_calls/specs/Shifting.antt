-- A call from one day to the next: the same call, of which each moment is told from a midnight that comes n seconds later.
use Rattle.std.specs.Prelude.{◌≡◌, ◌≤◌, ℕ, ◌+◌, ◌-◌, true, Some}
use Rattle.bx_events.specs.declared.rules.Rules.{Rules}
use Rattle.bx_calls.specs.declared.transition.Transition.{Transition}
use Rattle.bx_calls.specs.declared.transition.Next.{Next}
use Rattle.bx_calls.specs.declared.transition.Next.TheVariants.{Live, Over, Broken}
use Rattle.bx_calls.specs.declared.net_state.NetState.{NetState}
use Rattle.bx_calls.specs.declared.net_state.NetState.TheVariants.{OutgoingCallProceeding, CallPresent, IncomingCallProceeding, CallReceived, Active, Enquiring, DisconnectIndication, ReleaseRequest}
use Rattle.bx_calls.specs.PlainCalls.{PlainNetCall}
use Rattle.bx_calls.specs.Hearing.{Heard}
use Rattle.bx_calls.specs.NetTable.{net_second, net_unlinked, net_message, net_due, net_is_clearing}

-- its timer is due n seconds earlier
abbrev pub state_earlier : ℕ → NetState → NetState
state_earlier n OutgoingCallProceeding = OutgoingCallProceeding
state_earlier n (CallPresent offer due) = CallPresent offer (due - n)
state_earlier n (IncomingCallProceeding due) = IncomingCallProceeding (due - n)
state_earlier n (CallReceived due) = CallReceived (due - n)
state_earlier n Active = Active
state_earlier n (Enquiring asked due) = Enquiring asked (due - n)
state_earlier n (DisconnectIndication cause due) = DisconnectIndication cause (due - n)
state_earlier n (ReleaseRequest sent cause due) = ReleaseRequest sent cause (due - n)

abbrev pub earlier_by : ℕ → PlainNetCall → PlainNetCall
earlier_by n c = record c { state = state_earlier n c.state }

-- and n seconds later
abbrev pub state_later : ℕ → NetState → NetState
state_later n OutgoingCallProceeding = OutgoingCallProceeding
state_later n (CallPresent offer due) = CallPresent offer (due + n)
state_later n (IncomingCallProceeding due) = IncomingCallProceeding (due + n)
state_later n (CallReceived due) = CallReceived (due + n)
state_later n Active = Active
state_later n (Enquiring asked due) = Enquiring asked (due + n)
state_later n (DisconnectIndication cause due) = DisconnectIndication cause (due + n)
state_later n (ReleaseRequest sent cause due) = ReleaseRequest sent cause (due + n)

abbrev pub told_later : ℕ → PlainNetCall → PlainNetCall
told_later n c = record c { state = state_later n c.state }

abbrev pub next_later : ℕ → Next PlainNetCall → Next PlainNetCall
next_later n (Live c) = Live (told_later n c)
next_later n Over = Over
next_later n Broken = Broken

abbrev pub step_later : ℕ → Transition PlainNetCall → Transition PlainNetCall
step_later n x = record { next = next_later n x.next; reply = x.reply }

-- its timer, if it runs, is due at this moment at the earliest
abbrev pub IsDueFrom : ℕ → NetState → Type 0
IsDueFrom n state = (due : ℕ) → net_due state ≡ Some due → n ≤ due

-- the call of the day before is that of the new day, told from the midnight before
abbrev pub IsToldBack : Type 0
IsToldBack = (n : ℕ) (c : PlainNetCall) → IsDueFrom n c.state → told_later n (earlier_by n c) ≡ c

-- a second with a link, a second or more without one, and a message make of both the same, and say the same
abbrev pub SecondsShift : Type 0
SecondsShift = (n t end : ℕ) (c : PlainNetCall) → net_second (told_later n c) (t + n) (end + n) ≡ step_later n (net_second c t end)

abbrev pub OutagesShift : Type 0
OutagesShift =
    (rules : Rules) (n k t end : ℕ) (c : PlainNetCall) →
    net_unlinked rules k (told_later n c) (t + n) (end + n) ≡ step_later n (net_unlinked rules k c t end)

abbrev pub MessagesShift : Type 0
MessagesShift = (n t : ℕ) (c : PlainNetCall) (m : Heard) → net_message (told_later n c) m (t + n) ≡ step_later n (net_message c m t)

-- of a call that is being cleared no end is asked: it may be told with any
abbrev pub EndsAreUnasked : Type 0
EndsAreUnasked =
    (rules : Rules) (k t end other : ℕ) (c : PlainNetCall) → net_is_clearing c.state ≡ true →
    (net_second c t end ≡ net_second c t other) × (net_unlinked rules k c t end ≡ net_unlinked rules k c t other)
