-- What both ends make of messages on one channel, where the script of the far end answers each call, and calls nobody: the
-- call there, if there is one, and what is said. Calls of other channels have no part in it.
use Rattle.bx_events.specs.declared.rules.Rules.TheVariants.{Three}
use Rattle.std.specs.Prelude.{◌≡◌, ◌⊎◌, ℕ, ◌<◌, ◌==◌, Bool, true, false, List, [], ◌∷◌, ◌++◌, Option, Some, None, option_map, if◌then◌else◌}
use Rattle.bx_q931.specs.Outgoing.{Outgoing}
use Rattle.bx_q931.specs.Parts.{channel_part}
use Rattle.bx_q931.specs.declared.kind.Kind.{Kind}
use Rattle.bx_q931.specs.declared.kind.Kind.TheVariants.{Setup}
use Rattle.bx_calls.specs.Hearing.{Heard}
use Rattle.bx_calls.specs.NetTable.{net_message, net_second, net_unlinked, net_offered}
use Rattle.bx_calls.specs.PlainCalls.{PlainNetCall, PlainUserCall}
use Rattle.bx_calls.specs.Saying.{setup_of}
use Rattle.bx_calls.specs.Sending.{reply_list}
use Rattle.bx_calls.specs.UnknownTable.{refusal_of, unknown_row}
use Rattle.bx_calls.specs.UserTable.{user_message, user_second, user_offered, user_unlinked}
use Rattle.bx_calls.specs.declared.transition.Next.{Next}
use Rattle.bx_calls.specs.declared.transition.Next.TheVariants.{Live, Over, Broken}
use Rattle.bx_calls.specs.declared.transition.Transition.{Transition}
use Rattle.bx_calls.specs.declared.unknown_reference.Side.TheVariants.{Network, User}
use Rattle.bx_calls.specs.declared.user_state.Policy.TheVariants.{Answer}

-- the call that is there after it, if any, and what was said
pub record Left (A : Type 0) : Type 0 where
  pub call : Option A
  pub said : List Outgoing

-- one after another
abbrev pub left_then : {A : Type 0} → Left A → Left A → Left A
left_then a b = record { call = b.call; said = a.said ++ b.said }

abbrev pub left_as : {A : Type 0} → Option A → Left A
left_as call = record { call = call; said = [] }

-- what is heard of a message that was sent
abbrev pub heard_from : Outgoing → Heard
heard_from o = record { kind = o.kind; channel = channel_part o.channel; cause = option_map (λ c. c.1) o.cause; state = o.state; rules = Three }

-- the messages of a channel, by the channel that each reference has
abbrev pub messages_on : (ℕ → ℕ) → ℕ → List Outgoing → List Outgoing
messages_on chan k [] = []
messages_on chan k (o ∷ os) = if chan o.reference == k then o ∷ messages_on chan k os else messages_on chan k os

-- some of these, in their order
abbrev pub IsPart : List Outgoing → List Outgoing → Type 0
IsPart xs [] = xs ≡ []
IsPart xs (o ∷ os) = IsPart xs os ⊎ ((rest : List Outgoing) × (xs ≡ o ∷ rest) × IsPart rest os)

-- ---- the exchange

abbrev pub near_left : Next PlainNetCall → Option PlainNetCall
near_left (Live call) = Some call
near_left Over = None
near_left Broken = None

abbrev pub near_stepped : Transition PlainNetCall → Left PlainNetCall
near_stepped step = record { call = near_left step.next; said = reply_list step.reply }

-- a message with the reference of another call, or of none
abbrev pub near_strays : Option PlainNetCall → Outgoing → Left PlainNetCall
near_strays call o = record { call = call; said = reply_list (unknown_row Network o.reference false (heard_from o) o.kind) }

-- a message at moment t
abbrev pub near_meets : ℕ → Option PlainNetCall → Outgoing → Left PlainNetCall
near_meets t None o = near_strays None o
near_meets t (Some call) o = if call.reference == o.reference then near_stepped (net_message call (heard_from o) t) else near_strays (Some call) o

abbrev pub near_meets_all : ℕ → Option PlainNetCall → List Outgoing → Left PlainNetCall
near_meets_all t call [] = left_as call
near_meets_all t call (o ∷ os) = left_then (near_meets t call o) (near_meets_all t (near_meets t call o).call os)

-- a call that begins on channel k at a tick to moment t; is_back says that there was no link in the second before
abbrev pub near_begun : ℕ → List ℕ → ℕ → Bool → ℕ → Left PlainNetCall
near_begun r number k is_back t = record { call = Some (net_offered r k number is_back t); said = setup_of r k number ∷ [] }

-- a tick to moment t: where no call is there, one of a booking that has not ended may begin. Each reference has the end of its booking.
abbrev pub NearTicks : (ℕ → ℕ) → Bool → ℕ → ℕ → Option PlainNetCall → Left PlainNetCall → Type 0
NearTicks ends is_back k t None left = (left ≡ left_as None) ⊎ ((r : ℕ) × (number : List ℕ) × (t < ends r) × (left ≡ near_begun r number k is_back t))
NearTicks ends is_back k t (Some call) left = left ≡ near_stepped (net_second call t (ends call.reference))

-- a second without a link, to moment t
abbrev pub near_outlasts : (ℕ → ℕ) → ℕ → Option PlainNetCall → Option PlainNetCall
near_outlasts ends t None = None
near_outlasts ends t (Some call) = near_left (net_unlinked Three 1 call t (ends call.reference)).next

-- ---- the far end

abbrev pub far_left : Next PlainUserCall → Option PlainUserCall
far_left (Live call) = Some call
far_left Over = None
far_left Broken = None

abbrev pub far_stepped : Transition PlainUserCall → Left PlainUserCall
far_stepped step = record { call = far_left step.next; said = reply_list step.reply }

-- how many seconds the far end lets a called number ring; none, where its script answers each call at once
abbrev pub none_waits : Option (List ℕ) → ℕ
none_waits called = 0

-- a message with the reference of another call, or of none: a SETUP is taken where the channel is not held
abbrev pub far_strays_by : (Option (List ℕ) → ℕ) → ℕ → ℕ → Option PlainUserCall → Outgoing → Kind → Left PlainUserCall
far_strays_by wait t k None o Setup = left_as (Some (user_offered o.reference k (Answer (wait o.called)) t))
far_strays_by wait t k (Some call) o Setup = record { call = Some call; said = refusal_of User o.reference true 44 ∷ [] }
far_strays_by wait t k call o kind = record { call = call; said = reply_list (unknown_row User o.reference true (heard_from o) kind) }

-- a message at moment t, on channel k
abbrev pub far_meets_by : (Option (List ℕ) → ℕ) → ℕ → ℕ → Option PlainUserCall → Outgoing → Left PlainUserCall
far_meets_by wait t k None o = far_strays_by wait t k None o o.kind
far_meets_by wait t k (Some call) o = if call.reference == o.reference then far_stepped (user_message call (heard_from o) t) else far_strays_by wait t k (Some call) o o.kind

abbrev pub far_meets_all_by : (Option (List ℕ) → ℕ) → ℕ → ℕ → Option PlainUserCall → List Outgoing → Left PlainUserCall
far_meets_all_by wait t k call [] = left_as call
far_meets_all_by wait t k call (o ∷ os) = left_then (far_meets_by wait t k call o) (far_meets_all_by wait t k (far_meets_by wait t k call o).call os)

-- the same where none waits
abbrev pub far_strays : ℕ → ℕ → Option PlainUserCall → Outgoing → Kind → Left PlainUserCall
far_strays t k call o kind = far_strays_by none_waits t k call o kind

abbrev pub far_meets : ℕ → ℕ → Option PlainUserCall → Outgoing → Left PlainUserCall
far_meets t k call o = far_meets_by none_waits t k call o

abbrev pub far_meets_all : ℕ → ℕ → Option PlainUserCall → List Outgoing → Left PlainUserCall
far_meets_all t k call os = far_meets_all_by none_waits t k call os

-- a tick to moment t
abbrev pub far_passes : ℕ → Option PlainUserCall → Left PlainUserCall
far_passes t None = left_as None
far_passes t (Some call) = far_stepped (user_second call t)

-- a second without a link, to moment t
abbrev pub far_outlasts : ℕ → Option PlainUserCall → Option PlainUserCall
far_outlasts t None = None
far_outlasts t (Some call) = Some (user_unlinked t call)
