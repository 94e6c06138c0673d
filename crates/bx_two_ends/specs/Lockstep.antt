-- Both ends in turns over a link that loses nothing, as one process runs them: the exchange ticks; the far end hears its messages,
-- answers, and ticks; the exchange hears what the far end has said, and answers; the far end hears that too, and what it says to it
-- comes first in the next turn.
use Rattle.std.specs.Prelude.{◌≡◌, ◌≤◌, ℕ, zero, suc, Bool, List, [], ◌∷◌, ◌++◌, map, Option}
use Rattle.std.specs.List.{AllByRecursion}
use Rattle.bx_base.specs.Bookings.{Row, AreBookings, Carries}
use Rattle.bx_base.specs.Channels.{IsChannelSet}
use Rattle.bx_base.specs.Plans.{is_accepted, channel_at}
use Rattle.bx_events.specs.declared.moment.TheConstants.{LAST_MOMENT}
use Rattle.bx_q931.specs.Outgoing.{Outgoing, out_octets}
use Rattle.bx_calls.specs.Sending.{reply_list}
use Rattle.bx_calls.specs.declared.user_state.Policy.TheVariants.{Answer}
use Rattle.bx_two_ends.specs.Answering.{AnswersAll}
use Rattle.bx_day.specs.Day.{Day, opening}
use Rattle.bx_two_ends.specs.Earning.{LiveSecond, Linked, heard_in}
use Rattle.bx_day.specs.Run.{receive_octets}
use Rattle.bx_day.specs.Ticks.{tick}
use Rattle.bx_far.specs.FarDay.{FarDay, far_tick, far_opening}
use Rattle.bx_far.specs.FarRun.{far_receive_octets}
use Rattle.bx_far.specs.declared.row.ScriptRow.{ScriptRow}
use Rattle.bx_far.specs.declared.row.ScriptRow.TheVariants.{Follows, Calls}

-- the far end hears these, one after another: its day, and what it says to them
abbrev pub far_heard : List Outgoing → FarDay → FarDay
far_heard [] f = f
far_heard (o ∷ os) f = far_heard os (far_receive_octets f (out_octets o)).day

abbrev pub far_says : List Outgoing → FarDay → List Outgoing
far_says [] f = []
far_says (o ∷ os) f = reply_list (far_receive_octets f (out_octets o)).reply ++ far_says os (far_receive_octets f (out_octets o)).day

-- what the exchange says to these
abbrev pub exchange_says : List Outgoing → Day → List Outgoing
exchange_says [] d = []
exchange_says (o ∷ os) d = reply_list (receive_octets d (out_octets o)).reply ++ exchange_says os (receive_octets d (out_octets o)).day

-- between two turns: both days, and what the far end said after its last tick
pub record Ends : Type 0 where
  pub exchange : Day
  pub far : FarDay
  pub pending : List Outgoing

-- the far end after the messages of the exchange's tick, and after its own
abbrev pub far_after_calls : Ends → FarDay
far_after_calls e = far_heard (tick e.exchange).sent e.far

abbrev pub far_turned : Ends → FarDay
far_turned e = (far_tick (far_after_calls e)).day

-- what comes to the exchange in a turn
abbrev pub received_in : Ends → List Outgoing
received_in e = e.pending ++ (far_says (tick e.exchange).sent e.far ++ (far_tick (far_after_calls e)).sent)

abbrev pub octets_received : Ends → List (List ℕ)
octets_received e = map (λ o. out_octets o) (received_in e)

-- and what it says to that
abbrev pub replies_in : Ends → List Outgoing
replies_in e = exchange_says (received_in e) (tick e.exchange).day

abbrev pub ends_after : Ends → Ends
ends_after e = record {
  exchange = heard_in (octets_received e) (tick e.exchange).day;
  far = far_heard (replies_in e) (far_turned e);
  pending = far_says (replies_in e) (far_turned e);
}

-- what comes in so many turns
abbrev pub turns_from : ℕ → Ends → List LiveSecond
turns_from zero e = []
turns_from (suc n) e = Linked (octets_received e) ∷ turns_from n (ends_after e)

abbrev pub ends_opening : List Row → List (Option ℕ) → List ScriptRow → Ends
ends_opening rows assigned script = record { exchange = opening rows assigned; far = far_opening script; pending = [] }

-- a script that answers each call at once, and calls nobody; the empty one is one
abbrev pub IsFollows : ScriptRow → Type 0
IsFollows (Follows number policy) = policy ≡ Answer 0
IsFollows (Calls number moment channel) = ⊥

abbrev pub AnswersAtOnce : List ScriptRow → Type 0
AnswersAtOnce script = AllByRecursion IsFollows script

-- ---- the law: such a far end answers by its messages in each turn
abbrev pub FarAnswers : Type 0
FarAnswers =
    (rows : List Row) (channels : List Bool) (assigned : List (Option ℕ)) (script : List ScriptRow) (turns : ℕ)
    → AreBookings rows → IsChannelSet channels → Carries rows channels (is_accepted assigned) (channel_at assigned) → AnswersAtOnce script → turns ≤ LAST_MOMENT
    → AnswersAll (turns_from turns (ends_opening rows assigned script)) (opening rows assigned)
