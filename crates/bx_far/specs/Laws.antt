-- What the laws of a live line's far end say.
use Rattle.std.specs.Prelude.{◌≡◌, ℕ, ◌+◌, Bool, true, false, List, Option, Some, None}
use Rattle.bx_q931.specs.Outgoing.{plain}
use Rattle.bx_q931.specs.declared.channel_field.ChannelField.TheVariants.{Named}
use Rattle.bx_q931.specs.declared.kind.Kind.TheVariants.{Setup, Connect}
use Rattle.bx_calls.specs.Said.{Said}
use Rattle.bx_calls.specs.Saying.{with_channel}
use Rattle.bx_calls.specs.Sending.{Answered}
use Rattle.bx_calls.specs.Timers.{t313}
use Rattle.bx_calls.specs.declared.user_state.Policy.TheVariants.{Answer}
use Rattle.bx_calls.specs.declared.user_state.UserOrigin.TheVariants.{Offered}
use Rattle.bx_calls.specs.declared.user_state.UserState.TheVariants.{ConnectRequest}
use Rattle.bx_far.specs.FarDay.{FarDay, first_call, far_names, far_receive, insert_call, is_taken}
use Rattle.bx_far.specs.LiveReceipts.{far_receive_live}
use Rattle.bx_far.specs.Policies.{policy_of}

-- a SETUP of the exchange that names no live call and is not refused, on a channel that is neither held nor in maintenance, of a number
-- that the script answers after 0 seconds
pub record IsPromptSetup (d : FarDay) (m : Said) (called : Option (List ℕ)) (c : ℕ) : Type 0 where
  pub kind : m.heard.kind ≡ Setup
  pub flag : m.flag ≡ false
  pub first : first_call (far_names m) d.calls ≡ None
  pub bearer : m.refused ≡ None
  pub exclusive : Bool
  pub channel : m.heard.channel ≡ Named c exclusive
  pub free : is_taken d c ≡ false
  pub policy : policy_of d.script called ≡ Answer 0

-- its call is in U8 with T313 from the present moment, and CONNECT with the channel is sent
abbrev pub answered_now : FarDay → Said → ℕ → Answered FarDay
answered_now d m c = record {
  day = record d {
    calls = insert_call (record {
      reference = m.reference;
      channel = c;
      origin = Offered (Answer 0) d.moment;
      state = ConnectRequest (d.moment + t313);
    }) d.calls;
  };
  reply = Some (with_channel c (plain m.reference true Connect));
}

-- on a live line such a SETUP is answered at once
abbrev pub IsAnsweredAtOnce : Type 0
IsAnsweredAtOnce =
    (d : FarDay) (m : Said) (called : Option (List ℕ)) (c : ℕ) →
    IsPromptSetup d m called c →
    far_receive_live d m called ≡ answered_now d m c

-- and with any other message what is done in a rehearsal is done
abbrev pub IsElseAsRehearsed : Type 0
IsElseAsRehearsed =
    (d : FarDay) (m : Said) (called : Option (List ℕ)) →
    ((c : ℕ) → IsPromptSetup d m called c → ⊥) →
    far_receive_live d m called ≡ far_receive d m called
