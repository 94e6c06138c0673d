-- The messages that the call tables send, by their parts.
use Rattle.std.specs.Prelude.{ℕ, ◌%◌, Bool, true, false, List, Option, Some, None}
use Rattle.bx_q931.specs.Outgoing.{Outgoing, plain}
use Rattle.bx_q931.specs.declared.kind.Kind.TheVariants.{Setup, Status}
use Rattle.bx_calls.specs.declared.call_state.CallState.{CallState}
use Rattle.bx_calls.specs.States.{state_value}

-- who gives a cause (ITU-T Q.931, 4.5.12): the public network that serves the local user, or the user
abbrev pub network : ℕ
network = 2

abbrev pub user : ℕ
user = 0

-- with a cause, which has 7 bits
abbrev pub with_cause : ℕ → ℕ → Outgoing → Outgoing
with_cause location cause o = record o { cause = Some (location, cause % 128) }

-- with a cause, or with none
abbrev pub with_kept_cause : ℕ → Option ℕ → Outgoing → Outgoing
with_kept_cause location None o = o
with_kept_cause location (Some cause) o = with_cause location cause o

-- with an exclusive channel: no other will do
abbrev pub with_channel : ℕ → Outgoing → Outgoing
with_channel channel o = record o { channel = Some (channel, true) }

-- STATUS with a cause and a call state, which has 6 bits
abbrev pub status_of : ℕ → Bool → ℕ → ℕ → CallState → Outgoing
status_of reference flag location cause state =
    record (with_cause location cause (plain reference flag Status)) { state = Some (state_value state % 64) }

-- SETUP of a call by the side that begins it
abbrev pub setup_of : ℕ → ℕ → List ℕ → Outgoing
setup_of reference channel number =
    record (with_channel channel (plain reference false Setup)) { sending_complete = true; bearer = true; called = Some number }
