-- Messages that name no live call (ITU-T Q.931, 5.8.3.2): one line for a row, and the first row that fits
-- counts.
use Rattle.std.specs.Prelude.{ℕ, ◌==◌, Bool, Option, Some, None, not, if◌then◌else◌}
use Rattle.bx_q931.specs.Messages.{PlainMessage}
use Rattle.bx_q931.specs.Outgoing.{Outgoing, plain}
use Rattle.bx_q931.specs.declared.kind.Kind.{Kind}
use Rattle.bx_q931.specs.declared.kind.Kind.TheVariants.{Setup, ReleaseComplete, StatusEnquiry, Status}
use Rattle.bx_q931.specs.declared.reference.Reference.{Reference}
use Rattle.bx_q931.specs.declared.reference.Reference.TheVariants.{Dummy, Value}
use Rattle.bx_calls.specs.declared.call_state.CallState.TheVariants as call
use Rattle.bx_calls.specs.declared.unknown_reference.Side.{Side}
use Rattle.bx_calls.specs.declared.unknown_reference.Side.TheVariants.{Network, User}
use Rattle.bx_calls.specs.Hearing.{Heard, heard_of}
use Rattle.bx_calls.specs.Saying.{network, user, with_cause, status_of}

-- who gives the cause at an end
abbrev pub location_of : Side → ℕ
location_of Network = network
location_of User = user

-- RELEASE COMPLETE with a cause
abbrev pub refusal_of : Side → ℕ → Bool → ℕ → Outgoing
refusal_of end reference flag cause = with_cause (location_of end) cause (plain reference flag ReleaseComplete)

-- STATUS: by the call state that it reports
abbrev pub unknown_status : Side → ℕ → Bool → Option ℕ → Option Outgoing
unknown_status end reference flag None = None
unknown_status end reference flag (Some state) = if state == 0 then None else Some (refusal_of end reference flag 101)

-- what is sent with this reference and flag. A SETUP is answered by whoever may take it.
abbrev pub unknown_row : Side → ℕ → Bool → Heard → Kind → Option Outgoing
unknown_row end reference flag m ReleaseComplete = None
unknown_row end reference flag m Status = unknown_status end reference flag m.state
unknown_row end reference flag m Setup = None
unknown_row end reference flag m StatusEnquiry = Some (status_of reference flag (location_of end) 30 call.Null)
unknown_row end reference flag m _ = Some (refusal_of end reference flag 81)

-- the reply has the same value with the other flag; the dummy and the global reference are ignored (profile)
abbrev pub unknown_to : Side → Heard → Reference → Option Outgoing
unknown_to end m Dummy = None
unknown_to end m (Value value flag) = if value == 0 then None else unknown_row end value (not flag) m m.kind

abbrev pub unknown_answer : Side → PlainMessage → Option Outgoing
unknown_answer end m = unknown_to end (heard_of m) m.reference
