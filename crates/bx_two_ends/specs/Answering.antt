-- A far end that answers, by its messages: each SETUP that waits by CONNECT, each DISCONNECT and RELEASE that waits by RELEASE or
-- RELEASE COMPLETE, each STATUS ENQUIRY after an outage by any message of its call, all before the next tick; and it clears no
-- other call. It may call as it likes.
use Rattle.std.specs.Prelude.{◌≡◌, ℕ, ◌==◌, ◌&&◌, ◌||◌, not, Bool, true, false, List, [], ◌∷◌, Option, Some, None, Result, Ok, Err, if◌then◌else◌}
use Rattle.std.specs.List.{list_any}
use Rattle.bx_q931.specs.Messages.{PlainMessage, message_at}
use Rattle.bx_q931.specs.declared.fault.MessageFault.{MessageFault}
use Rattle.bx_q931.specs.declared.kind.Kind.{Kind}
use Rattle.bx_q931.specs.declared.kind.Kind.TheVariants.{Alerting, CallProceeding, Connect, Disconnect, Release, ReleaseComplete, Status}
use Rattle.bx_q931.specs.declared.reference.Reference.{Reference}
use Rattle.bx_q931.specs.declared.reference.Reference.TheVariants.{Dummy, Value}
use Rattle.bx_calls.specs.Hearing.{Heard, names_channel, reports_null}
use Rattle.bx_calls.specs.NetTable.{net_is_clearing, net_is_contradicted}
use Rattle.bx_calls.specs.Said.{Said, said_of}
use Rattle.bx_calls.specs.declared.net_state.NetState.{NetState}
use Rattle.bx_calls.specs.declared.net_state.NetState.TheVariants.{CallPresent, IncomingCallProceeding, CallReceived}
use Rattle.bx_two_ends.specs.Asking.{is_asked}
use Rattle.bx_day.specs.Day.{Day, entry_at}
use Rattle.bx_two_ends.specs.Earning.{LiveSecond, Linked, Unlinked, heard_in, is_going}
use Rattle.bx_day.specs.Outages.{without_link}
use Rattle.bx_day.specs.Law.{standing_at}
use Rattle.bx_day.specs.Receipts.{names}
use Rattle.bx_day.specs.Run.{receive_octets}
use Rattle.bx_day.specs.Ticks.{tick}
use Rattle.bx_day.specs.declared.entry.Entry.{Entry}
use Rattle.bx_day.specs.declared.entry.Standing.{Standing}
use Rattle.bx_day.specs.declared.entry.Standing.TheVariants.{OnCall}

-- ---- what is said in octets, if they are a message with a call reference

abbrev pub said_by : PlainMessage → Reference → Option Said
said_by m Dummy = None
said_by m (Value value flag) = if value == 0 then None else Some (said_of value flag m)

abbrev pub said_read : Result PlainMessage MessageFault → Option Said
said_read (Err fault) = None
said_read (Ok m) = said_by m m.reference

abbrev pub said_in_octets : List ℕ → Option Said
said_in_octets octets = said_read (message_at octets)

-- whether this is said to the call of a booking, and passes a test
abbrev pub tells : (Heard → Bool) → Entry → Option Said → Bool
tells test e None = false
tells test e (Some m) = names m e && test m.heard

-- whether one of these is
abbrev pub is_told : (Heard → Bool) → Entry → List (List ℕ) → Bool
is_told test e received = list_any (λ octets. tells test e (said_in_octets octets)) received

-- ---- kinds of answers

abbrev pub is_connect : Kind → Bool
is_connect Connect = true
is_connect _ = false

abbrev pub is_release : Kind → Bool
is_release Release = true
is_release ReleaseComplete = true
is_release _ = false

-- what clears a call on this channel, also an answer on another channel and a report of the Null state
abbrev pub clears_by : ℕ → Heard → Kind → Bool
clears_by channel m Disconnect = true
clears_by channel m Release = true
clears_by channel m ReleaseComplete = true
clears_by channel m Status = reports_null m.state
clears_by channel m CallProceeding = not (names_channel m.channel channel)
clears_by channel m Alerting = not (names_channel m.channel channel)
clears_by channel m Connect = not (names_channel m.channel channel)
clears_by channel m _ = false

-- ---- calls that wait for an answer

-- SETUP was sent, and no CONNECT has come
abbrev pub is_ringing_in : NetState → Bool
is_ringing_in (CallPresent again due) = true
is_ringing_in (IncomingCallProceeding due) = true
is_ringing_in (CallReceived due) = true
is_ringing_in _ = false

abbrev pub is_ringing : Standing → Bool
is_ringing (OnCall call activity) = is_ringing_in call.state
is_ringing _ = false

-- DISCONNECT or RELEASE was sent
abbrev pub is_clearing : Standing → Bool
is_clearing (OnCall call activity) = net_is_clearing call.state
is_clearing _ = false

-- STATUS ENQUIRY was sent after an outage, or is to be
abbrev pub is_enquired : Standing → Bool
is_enquired (OnCall call activity) = is_asked call.state
is_enquired _ = false

-- a report of a state that does not fit, where the call is asked for
abbrev pub contradicts : Standing → Heard → Bool
contradicts (OnCall call activity) m = net_is_contradicted call.state call.origin m m.kind
contradicts _ m = false

-- octets that clear no call which goes on
abbrev pub Spares : List ℕ → Day → Type 0
Spares octets d = (i : ℕ) → is_going (standing_at d i) ≡ true → tells (λ m. clears_by (entry_at d.entries i).channel m m.kind || contradicts (standing_at d i) m) (entry_at d.entries i) (said_in_octets octets) ≡ false

-- each of these, as they come
abbrev pub SparesAll : List (List ℕ) → Day → Type 0
SparesAll [] d = Unit {0}
SparesAll (octets ∷ rest) d = Spares octets d × SparesAll rest (receive_octets d octets).day

-- what comes in a turn, after the tick that leaves this day: each call that is being cleared is released, each that is asked for
-- is told something, and no other is cleared
pub record Clears (d : Day) (received : List (List ℕ)) : Type 0 where
  pub released : (i : ℕ) → is_clearing (standing_at d i) ≡ true → is_told (λ m. is_release m.kind) (entry_at d.entries i) received ≡ true
  pub awake : (i : ℕ) → is_enquired (standing_at d i) ≡ true → is_told (λ m. true) (entry_at d.entries i) received ≡ true
  pub spared : SparesAll received d

-- and each call that rings is connected
pub record Answers (d : Day) (received : List (List ℕ)) : Type 0 where
  pub clears : Clears d received
  pub connected : (i : ℕ) → is_ringing (standing_at d i) ≡ true → is_told (λ m. is_connect m.kind) (entry_at d.entries i) received ≡ true

-- in each turn of these seconds
abbrev pub EachHeard : (Day → List (List ℕ) → Type 0) → List LiveSecond → Day → Type 0
EachHeard P [] d = Unit {0}
EachHeard P (Unlinked ∷ ss) d = EachHeard P ss (without_link d)
EachHeard P (Linked received ∷ ss) d = P (tick d).day received × EachHeard P ss (heard_in received (tick d).day)

abbrev pub ClearsAll : List LiveSecond → Day → Type 0
ClearsAll seconds d = EachHeard Clears seconds d

abbrev pub AnswersAll : List LiveSecond → Day → Type 0
AnswersAll seconds d = EachHeard Answers seconds d
