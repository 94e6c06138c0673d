-- The moment of a far end's day: a tick raises it by one up to 300,000, and a message leaves it.
use Rattle.std.proofs.Common.{◌≡◌, ℕ, ◌+◌, ◌≤◌, ◌<◌, ◌==◌, min, nat_le, Bool, true, false, List, [], ◌∷◌, if◌then◌else◌, refl, ap, ◌∙◌, arith, Option, Some, None, Result, Ok, Err}
use Rattle.std.proofs.lemmas.Bool.Decides.{nat_tests}
use Rattle.bx_q931.specs.Messages.{PlainMessage, message_at}
use Rattle.bx_q931.specs.Values.{called_of}
use Rattle.bx_q931.specs.declared.channel_field.ChannelField.{ChannelField}
use Rattle.bx_q931.specs.declared.channel_field.ChannelField.TheVariants.{Absent, Named, AnyChannel, Unread}
use Rattle.bx_q931.specs.declared.fault.MessageFault.{MessageFault}
use Rattle.bx_q931.specs.declared.kind.Kind.{Kind}
use Rattle.bx_q931.specs.declared.kind.Kind.TheVariants as kinds
use Rattle.bx_q931.specs.declared.reference.Reference.{Reference}
use Rattle.bx_q931.specs.declared.reference.Reference.TheVariants.{Dummy, Value}
use Rattle.bx_calls.specs.PlainCalls.{PlainUserCall}
use Rattle.bx_calls.specs.Said.{Said, said_of}
use Rattle.bx_calls.specs.declared.user_state.Policy.{Policy}
use Rattle.bx_calls.specs.declared.user_state.Policy.TheVariants as policies
use Rattle.bx_events.specs.Events.{Event, Tick, Receive}
use Rattle.bx_far.specs.FarDay.{FarDay, far_tick, far_ticked, far_refuses, far_takes, far_called_on, far_called, far_stray, far_received_by, far_receive, is_taken, first_call, far_names}
use Rattle.bx_calls.specs.Sending.{Sent, Answered, unchanged}
use Rattle.bx_far.specs.FarRun.{far_receive_from, far_receive_read, far_receive_octets}
use Rattle.bx_far.specs.LiveReceipts.{is_at_once, far_ticks_now, far_received_live, far_receive_live, far_receive_live_from, far_receive_live_read, far_receive_live_octets}
use Rattle.bx_far.specs.Policies.{policy_of}
use Rattle.bx_devices.specs.declared.watched.Watched.{Watched}
use Rattle.bx_link.specs.Days.{FarTalks, EndsFarDay, RunsFarDay}
use Rattle.bx_frames.specs.Courses.{after, ticks_of}
use Rattle.bx_far.specs.Course.{far_next}
use Rattle.bx_frames.specs.declared.fault.LinkFault.{LinkFault}

-- the moment stays
abbrev Stays : FarDay → Answered FarDay → Type 0
Stays d answered = answered.day.moment ≡ d.moment

module _ (d : FarDay) (m : Said) (called : Option (List ℕ)) where
  takes_stays : (c : ℕ) (policy : Policy) → Stays d (far_takes d m c policy)
  takes_stays c policies.Silent = refl
  takes_stays c policies.Busy = refl
  takes_stays c policy = refl

  named_stays : (c : ℕ) (b : Bool) → Stays d (if b then far_refuses d m 44 else far_takes d m c (policy_of d.script called))
  named_stays c true = refl
  named_stays c false = takes_stays c (policy_of d.script called)

  called_on_stays : (field : ChannelField) → Stays d (far_called_on d m called field)
  called_on_stays Absent = refl
  called_on_stays AnyChannel = refl
  called_on_stays Unread = refl
  called_on_stays (Named c exclusive) = named_stays c (is_taken d c)

  called_stays : (cause : Option ℕ) → Stays d (far_called d m called cause)
  called_stays (Some cause) = refl
  called_stays None = called_on_stays m.heard.channel

  setup_stays : (b : Bool) → Stays d (if b then unchanged d None else far_called d m called m.refused)
  setup_stays true = refl
  setup_stays false = called_stays m.refused

  stray_stays : (kind : Kind) → Stays d (far_stray d m called kind)
  stray_stays kinds.Setup = setup_stays m.flag
  stray_stays kind = refl

  by_call : (call : Option PlainUserCall) → Stays d (far_received_by d m called call)
  by_call None = stray_stays m.heard.kind
  by_call (Some call) = refl

receive_stays : (d : FarDay) (octets : List ℕ) → Stays d (far_receive_octets d octets)
receive_stays d octets = by_read (message_at octets) where
  by_value : (m : PlainMessage) (value : ℕ) (flag b : Bool) → Stays d (if b then unchanged d None else far_receive d (said_of value flag m) (called_of m))
  by_value m value flag true = refl
  by_value m value flag false = by_call d (said_of value flag m) (called_of m) (first_call (far_names (said_of value flag m)) d.calls)

  by_reference : (m : PlainMessage) (reference : Reference) → Stays d (far_receive_from d m reference)
  by_reference m Dummy = refl
  by_reference m (Value value flag) = by_value m value flag (value == 0)

  by_read : (read : Result PlainMessage MessageFault) → Stays d (far_receive_read d read)
  by_read (Err fault) = refl
  by_read (Ok m) = by_reference m m.reference

-- on a live line too
module _ (d : FarDay) (m : Said) (called : Option (List ℕ)) where
  ticks_stay : (done : Answered FarDay) → Stays d done → (call : Option PlainUserCall) → Stays d (far_ticks_now done call)
  ticks_stay done stays None = stays
  ticks_stay done stays (Some call) = stays

  offered_stays : (done : Answered FarDay) → Stays d done → (b : Bool) → Stays d (if b then far_ticks_now done (first_call (far_names m) done.day.calls) else done)
  offered_stays done stays true = ticks_stay done stays (first_call (far_names m) done.day.calls)
  offered_stays done stays false = stays

  live_by_call : (call : Option PlainUserCall) → Stays d (far_received_live d m called call)
  live_by_call None = offered_stays (far_stray d m called m.heard.kind) (stray_stays d m called m.heard.kind) (is_at_once (policy_of d.script called))
  live_by_call (Some call) = refl

pub live_stays : (d : FarDay) (octets : List ℕ) → Stays d (far_receive_live_octets d octets)
live_stays d octets = by_read (message_at octets) where
  by_value : (m : PlainMessage) (value : ℕ) (flag b : Bool) → Stays d (if b then unchanged d None else far_receive_live d (said_of value flag m) (called_of m))
  by_value m value flag true = refl
  by_value m value flag false = live_by_call d (said_of value flag m) (called_of m) (first_call (far_names (said_of value flag m)) d.calls)

  by_reference : (m : PlainMessage) (reference : Reference) → Stays d (far_receive_live_from d m reference)
  by_reference m Dummy = refl
  by_reference m (Value value flag) = by_value m value flag (value == 0)

  by_read : (read : Result PlainMessage MessageFault) → Stays d (far_receive_live_read d read)
  by_read (Err fault) = refl
  by_read (Ok m) = by_reference m m.reference

tick_moves : (d : FarDay) → d.moment ≤ 300000 → (far_tick d).day.moment ≡ min (d.moment + 1) 300000
tick_moves d within = by_test (nat_le 300000 d.moment) refl where
  by_test : (b : Bool) → nat_le 300000 d.moment ≡ b → (let s : Sent FarDay = if b then record { day = d; sent = [] } else far_ticked d in s).day.moment ≡ min (d.moment + 1) 300000
  by_test true e = let last : 300000 ≤ d.moment = grind (arith, nat_tests) in omega (arith, last, within)
  by_test false e = let more : d.moment < 300000 = grind (arith, nat_tests) in omega (arith, more)

-- the moment after events tells how many of them were ticks
far_moment : (events : List Event) (d : FarDay) → d.moment ≤ 300000 → (after far_next events d).moment ≡ min (d.moment + ticks_of events) 300000
far_moment [] d within = omega (arith, within)
far_moment (Tick ∷ events) d within =
    let moved = tick_moves d within in
    let rest = far_moment events (far_tick d).day (omega (arith, moved)) in
    omega (arith, rest, moved)
far_moment (Receive octets ∷ events) d within =
    let same = receive_stays d octets in
    let rest = far_moment events (far_receive_octets d octets).day (omega (arith, same, within)) in
    omega (arith, rest, same)

pub moment_of : (events : List Event) (d d1 : FarDay) → d1 ≡ after far_next events d → d.moment ≤ 300000 → d1.moment ≡ min (d.moment + ticks_of events) 300000
moment_of events d d1 e within = ap (λ (x : FarDay). x.moment) e ∙ far_moment events d within

abbrev pub runs_so : {R W : Type 0} {remaining : R → Option (List ℕ)} {contents : W → Option (List ℕ)} {r r1 : Watched R} {w w1 : Watched W} {d d1 : FarDay} (result : Result (Unit {0}) LinkFault) (turns : ℕ) (ending : Result Bool LinkFault)
    → FarTalks remaining contents turns r r1 w w1 d d1 ending → EndsFarDay result turns ending → RunsFarDay remaining contents r r1 w w1 d d1 result
runs_so {d = d} {d1 = d1} result turns ending talks ends = record { turns = turns; ending = ending; talks = talks; moment = λ within. moment_of talks.events d d1 talks.goes.day within; ends = ends }
