-- The moment of a day: a second raises it by one, and a message leaves it.
use Rattle.std.proofs.Common.{◌≡◌, ℕ, List, [], ◌+◌, ◌<◌, ◌==◌, nat_le, Bool, true, false, if◌then◌else◌, refl, ap, ◌∙◌, arith, Option, Some, None, Result, Ok, Err}
use Rattle.std.specs.List.{position}
use Rattle.std.proofs.lemmas.Bool.Decides.{nat_tests}
use Rattle.bx_q931.specs.Messages.{PlainMessage, message_at}
use Rattle.bx_q931.specs.declared.channel_field.ChannelField.{ChannelField}
use Rattle.bx_q931.specs.declared.channel_field.ChannelField.TheVariants.{Named, Unread}
use Rattle.bx_q931.specs.declared.fault.MessageFault.{MessageFault}
use Rattle.bx_q931.specs.declared.kind.Kind.{Kind}
use Rattle.bx_q931.specs.declared.kind.Kind.TheVariants as kinds
use Rattle.bx_q931.specs.declared.reference.Reference.{Reference}
use Rattle.bx_q931.specs.declared.reference.Reference.TheVariants.{Dummy, Value}
use Rattle.bx_events.specs.Events.{Tick, Receive}
use Rattle.bx_calls.specs.Said.{Said, said_of}
use Rattle.bx_events.specs.declared.rules.Rules.TheVariants.{Three}
use Rattle.bx_calls.specs.Sending.{Sent, Answered, unchanged}
use Rattle.bx_day.specs.Day.{Day, every_channel}
use Rattle.bx_day.specs.Ticks.{ticked}
use Rattle.bx_day.specs.Receipts.{opens, names, lowest_open, takes_or, takes_preferred, called_on, called, stray, received_at, receive}
use Rattle.bx_day.specs.Run.{receive_from, receive_read, receive_octets}
use Rattle.bx_day.specs.Course.{exchange_next}

abbrev Stays : Day → Answered Day → Type 0
Stays d answered = answered.day.moment ≡ d.moment

module _ (d : Day) (m : Said) where
  taken_stays : (cause : ℕ) (o : Option ℕ) → Stays d (takes_or d m cause o)
  taken_stays cause None = refl
  taken_stays cause (Some i) = refl

  preferred_stays : (o : Option ℕ) → Stays d (takes_preferred d m o)
  preferred_stays None = taken_stays 34 (lowest_open d every_channel)
  preferred_stays (Some i) = refl

  called_on_stays : (field : ChannelField) → Stays d (called_on d m field)
  called_on_stays Unread = refl
  called_on_stays (Named c true) = taken_stays 44 (position (opens d c) d.entries)
  called_on_stays (Named c false) = preferred_stays (position (opens d c) d.entries)
  called_on_stays field = taken_stays 34 (lowest_open d every_channel)

  called_stays : (cause : Option ℕ) → Stays d (called d m cause)
  called_stays (Some cause) = refl
  called_stays None = called_on_stays m.heard.channel

  setup_stays : (b : Bool) → Stays d (if b then unchanged d None else called d m m.refused)
  setup_stays true = refl
  setup_stays false = called_stays m.refused

  stray_stays : (kind : Kind) → Stays d (stray d m kind)
  stray_stays kinds.Setup = setup_stays m.flag
  stray_stays kind = refl

  received_stays : (o : Option ℕ) → Stays d (received_at d m o)
  received_stays None = stray_stays m.heard.kind
  received_stays (Some i) = refl

receive_stays : (d : Day) (octets : List ℕ) → Stays d (receive_octets d octets)
receive_stays d octets = by_read (message_at octets) where
  by_value : (m : PlainMessage) (value : ℕ) (flag b : Bool) → Stays d (if b then unchanged d None else receive d (said_of value flag m))
  by_value m value flag true = refl
  by_value m value flag false = received_stays d (said_of value flag m) (position (names (said_of value flag m)) d.entries)

  by_reference : (m : PlainMessage) (reference : Reference) → Stays d (receive_from Three d m reference)
  by_reference m Dummy = refl
  by_reference m (Value value flag) = by_value m value flag (value == 0)

  by_read : (read : Result PlainMessage MessageFault) → Stays d (receive_read Three d read)
  by_read (Err fault) = refl
  by_read (Ok m) = by_reference m m.reference

pub hearing_stays : (d d1 : Day) (octets : List ℕ) → d1 ≡ exchange_next d (Receive octets) → d1.moment ≡ d.moment
hearing_stays d d1 octets e = ap (λ (x : Day). x.moment) e ∙ receive_stays d octets

tick_moves : (d : Day) (b : Bool) → b ≡ false → (let s : Sent Day = if b then record { day = d; sent = [] } else ticked d in s).day.moment ≡ d.moment + 1
tick_moves d true e = cc
tick_moves d false e = refl

pub tick_rises : (d d1 : Day) → d1 ≡ exchange_next d Tick → d.moment < 300000 → d1.moment ≡ d.moment + 1
tick_rises d d1 e early = let t : nat_le 300000 d.moment ≡ false = grind (arith, nat_tests, early) in ap (λ (x : Day). x.moment) e ∙ tick_moves d (nat_le 300000 d.moment) t
