-- A message that was sent comes as its parts: what the codec reads of its octets is what was meant.
use Rattle.bx_events.specs.declared.rules.Rules.TheVariants.{Three}
use Rattle.std.proofs.Common.{◌≡◌, ◌∙◌, ℕ, ◌==◌, ◌≤◌, ◌&&◌, not, Bool, true, false, Option, Some, None, option_map, refl, ap, arith, if◌then◌else◌}
use Rattle.std.specs.Option.{IfSome}
use Rattle.std.proofs.lemmas.Bool.{ne_eqb}
use Rattle.bx_channels.specs.ChannelNumbers.{IsChannel}
use Rattle.bx_channels.specs.Numbers.{IsNumber}
use Rattle.bx_q931.specs.Outgoing.{Outgoing, IsOutgoing, out_octets, message_of, bearer_contents}
use Rattle.bx_q931.specs.Parts.{HasParts, channel_part}
use Rattle.bx_q931.specs.Restarts.{acknowledgement_at, acknowledgement_read, restart_answered}
use Rattle.bx_q931.specs.Values.{cause_of, state_of, first_of, called_of}
use Rattle.bx_q931.specs.declared.channel_field.ChannelField.{ChannelField}
use Rattle.bx_q931.specs.declared.kind.Kind.{Kind}
use Rattle.bx_q931.proofs.PartsLemmas.{written_again, has_parts}
use Rattle.bx_calls.specs.Said.{Said, said_of}
use Rattle.bx_calls.specs.Setups.{bearer_fault_in}
use Rattle.bx_day.specs.Day.{Day}
use Rattle.bx_day.specs.Receipts.{receive}
use Rattle.bx_calls.specs.Sending.{unchanged}
use Rattle.bx_day.specs.Run.{receive_octets, receive_read}
use Rattle.bx_far.specs.FarDay.{FarDay, far_receive}
use Rattle.bx_far.specs.FarRun.{far_receive_octets, far_receive_read}

-- what can be sent
pub record Sendable (o : Outgoing) : Type 0 where
  pub out : IsOutgoing o
  pub channel : IfSome o.channel (λ c. IsChannel c.0)
  pub called : IfSome o.called IsNumber

abbrev pub said_by : ℕ → Bool → Kind → ChannelField → Option ℕ → Option ℕ → Option ℕ → Said
said_by r f k c z s x = record { reference = r; flag = f; heard = record { kind = k; channel = c; cause = z; state = s; rules = Three }; refused = x }

-- what is heard of a message that was sent
abbrev pub said_from : Outgoing → Said
said_from o = said_by o.reference o.flag o.kind (channel_part o.channel) (option_map (λ c. c.1) o.cause) o.state (if o.bearer then None else Some 96)

bearer_again : (b : Bool) → bearer_fault_in (if b then Some bearer_contents else None) ≡ (if b then None else Some 96)
bearer_again true = refl
bearer_again false = refl

pub heard_again : (o : Outgoing) → HasParts (message_of o) o → said_of o.reference o.flag (message_of o) ≡ said_from o
heard_again o p =
    let m = message_of o in
    ap (λ c. said_by o.reference o.flag o.kind c (cause_of m) (state_of m) (bearer_fault_in (first_of 0x04 m))) p.channel
    ∙ ap (λ z. said_by o.reference o.flag o.kind (channel_part o.channel) z (state_of m) (bearer_fault_in (first_of 0x04 m))) p.cause
    ∙ ap (λ x. said_by o.reference o.flag o.kind (channel_part o.channel) (option_map (λ c. c.1) o.cause) x (bearer_fault_in (first_of 0x04 m))) p.state
    ∙ ap (λ x. said_by o.reference o.flag o.kind (channel_part o.channel) (option_map (λ c. c.1) o.cause) o.state x) (ap bearer_fault_in p.bearer ∙ bearer_again o.bearer)

pub not_zero : (n : ℕ) → 1 ≤ n → (n == 0) ≡ false
not_zero n h = ne_eqb n 0 (λ e. absurd (omega (arith, e, h)))

-- it is no RESTART, which has the global reference
pub never_acknowledged : (o : Outgoing) → Sendable o → acknowledgement_at (out_octets o) ≡ None
never_acknowledged o h =
    ap acknowledgement_read (written_again o h.out h.called)
    ∙ ap (λ (b : Bool). restart_answered (b && not o.flag) (message_of o)) (not_zero o.reference h.out.reference.0)

pub receive_sent : (d : Day) (o : Outgoing) → Sendable o → receive_octets d (out_octets o) ≡ receive d (said_from o)
receive_sent d o h =
    ap (receive_read Three d) (written_again o h.out h.called)
    ∙ ap (λ (b : Bool). if b then unchanged d None else receive d (said_of o.reference o.flag (message_of o))) (not_zero o.reference h.out.reference.0)
    ∙ ap (receive d) (heard_again o (has_parts o h.out h.channel h.called))

pub far_receive_sent : (d : FarDay) (o : Outgoing) → Sendable o → far_receive_octets d (out_octets o) ≡ far_receive d (said_from o) o.called
far_receive_sent d o h =
    let p = has_parts o h.out h.channel h.called in
    ap (far_receive_read d) (written_again o h.out h.called)
    ∙ ap (λ (b : Bool). if b then unchanged d None else far_receive d (said_of o.reference o.flag (message_of o)) (called_of (message_of o))) (not_zero o.reference h.out.reference.0)
    ∙ ap (λ x. far_receive d x (called_of (message_of o))) (heard_again o p)
    ∙ ap (far_receive d (said_from o)) p.called
