-- What stays true of two ends, for calls that the far end began. Each part is of one element, as for calls that the
-- exchange began (Outward), with the ends exchanged. What the plan's channel is there is here the channel that the far
-- end's SETUPs of a reference name: `named` gives it for each reference that was given, and grows with each new call.
--
--   sents    a message of the far end for a call of its own has a reference that was given; a SETUP names the channel of
--            its reference;
--   calls    a call of its own has such a reference too, and is on its channel; it is not in U8, from which CONNECT
--            ACKNOWLEDGE leads to Active; while it is not being cleared the far end has sent nothing that clears it;
--            if it is Active, the exchange has sent CONNECT;
--   replies  a message of the exchange for such a call has a reference that was given; for each CONNECT of r the
--            exchange holds r on its channel, or has that in maintenance, or the far end has cleared r (`KeptInward`);
--   entries  a live inward call of the exchange has a reference that was given, and is on its channel; it is not in N6,
--            from which a tick ends a call and leaves nothing after.
--
-- That says the law, as there. Each event keeps it. The exchange takes a SETUP on the channel that it names and on no
-- other. At the far end two calls of its own with one reference would be on one channel, so there are none, and what
-- one of them says clears no other. A new call has a reference beyond all that were given, so nothing was said of it
-- yet. At the exchange a reference may be used for one call after another: a SETUP that comes again opens it on the
-- same channel.
use Rattle.std.proofs.Common.{◌≡◌, ℕ, ◌<◌, true, false, List, Some, length}
use Rattle.std.specs.List.{AllByRecursion, list_any}
use Rattle.bx_q931.specs.declared.kind.Kind.TheVariants.{Setup}
use Rattle.bx_q931.specs.Outgoing.{Outgoing}
use Rattle.bx_calls.specs.PlainCalls.{PlainNetCall, PlainUserCall}
use Rattle.bx_calls.specs.NetTable.{net_flag}
use Rattle.bx_calls.specs.UserTable.{user_flag}
use Rattle.bx_channels.specs.Marks.{is_marked}
use Rattle.bx_day.specs.Day.{Day}
use Rattle.bx_day.specs.declared.entry.Entry.{Entry}
use Rattle.bx_day.specs.declared.entry.Standing.{Standing}
use Rattle.bx_day.specs.declared.entry.Standing.TheVariants.{OnCall}
use Rattle.bx_two_ends.specs.World.{World}
use Rattle.bx_two_ends.specs.TwoEndsInward.{exchange_holds, is_connect_kind, connects}
use Rattle.bx_two_ends.proofs.UserRows.{is_talking}
use Rattle.bx_two_ends.proofs.InwardRows.{is_presented, is_user_clearing, is_answering}
use Rattle.bx_two_ends.proofs.History.{clears}

-- a message of the far end for a call of its own; next is the reference of its next call
pub record InwardSent (named : ℕ → ℕ) (next : ℕ) (o : Outgoing) : Type 0 where
  pub given : o.reference < next
  pub channel : o.kind ≡ Setup → o.channel ≡ Some (named o.reference, true)

abbrev pub InwardSents : (ℕ → ℕ) → ℕ → List Outgoing → Type 0
InwardSents named next os = AllByRecursion (λ (o : Outgoing). o.flag ≡ false → InwardSent named next o) os

-- a live call of its own
pub record InwardCall (named : ℕ → ℕ) (next : ℕ) (sent far_sent : List Outgoing) (c : PlainUserCall) : Type 0 where
  pub given : c.reference < next
  pub channel : c.channel ≡ named c.reference
  pub began : is_answering c.state ≡ false
  pub calm : is_user_clearing c.state ≡ false → list_any (clears c.reference) far_sent ≡ false
  pub active : is_talking c.state ≡ true → list_any (connects c.reference) sent ≡ true

abbrev pub InwardCalls : (ℕ → ℕ) → ℕ → List Outgoing → List Outgoing → List PlainUserCall → Type 0
InwardCalls named next sent far_sent cs = AllByRecursion (λ (c : PlainUserCall). user_flag c.origin ≡ false → InwardCall named next sent far_sent c) cs

-- the exchange holds it on its channel, or has that in maintenance, or the far end cleared it
pub data KeptInward (named : ℕ → ℕ) (far_sent : List Outgoing) (d : Day) (r : ℕ) : Type 0 where
  Holds : exchange_holds d.entries r (named r) ≡ true → KeptInward named far_sent d r
  Maintained : is_marked d.maintenance (named r) ≡ true → KeptInward named far_sent d r
  Cleared : list_any (clears r) far_sent ≡ true → KeptInward named far_sent d r

-- a message of the exchange for a call that the far end began
pub record InwardReply (named : ℕ → ℕ) (next : ℕ) (far_sent : List Outgoing) (d : Day) (o : Outgoing) : Type 0 where
  pub given : o.reference < next
  pub kept : is_connect_kind o.kind ≡ true → KeptInward named far_sent d o.reference

abbrev pub InwardReplies : (ℕ → ℕ) → ℕ → List Outgoing → Day → List Outgoing → Type 0
InwardReplies named next far_sent d os = AllByRecursion (λ (o : Outgoing). o.flag ≡ true → InwardReply named next far_sent d o) os

-- a live call of the exchange that the far end began
pub record TakenCall (named : ℕ → ℕ) (next : ℕ) (c : PlainNetCall) : Type 0 where
  pub given : c.reference < next
  pub channel : c.channel ≡ named c.reference
  pub taken : is_presented c.state ≡ false

abbrev pub TakenStanding : (ℕ → ℕ) → ℕ → Standing → Type 0
TakenStanding named next (OnCall call activity) = net_flag call.origin ≡ true → TakenCall named next call
TakenStanding named next _ = Unit {0}

abbrev pub TakenEntries : (ℕ → ℕ) → ℕ → List Entry → Type 0
TakenEntries named next es = AllByRecursion (λ (e : Entry). TakenStanding named next e.standing) es

pub record KeepsInward (w : World) : Type 0 where
  pub named : ℕ → ℕ
  pub sents : InwardSents named w.far.next w.far_sent
  pub calls : InwardCalls named w.far.next w.sent w.far_sent w.far.calls
  pub replies : InwardReplies named w.far.next w.far_sent w.exchange w.sent
  pub entries : TakenEntries named w.far.next w.exchange.entries
  pub size : length w.exchange.maintenance ≡ 32
