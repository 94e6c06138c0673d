-- What stays true of two ends, for calls that the exchange began. Each part is of one element: a message that was sent, a
-- booking of the exchange, a call of the far end. With b a reference and "clears" for DISCONNECT, RELEASE, RELEASE
-- COMPLETE and a STATUS that reports Null, both with the flag of the end that says it:
--
--   sents      each message of the exchange has a SETUP of its reference in the exchange's list; each SETUP names the
--              channel of the plan, and its booking was offered (which no step takes back);
--   standings  a live outward call has such a SETUP; while it is not being cleared the exchange has sent nothing that
--              clears it; if it is Active, the far end has shown that it has connected, by CONNECT or by a
--              STATUS that reports U8 or U10; and it is not in N3, from which a tick leads to Active without that;
--   replies    each message of the far end has such a SETUP; for each that shows so of b the far end holds b on its channel,
--              or has that in maintenance, or the exchange has cleared b (`Kept`);
--   calls      a call of the far end that the exchange began has such a SETUP and is on the channel of the plan; it is
--              in neither U1 nor U3, which only the end that calls comes to; if it is Active, the exchange has
--              acknowledged.
--
-- That says the law: an Active b has such a message in the far end's list, so `Kept` holds of b, and the exchange has not cleared
-- b, since b is Active (Conclusions).
--
-- Each event keeps it. Lists only grow, so what asks for a message stays true of the end that does nothing. At the
-- exchange a step of b that leaves b uncleared says nothing that clears (NetworkRows), a call that was never offered has
-- said nothing at all, and no answer to a stranger names a live call. At the far end a call of the exchange's that ends
-- either leaves its channel in maintenance, or heard something that clears it, and that stands in the exchange's list,
-- or was in U1 (UserRows); what is said of it was said while it was held, so `Kept` held before the step and holds
-- after it. A SETUP that comes again opens the same reference on the same channel, since each SETUP names the plan's.
-- Beside these stand the day's own invariant, that channels of the far end's calls are within limits and distinct, and
-- that all that is sent is within the limits of a message, without which the codec does not give it back.
use Rattle.std.proofs.Common.{◌≡◌, ℕ, suc, ◌-◌, ◌≤◌, not, Bool, true, false, List, Option, Some, length}
use Rattle.std.specs.List.{AllByRecursion, list_any}
use Rattle.bx_channels.specs.ChannelNumbers.{IsChannel}
use Rattle.bx_channels.specs.Numbers.{IsNumber}
use Rattle.bx_base.specs.Bookings.{Row}
use Rattle.bx_base.specs.Plans.{channel_at}
use Rattle.bx_q931.specs.declared.kind.Kind.TheVariants.{Setup}
use Rattle.bx_q931.specs.Outgoing.{Outgoing}
use Rattle.bx_calls.specs.PlainCalls.{PlainNetCall, PlainUserCall}
use Rattle.bx_calls.specs.NetTable.{net_flag, net_is_clearing}
use Rattle.bx_calls.specs.UserTable.{user_flag}
use Rattle.bx_day.specs.declared.entry.Entry.{Entry}
use Rattle.bx_day.specs.declared.entry.Standing.{Standing}
use Rattle.bx_day.specs.declared.entry.Standing.TheVariants.{OnCall, Carried, Unanswered}
use Rattle.bx_channels.specs.Marks.{is_marked}
use Rattle.bx_day.specs.Day.{Day, entry_at}
use Rattle.bx_day.specs.Moves.{is_active}
use Rattle.bx_day.specs.Law.{standing_at}
use Rattle.bx_day.specs.Invariant.{is_refused}
use Rattle.bx_day.proofs.Law.{RunFits}
use Rattle.bx_far.specs.FarDay.{FarDay}
use Rattle.bx_two_ends.specs.World.{World}
use Rattle.bx_two_ends.specs.Scripts.{IsScriptRow}
use Rattle.bx_two_ends.specs.TwoEnds.{far_holds, acknowledges_call, AreOnTheirOwn}
use Rattle.bx_two_ends.proofs.NetworkRows.{is_proceeding, shows_connected}
use Rattle.bx_two_ends.proofs.UserRows.{is_talking, is_calling}
use Rattle.bx_two_ends.proofs.History.{sets_up, clears, shows}

abbrev pub is_started : Standing → Bool
is_started (OnCall call activity) = true
is_started (Carried from until) = true
is_started Unanswered = true
is_started _ = false

-- live, and not being cleared
abbrev pub is_calm : Standing → Bool
is_calm (OnCall call activity) = not (net_is_clearing call.state)
is_calm _ = false

-- where a booking of the plan stands: what no event changes
pub record Seat (assigned : List (Option ℕ)) (i : ℕ) (e : Entry) : Type 0 where
  pub reference : e.reference ≡ suc i
  pub few : i ≤ 15999
  pub channel : e.channel ≡ channel_at assigned i
  pub in_service : IsChannel e.channel
  pub number : IsNumber e.booking.number

abbrev pub Seats : List (Option ℕ) → List Entry → Type 0
Seats assigned es = (i : ℕ) → is_refused (entry_at es i).standing ≡ false → Seat assigned i (entry_at es i)

-- a SETUP came first; it names the channel of the plan, and its booking was offered
pub record OutwardSent (assigned : List (Option ℕ)) (d : Day) (sent : List Outgoing) (o : Outgoing) : Type 0 where
  pub known : list_any (sets_up o.reference) sent ≡ true
  pub channel : o.kind ≡ Setup → o.channel ≡ Some (channel_at assigned (o.reference - 1), true)
  pub started : o.kind ≡ Setup → is_started (standing_at d (o.reference - 1)) ≡ true
  pub in_service : o.kind ≡ Setup → IsChannel (channel_at assigned (o.reference - 1))

abbrev pub OutwardSents : List (Option ℕ) → Day → List Outgoing → List Outgoing → Type 0
OutwardSents assigned d sent os = AllByRecursion (λ (o : Outgoing). o.flag ≡ false → OutwardSent assigned d sent o) os

-- a live outward call: SETUP was sent; until it is cleared nothing was sent that clears it; Active only where the far end has shown that it has connected
pub record OutwardCall (r : ℕ) (sent far_sent : List Outgoing) (c : PlainNetCall) : Type 0 where
  pub known : list_any (sets_up r) sent ≡ true
  pub calm : net_is_clearing c.state ≡ false → list_any (clears r) sent ≡ false
  pub active : is_active c.state ≡ true → list_any (shows r) far_sent ≡ true
  pub proceeding : is_proceeding c.state ≡ false

abbrev pub OutwardStanding : ℕ → List Outgoing → List Outgoing → Standing → Type 0
OutwardStanding r sent far_sent (OnCall call activity) = net_flag call.origin ≡ false → OutwardCall r sent far_sent call
OutwardStanding r sent far_sent _ = Unit {0}

abbrev pub OutwardStandings : List Outgoing → List Outgoing → Day → Type 0
OutwardStandings sent far_sent d = (i : ℕ) → OutwardStanding (suc i) sent far_sent (standing_at d i)

-- the far end holds the call on its channel, or that is in maintenance there, or the exchange cleared the call
pub data Kept (assigned : List (Option ℕ)) (sent : List Outgoing) (f : FarDay) (r : ℕ) : Type 0 where
  Holds : far_holds f.calls r (channel_at assigned (r - 1)) ≡ true → Kept assigned sent f r
  Maintained : is_marked f.maintenance (channel_at assigned (r - 1)) ≡ true → Kept assigned sent f r
  Cleared : list_any (clears r) sent ≡ true → Kept assigned sent f r

-- a message of the far end for a call that the exchange began
pub record OutwardReply (assigned : List (Option ℕ)) (sent : List Outgoing) (f : FarDay) (o : Outgoing) : Type 0 where
  pub known : list_any (sets_up o.reference) sent ≡ true
  pub kept : shows_connected o.kind o.state ≡ true → Kept assigned sent f o.reference

abbrev pub OutwardReplies : List (Option ℕ) → List Outgoing → FarDay → List Outgoing → Type 0
OutwardReplies assigned sent f os = AllByRecursion (λ (o : Outgoing). o.flag ≡ true → OutwardReply assigned sent f o) os

-- a call of the far end that the exchange began
pub record OfferedCall (assigned : List (Option ℕ)) (sent : List Outgoing) (c : PlainUserCall) : Type 0 where
  pub known : list_any (sets_up c.reference) sent ≡ true
  pub channel : c.channel ≡ channel_at assigned (c.reference - 1)
  pub in_service : IsChannel c.channel
  pub offered : is_calling c.state ≡ false
  pub active : is_talking c.state ≡ true → list_any (acknowledges_call c.reference) sent ≡ true

abbrev pub OfferedCalls : List (Option ℕ) → List Outgoing → List PlainUserCall → Type 0
OfferedCalls assigned sent cs = AllByRecursion (λ (c : PlainUserCall). user_flag c.origin ≡ true → OfferedCall assigned sent c) cs

pub record KeepsOutward (rows : List Row) (assigned : List (Option ℕ)) (w : World) : Type 0 where
  pub run : RunFits rows assigned w.exchange
  pub seats : Seats assigned w.exchange.entries
  pub sents : OutwardSents assigned w.exchange w.sent w.sent
  pub standings : OutwardStandings w.sent w.far_sent w.exchange
  pub replies : OutwardReplies assigned w.sent w.far w.far_sent
  pub calls : OfferedCalls assigned w.sent w.far.calls
  pub apart : AreOnTheirOwn w.far.calls
  pub size : length w.far.maintenance ≡ 32
  pub places : AllByRecursion (λ (c : PlainUserCall). IsChannel c.channel) w.far.calls
  pub script : AllByRecursion IsScriptRow w.far.script
