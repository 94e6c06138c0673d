-- Two ends agree on the calls that the exchange began.
--
-- Take bookings, channels and a plan that these carry, a script, and any list of events of the world of two ends: messages
-- are lost, repeated, delayed and reordered at will, and the exchange goes through seconds without a link. Then
--
--   held          while a call that the exchange began is Active there, the far end holds the call of its reference on
--                 its channel, or has that channel in maintenance;
--   apart         no two live calls of the exchange are on one channel,
--   far_apart     and no two of the far end;
--   acknowledged  for each such call that is Active at the far end, the exchange has sent CONNECT ACKNOWLEDGE with its
--                 reference.
--
-- A prefix of a list of events is one too, so this holds at each point. A call is named by its reference and by who began
-- it, which the flag tells: 0 in messages from the end that began the call, 1 in messages to it.
--
-- Premises: bookings and script rows within their limits, a plan that is carried, and that each message which comes was
-- sent by the other end. Nothing is assumed of what lies between them.
--
-- Not said: that a message comes or a call is answered; that a call which is Active at the far end is still live at the
-- exchange. A SETUP that comes again can open there a call that is over here; the exchange clears it once it hears of it.
use Rattle.std.specs.Prelude.{◌≡◌, ◌≢◌, ◌⊎◌, ℕ, ◌+◌, ◌<◌, [], ◌∷◌, ◌==◌, ◌&&◌, not, Bool, true, false, List, length, Option}
use Rattle.std.specs.List.{AllByRecursion, list_any}
use Rattle.bx_base.specs.Bookings.{Row, AreBookings, Carries}
use Rattle.bx_base.specs.Channels.{IsChannelSet}
use Rattle.bx_base.specs.Plans.{is_accepted, channel_at}
use Rattle.bx_q931.specs.declared.kind.Kind.{Kind}
use Rattle.bx_q931.specs.declared.kind.Kind.TheVariants.{ConnectAcknowledge}
use Rattle.bx_q931.specs.Outgoing.{Outgoing}
use Rattle.bx_calls.specs.PlainCalls.{PlainUserCall}
use Rattle.bx_calls.specs.NetTable.{net_flag}
use Rattle.bx_calls.specs.UserTable.{user_flag}
use Rattle.bx_calls.specs.declared.user_state.UserState.{UserState}
use Rattle.bx_calls.specs.declared.user_state.UserState.TheVariants as user
use Rattle.bx_day.specs.Law.{OnLive, standing_at}
use Rattle.bx_day.specs.Moves.{is_active}
use Rattle.bx_channels.specs.Marks.{is_marked}
use Rattle.bx_far.specs.declared.row.ScriptRow.{ScriptRow}
use Rattle.bx_two_ends.specs.Scripts.{AreScriptRows}
use Rattle.bx_two_ends.specs.World.{World, WorldEvent, world_opening, world_after}

-- ---- what is seen at the ends

-- a call of the far end that the exchange began, with this reference, on this channel
abbrev pub offered_as : ℕ → ℕ → PlainUserCall → Bool
offered_as r c call = (call.reference == r) && user_flag call.origin && (call.channel == c)

abbrev pub far_holds : List PlainUserCall → ℕ → ℕ → Bool
far_holds calls r c = list_any (offered_as r c) calls

abbrev pub IsUserActive : UserState → Type 0
IsUserActive (user.Active since) = Unit {0}
IsUserActive _ = ⊥

-- a CONNECT ACKNOWLEDGE from the exchange for a call that it began
abbrev pub is_acknowledge : Kind → Bool
is_acknowledge ConnectAcknowledge = true
is_acknowledge _ = false

abbrev pub acknowledges_call : ℕ → Outgoing → Bool
acknowledges_call r o = (o.reference == r) && not o.flag && is_acknowledge o.kind

-- no two of these calls are on one channel
abbrev pub AreOnTheirOwn : List PlainUserCall → Type 0
AreOnTheirOwn [] = Unit {0}
AreOnTheirOwn (call ∷ calls) = AllByRecursion (λ (other : PlainUserCall). call.channel ≢ other.channel) calls × AreOnTheirOwn calls

-- ---- the law

-- what holds of a world
pub record IsTwoEnds (rows : List Row) (w : World) : Type 0 where
  -- while the exchange has an outward booking Active, the far end holds its call on its channel, or has that in maintenance
  pub held : (i : ℕ) → i < length rows → OnLive (standing_at w.exchange i) (λ call a. net_flag call.origin ≡ false → is_active call.state ≡ true
      → (far_holds w.far.calls (i + 1) call.channel ≡ true) ⊎ (is_marked w.far.maintenance call.channel ≡ true))
  -- no end holds two calls on a channel
  pub apart : (i j : ℕ) → i < j → j < length rows → OnLive (standing_at w.exchange i) (λ call a. OnLive (standing_at w.exchange j) (λ other b. call.channel ≢ other.channel))
  pub far_apart : AreOnTheirOwn w.far.calls
  -- a call that the exchange began is Active at the far end only where the exchange acknowledged its CONNECT
  pub acknowledged : AllByRecursion (λ (call : PlainUserCall). user_flag call.origin ≡ true → IsUserActive call.state → list_any (acknowledges_call call.reference) w.sent ≡ true) w.far.calls

-- of every carried plan, every script, and every list of events
abbrev pub TwoEnds : Type 0
TwoEnds =
    (rows : List Row) (channels : List Bool) (assigned : List (Option ℕ)) (script : List ScriptRow) (events : List WorldEvent)
    → AreBookings rows → IsChannelSet channels → Carries rows channels (is_accepted assigned) (channel_at assigned) → AreScriptRows script
    → IsTwoEnds rows (world_after events (world_opening rows assigned script))
