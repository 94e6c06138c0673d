-- Two ends agree on the calls that the far end began.
--
-- In the same world, and under the same premises as for the calls that the exchange began: while such a call is Active at
-- the far end,
--
--   held       the exchange holds a call of its reference on its channel, or has that channel in maintenance;
--   connected  and it has sent CONNECT with that reference.
--
-- Not said: that the call is Active at the exchange too; that each call which takes a booking at the exchange is live at
-- the far end. A SETUP of the far end that comes again, after its call was over at both ends, can take another inward
-- booking that is open on the same channel, and use it up.
use Rattle.std.specs.Prelude.{◌≡◌, ◌⊎◌, ℕ, ◌==◌, ◌&&◌, Bool, true, false, List, Option}
use Rattle.std.specs.List.{AllByRecursion, list_any}
use Rattle.bx_base.specs.Bookings.{Row, AreBookings, Carries}
use Rattle.bx_base.specs.Channels.{IsChannelSet}
use Rattle.bx_base.specs.Plans.{is_accepted, channel_at}
use Rattle.bx_q931.specs.declared.kind.Kind.{Kind}
use Rattle.bx_q931.specs.declared.kind.Kind.TheVariants.{Connect}
use Rattle.bx_q931.specs.Outgoing.{Outgoing}
use Rattle.bx_calls.specs.PlainCalls.{PlainUserCall}
use Rattle.bx_calls.specs.NetTable.{net_flag}
use Rattle.bx_calls.specs.UserTable.{user_flag}
use Rattle.bx_channels.specs.Marks.{is_marked}
use Rattle.bx_day.specs.declared.entry.Entry.{Entry}
use Rattle.bx_day.specs.declared.entry.Standing.{Standing}
use Rattle.bx_day.specs.declared.entry.Standing.TheVariants.{OnCall}
use Rattle.bx_far.specs.declared.row.ScriptRow.{ScriptRow}
use Rattle.bx_two_ends.specs.World.{World, WorldEvent, world_opening, world_after}
use Rattle.bx_two_ends.specs.Scripts.{AreScriptRows}
use Rattle.bx_two_ends.specs.TwoEnds.{IsUserActive}

-- ---- what is seen at the ends

-- a live call of the exchange that the far end began, with this reference, on this channel
abbrev pub answered_as : ℕ → ℕ → Standing → Bool
answered_as r c (OnCall call activity) = (call.reference == r) && net_flag call.origin && (call.channel == c)
answered_as r c _ = false

abbrev pub exchange_holds : List Entry → ℕ → ℕ → Bool
exchange_holds entries r c = list_any (λ (e : Entry). answered_as r c e.standing) entries

-- a CONNECT to the end that began the call
abbrev pub is_connect_kind : Kind → Bool
is_connect_kind Connect = true
is_connect_kind _ = false

abbrev pub connects : ℕ → Outgoing → Bool
connects r o = (o.reference == r) && o.flag && is_connect_kind o.kind

-- ---- the law

-- what holds of a call that the far end began and that is Active there
pub record IsConnected (w : World) (call : PlainUserCall) : Type 0 where
  pub held : (exchange_holds w.exchange.entries call.reference call.channel ≡ true) ⊎ (is_marked w.exchange.maintenance call.channel ≡ true)
  pub connected : list_any (connects call.reference) w.sent ≡ true

abbrev pub IsTwoEndsInward : World → Type 0
IsTwoEndsInward w = AllByRecursion (λ (call : PlainUserCall). user_flag call.origin ≡ false → IsUserActive call.state → IsConnected w call) w.far.calls

-- of every carried plan, every script, and every list of events
abbrev pub TwoEndsInward : Type 0
TwoEndsInward =
    (rows : List Row) (channels : List Bool) (assigned : List (Option ℕ)) (script : List ScriptRow) (events : List WorldEvent)
    → AreBookings rows → IsChannelSet channels → Carries rows channels (is_accepted assigned) (channel_at assigned) → AreScriptRows script
    → IsTwoEndsInward (world_after events (world_opening rows assigned script))
