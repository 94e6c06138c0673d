-- The world of two ends: the exchange's day of a plan, the far end's day of a script, and all messages that each ever
-- sent. An event ticks one end, or brings it any message of the other's list, as often as one likes, so that messages
-- are lost, repeated, delayed and reordered at will. What comes is the octets of the message, read as any octets are.
-- In a second without a link either end goes on, and what it says in it is never sent: it is in no list.
use Rattle.std.specs.Prelude.{ℕ, zero, suc, List, [], ◌∷◌, ◌++◌, Option, Some, None}
use Rattle.bx_base.specs.Bookings.{Row}
use Rattle.bx_q931.specs.Outgoing.{Outgoing, out_octets}
use Rattle.bx_day.specs.Day.{Day, opening}
use Rattle.bx_day.specs.Ticks.{tick}
use Rattle.bx_day.specs.Outages.{without_link}
use Rattle.bx_day.specs.Run.{receive_octets}
use Rattle.bx_calls.specs.Sending.{reply_list}
use Rattle.bx_far.specs.FarDay.{FarDay, far_tick, far_without_link, far_opening}
use Rattle.bx_far.specs.FarRun.{far_receive_octets}
use Rattle.bx_far.specs.declared.row.ScriptRow.{ScriptRow}

pub record World : Type 0 where
  pub exchange : Day
  pub far : FarDay
  -- what the exchange and the far end ever sent
  pub sent : List Outgoing
  pub far_sent : List Outgoing

-- the n-th message of a list, if there is one
abbrev pub message_nth : List Outgoing → ℕ → Option Outgoing
message_nth [] n = None
message_nth (o ∷ os) zero = Some o
message_nth (o ∷ os) (suc n) = message_nth os n

pub data WorldEvent : Type 0 where
  TickExchange : WorldEvent
  TickFar : WorldEvent
  -- a second of the exchange without a link, and one of the far end
  WithoutLink : WorldEvent
  FarWithoutLink : WorldEvent
  -- the message of this index in the other end's list comes
  ToExchange : (n : ℕ) → WorldEvent
  ToFar : (n : ℕ) → WorldEvent

-- an end with this day, which sent this
abbrev pub exchange_becomes : World → Day → List Outgoing → World
exchange_becomes w d more = record w { exchange = d; sent = w.sent ++ more }

abbrev pub far_becomes : World → FarDay → List Outgoing → World
far_becomes w d more = record w { far = d; far_sent = w.far_sent ++ more }

-- a message comes as its octets
abbrev pub comes_to_exchange : World → Option Outgoing → World
comes_to_exchange w None = w
comes_to_exchange w (Some o) = exchange_becomes w (receive_octets w.exchange (out_octets o)).day (reply_list (receive_octets w.exchange (out_octets o)).reply)

abbrev pub comes_to_far : World → Option Outgoing → World
comes_to_far w None = w
comes_to_far w (Some o) = far_becomes w (far_receive_octets w.far (out_octets o)).day (reply_list (far_receive_octets w.far (out_octets o)).reply)

abbrev pub world_happens : World → WorldEvent → World
world_happens w TickExchange = exchange_becomes w (tick w.exchange).day (tick w.exchange).sent
world_happens w WithoutLink = exchange_becomes w (without_link w.exchange) []
world_happens w FarWithoutLink = far_becomes w (far_without_link w.far) []
world_happens w TickFar = far_becomes w (far_tick w.far).day (far_tick w.far).sent
world_happens w (ToExchange n) = comes_to_exchange w (message_nth w.far_sent n)
world_happens w (ToFar n) = comes_to_far w (message_nth w.sent n)

abbrev pub world_opening : List Row → List (Option ℕ) → List ScriptRow → World
world_opening rows assigned script = record { exchange = opening rows assigned; far = far_opening script; sent = []; far_sent = [] }

abbrev pub world_after : List WorldEvent → World → World
world_after [] w = w
world_after (e ∷ es) w = world_after es (world_happens w e)
