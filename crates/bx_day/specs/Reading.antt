-- What is read of a day, and what an exchange keeps in memory.
use Rattle.std.specs.Prelude.{◌≡◌, ◌≤◌, ◌<◌, ℕ, ◌+◌, ◌-◌, false, List, length, Option, Some, None, if◌then◌else◌, ◌&&◌, nat_le}
use Rattle.std.specs.List.{AllByRecursion, position}
use Rattle.bx_channels.specs.ChannelNumbers.{IsChannel}
use Rattle.bx_q931.specs.Outgoing.{IsCallReference}
use Rattle.bx_calls.specs.States.{net_state}
use Rattle.bx_calls.specs.declared.call_state.CallState.{CallState}
use Rattle.bx_base.specs.declared.bookings.TheConstants.{MAX_BOOKINGS}
use Rattle.bx_day.specs.Day.{Day, holds, entry_at}
use Rattle.bx_day.specs.Invariant.{DayFits, is_refused}
use Rattle.bx_day.specs.declared.entry.Entry.{Entry}
use Rattle.bx_day.specs.declared.entry.Standing.{Standing}
use Rattle.bx_day.specs.declared.entry.Standing.TheVariants as standing
use Rattle.bx_day.specs.declared.outcome.Outcome.{Outcome}
use Rattle.bx_day.specs.declared.outcome.Outcome.TheVariants as outcome
use Rattle.bx_events.specs.declared.moment.TheConstants.{LAST_MOMENT}

-- what a standing is called when the day is told
abbrev pub outcome_of : Standing → Outcome
outcome_of standing.Refused = outcome.Refused
outcome_of standing.Unoffered = outcome.Waiting
outcome_of (standing.OnCall call activity) = outcome.Live
outcome_of (standing.Carried from until) = outcome.Carried from until
outcome_of standing.Unanswered = outcome.Unanswered
outcome_of standing.Missed = outcome.Missed

-- of a row, where rows are named 1, 2, ..
abbrev pub outcome_at : Day → ℕ → Option Outcome
outcome_at d row = if nat_le 1 row && nat_le row (length d.entries) then Some (outcome_of (entry_at d.entries (row - 1)).standing) else None

-- the row and the call state of a live booking
abbrev pub called_by : Entry → Standing → Option (ℕ × CallState)
called_by e (standing.OnCall call activity) = Some (e.row, net_state call.state)
called_by e s = None

abbrev pub live_at : Day → Option ℕ → Option (ℕ × CallState)
live_at d None = None
live_at d (Some i) = called_by (entry_at d.entries i) (entry_at d.entries i).standing

-- who holds a channel
abbrev pub on_channel : Day → ℕ → Option (ℕ × CallState)
on_channel d c = live_at d (position (holds c) d.entries)

-- an accepted booking has a channel, and each row and each reference can be a call reference
pub record Seated (e : Entry) : Type 0 where
  pub row : IsCallReference e.row
  pub reference : IsCallReference e.reference
  pub channel : is_refused e.standing ≡ false → IsChannel e.channel

-- rows are named 1, 2, ..
abbrev pub IsNumbered : List Entry → Type 0
IsNumbered entries = (i : ℕ) → i < length entries → (entry_at entries i).row ≡ i + 1

-- a day that an exchange may be in
pub record IsExchange (d : Day) : Type 0 where
  pub moment : d.moment ≤ LAST_MOMENT
  pub rows : length d.entries ≤ MAX_BOOKINGS
  pub day : DayFits d
  pub seated : AllByRecursion Seated d.entries
  pub numbered : IsNumbered d.entries
