-- Calls as they are kept: each in the slot of its channel.
use Rattle.std.specs.Prelude.{◌≡◌, ◌≤◌, ⊤, ℕ, suc, ◌+◌, nat_lt, List, [], ◌∷◌, length, Option, Some, None, if◌then◌else◌}
use Rattle.bx_base.specs.declared.bookings.TheConstants.{MAX_BOOKINGS}
use Rattle.bx_channels.specs.ChannelNumbers.{IsChannel}
use Rattle.bx_calls.specs.PlainCalls.{PlainUserCall}
use Rattle.bx_far.specs.declared.row.ScriptRow.{ScriptRow}
use Rattle.bx_far.specs.declared.row.ScriptRow.TheVariants.{Follows, Calls}
use Rattle.bx_events.specs.declared.moment.TheConstants.{LAST_MOMENT}

-- the calls, in the order of their slots
abbrev pub live_calls : List (Option PlainUserCall) → List PlainUserCall
live_calls [] = []
live_calls (None ∷ slots) = live_calls slots
live_calls (Some call ∷ slots) = call ∷ live_calls slots

-- a call stands in the slot of its channel
abbrev pub IsCallSeat : ℕ → Option PlainUserCall → Type 0
IsCallSeat k None = ⊤
IsCallSeat k (Some call) = (call.channel ≡ k) × IsChannel k

abbrev pub AreSeated : ℕ → List (Option PlainUserCall) → Type 0
AreSeated k [] = ⊤
AreSeated k (slot ∷ slots) = IsCallSeat k slot × AreSeated (suc k) slots

abbrev pub calls_later : ℕ → List ScriptRow → ℕ
calls_later t [] = 0
calls_later t (Follows number policy ∷ rows) = calls_later t rows
calls_later t (Calls number moment channel ∷ rows) = if nat_lt t moment then suc (calls_later t rows) else calls_later t rows

-- what a far end keeps. Each row begins one call at the most, so references are enough for the day.
pub record IsFar (script : List ScriptRow) (moment next : ℕ) (slots : List (Option PlainUserCall)) : Type 0 where
  pub moment_limit : moment ≤ LAST_MOMENT
  pub size : length slots ≡ 32
  pub seated : AreSeated 0 slots
  pub first : 1 ≤ next
  pub room : next + calls_later moment script ≤ MAX_BOOKINGS + 1
