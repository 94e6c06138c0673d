-- Private: live bookings, looked for one by one.
use Rattle.std.specs.Prelude.{◌≡◌, ℕ, ◌<◌, true, List, length, Option, Some, slice_set, if◌then◌else◌}
use Rattle.bx_day.specs.Day.{is_live, holds, entry_at}
use Rattle.bx_day.specs.Slots.{slot_at}
use Rattle.bx_day.specs.declared.entry.Entry.{Entry}

-- the slots once the booking of an index was looked at
abbrev pub with_live : List Entry → ℕ → List (Option ℕ) → List (Option ℕ)
with_live es i slots = if is_live (entry_at es i).standing then slice_set slots (entry_at es i).channel (Some i) else slots

-- of those below index k the one that holds a channel, if one does
pub record IsLiveBelow (es : List Entry) (k c : ℕ) (o : Option ℕ) : Type 0 where
  pub there : (i : ℕ) → o ≡ Some i → (i < k) × (holds c (entry_at es i) ≡ true)
  pub each : (i : ℕ) → i < k → holds c (entry_at es i) ≡ true → o ≡ Some i

pub record AreLiveBelow (es : List Entry) (k : ℕ) (slots : List (Option ℕ)) : Type 0 where
  pub size : length slots ≡ 32
  pub each : (c : ℕ) → IsLiveBelow es k c (slot_at slots c)
