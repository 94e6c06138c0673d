-- Private: how free starts are found, and an interval of them told.
use Rattle.std.specs.Prelude.{◌≡◌, ◌↔◌, ◌<◌, ◌≤◌, ◌+◌, ℕ, Bool, true, false, List, length, slice_index_or, Option}
use Rattle.bx_base.specs.declared.booking.TheConstants.{MAX_MOMENT}
use Rattle.bx_calendar.specs.declared.clock.Clock.{Clock}
use Rattle.bx_day.specs.Day.{Day}
use Rattle.bx_office_world.specs.FreeStarts.{promised_at, IsWished}
use Rattle.bx_office_world.specs.FreeTimes.{IsIntervalLine}
use Rattle.bx_office_world.specs.declared.wish.Wish.{Wish}

-- what runs at each second of a day
pub record AreLoads (d : Day) (channels : List Bool) (counts : List ℕ) : Type 0 where
  pub size : length counts ≡ MAX_MOMENT
  pub each : (second : ℕ) → second < MAX_MOMENT → slice_index_or counts second 0 ≡ promised_at d channels second

pub record IsStartOn (counts : List ℕ) (limit moment last : ℕ) (wish : Wish) (start : ℕ) : Type 0 where
  pub wished : IsWished moment last wish start
  pub in_day : start + wish.length ≤ length counts
  pub free : (second : ℕ) → start ≤ second → second < start + wish.length → slice_index_or counts second 0 < limit

-- a mark for each second, which says whether this holds of it; beyond the last mark it holds of none
abbrev pub is_marked_at : List Bool → ℕ → Bool
is_marked_at marks second = slice_index_or marks second false

abbrev pub AreStartMarks : List Bool → (ℕ → Type 0) → Type 0
AreStartMarks marks P = (second : ℕ) → (is_marked_at marks second ≡ true) ↔ P second

-- the line of the interval between two seconds
abbrev pub IsLineBetween : Option Clock → ℕ → ℕ → List ℕ → Type 0
IsLineBetween clock from until line = IsIntervalLine clock (record { from = from; until = until }) line
