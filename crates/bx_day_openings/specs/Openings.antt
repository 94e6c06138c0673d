-- How many turns a day has, and its far end at its opening.
use Rattle.std.specs.Prelude.{◌≡◌, ℕ, ◌+◌, ◌≤◌, ◌<◌, not, Bool, true, false, List, length, Option, Some, None, ◌⊎◌}
use Rattle.csv.specs.Reading.{strip_bom}
use Rattle.bx_base.specs.Bookings.{Row, row_at}
use Rattle.bx_base.specs.PlanParts.{Parts}
use Rattle.bx_base.specs.Plans.{is_accepted}
use Rattle.bx_calls.specs.Timers.{clearing_time}
use Rattle.bx_day.specs.Day.{entry_at}
use Rattle.bx_day.specs.Invariant.{is_refused}
use Rattle.bx_day.specs.declared.entry.Entry.{Entry}
use Rattle.bx_far.specs.FarDay.{FarDay, far_opening}
use Rattle.bx_far.specs.ScriptTexts.{IsScript}
use Rattle.bx_far.specs.declared.row.ScriptRow.{ScriptRow}

-- the greatest moment at which the call of one of the first so many bookings, where it is taken, may end: T305
-- and twice T308 after its end; 1 where none is taken
pub record IsGreatest (taken : ℕ → Bool) (ends : ℕ → ℕ) (count turns : ℕ) : Type 0 where
  pub each : (i : ℕ) → i < count → taken i ≡ true → ends i + clearing_time ≤ turns
  pub one : ((i : ℕ) × (i < count) × (taken i ≡ true) × (turns ≡ ends i + clearing_time)) ⊎ (((i : ℕ) → i < count → taken i ≡ false) × (turns ≡ 1))

-- of the rows that a plan accepts
abbrev pub IsLastOf : List Row → List (Option ℕ) → ℕ → ℕ → Type 0
IsLastOf rows assigned count turns = IsGreatest (is_accepted assigned) (λ (i : ℕ). (row_at rows i).end) count turns

-- of the bookings that a day has accepted
abbrev pub IsLastOfDay : List Entry → ℕ → ℕ → Type 0
IsLastOfDay entries count turns = IsGreatest (λ (i : ℕ). not (is_refused (entry_at entries i).standing)) (λ (i : ℕ). (entry_at entries i).booking.end) count turns

-- how many turns a day has that goes on from here: as many as were asked for, or all that its accepted bookings need
abbrev pub AreDayTurns : Option ℕ → List Entry → ℕ → Type 0
AreDayTurns (Some asked) entries turns = turns ≡ asked
AreDayTurns None entries turns = IsLastOfDay entries (length entries) turns

-- how many turns the day of a plan has: as many as were asked for, or all that its accepted rows need
abbrev pub AreTurns : Option ℕ → Parts → ℕ → Type 0
AreTurns (Some asked) plan turns = turns ≡ asked
AreTurns None plan turns = IsLastOf plan.rows plan.assigned (length plan.rows) turns

-- this is the text of a script, but for a byte order mark at its start, and what there was to read, where the input tells it
pub record IsScriptRead (before : Option (List ℕ)) (script : List ScriptRow) : Type 0 where
  pub text : List ℕ
  pub told : (known : List ℕ) → before ≡ Some known → text ≡ known
  pub script_of : IsScript (strip_bom text) script

-- a far end at the opening of the day of a script
pub record IsFarOpening (far : FarDay) : Type 0 where
  pub script : List ScriptRow
  pub read : IsScriptRead None script
  pub opens : far ≡ far_opening script
