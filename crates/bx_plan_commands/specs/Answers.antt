-- What is told of a proved plan for what it refuses.
use Rattle.std.specs.Prelude.{ℕ, ◌-◌, List, Option, Some, None, length}
use Rattle.std.specs.Io.KnownBytes.{Appends}
use Rattle.bx_base.specs.Bookings.{Row, row_at}
use Rattle.bx_devices.specs.Devices.{Writing}
use Rattle.bx_base.specs.PlanParts.{Parts}
use Rattle.bx_check_commands.specs.Inputs.{IsProvedOf}
use Rattle.bx_plan_commands.specs.Calls.{IsCallOf}
use Rattle.bx_planner.specs.Quotes.{with_asked}
use Rattle.bx_planner.specs.Texts.{quote_text, explained_text, refused_text}
use Rattle.bx_planner.specs.Writing.{IsToldOfRow}
use Rattle.bx_request.specs.declared.request.Call.{Call}

-- all that it refuses, or a row of it
abbrev pub IsExplanation : Option ℕ → Parts → Writing → Type 0
IsExplanation None plan output = Appends output.before output.after (refused_text plan)
IsExplanation (Some row) plan output = IsToldOfRow plan.rows plan (row - 1) (explained_text row (row_at plan.rows (row - 1)).pay) output

-- that was written of the plan that an input of this name gave, which is proved for its own bookings and channels
abbrev pub IsExplained : (List ℕ → Option (List ℕ) → Type 0) → Option ℕ → List ℕ → Writing → Type 0
IsExplained gives row name output = (plan : Parts) × IsProvedOf gives name plan × IsExplanation row plan output

-- the quote of the call that the words name was written beside such a plan
pub record IsQuoted (gives : List ℕ → Option (List ℕ) → Type 0) (call : Call) (name : List ℕ) (output : Writing) : Type 0 where
  pub plan : Parts
  pub proved_of : IsProvedOf gives name plan
  pub booking : Row
  pub call_of : IsCallOf call booking
  pub told : IsToldOfRow (with_asked plan.rows booking) plan (length plan.rows) quote_text output
