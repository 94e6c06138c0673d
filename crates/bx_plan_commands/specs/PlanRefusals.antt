-- Why a command that answers for a plan is refused, and what it did to its output then.
use Rattle.std.specs.Prelude.{◌≡◌, ℕ, List, Option, Some, None, ◌⊎◌}
use Rattle.bx_base.specs.Bookings.{Row}
use Rattle.bx_devices.specs.Devices.{Writing, writing_of}
use Rattle.bx_base.specs.PlanParts.{Parts}
use Rattle.bx_devices.specs.declared.watched.Watched.{Watched}
use Rattle.bx_plan_commands.specs.Calls.{IsCallOf, IsNoCall}
use Rattle.bx_plan_commands.specs.FileRefusals.{IsFileFault}
use Rattle.bx_plan_commands.specs.declared.fault.FileFault.{FileFault}
use Rattle.bx_plan_commands.specs.declared.fault.FileFault.TheVariants as files
use Rattle.bx_check_commands.specs.Inputs.{IsProvedOf, IsNoProvedOf}
use Rattle.bx_planner.specs.Writing.{IsQuoteRefusal, IsExplainRefusal, IsListRefusal}
use Rattle.bx_planner.specs.declared.writing.QuoteFault.{QuoteFault}
use Rattle.bx_request.specs.declared.request.Call.{Call}

-- ---- what a plan refuses

-- nothing was told of all that it refuses, or of a row of it
abbrev pub IsUntold : Option ℕ → Parts → Writing → QuoteFault → Type 0
IsUntold None plan output fault = IsListRefusal plan output fault
IsUntold (Some row) plan output fault = IsExplainRefusal plan row output fault

-- so it is with the plan that an input of this name gave, which is proved for its own bookings and channels
abbrev pub IsUnexplained : (List ℕ → Option (List ℕ) → Type 0) → Option ℕ → List ℕ → Writing → QuoteFault → Type 0
IsUnexplained gives row name output fault = (plan : Parts) × IsProvedOf gives name plan × IsUntold row plan output fault

abbrev pub IsNotExplained : {W : Type 0} → (List ℕ → Option (List ℕ) → Type 0) → Option ℕ → List ℕ → (W → Option (List ℕ)) → Watched W → Watched W → FileFault → Type 0
IsNotExplained gives row name contents old new (files.Quote fault) = IsUnexplained gives row name (writing_of contents old new) fault
IsNotExplained gives row name contents old new fault = IsFileFault (IsNoProvedOf gives name) fault × (new ≡ old)

-- ---- a further call

-- no quote of the call was written beside such a plan
pub record IsUnquoted (gives : List ℕ → Option (List ℕ) → Type 0) (call : Call) (name : List ℕ) (output : Writing) (fault : QuoteFault) : Type 0 where
  pub plan : Parts
  pub proved_of : IsProvedOf gives name plan
  pub booking : Row
  pub call_of : IsCallOf call booking
  pub refused : IsQuoteRefusal plan booking output fault

-- the words name a call
abbrev pub IsSomeCall : Call → Type 0
IsSomeCall call = (booking : Row) × IsCallOf call booking

abbrev pub IsNotQuoted : {W : Type 0} → (List ℕ → Option (List ℕ) → Type 0) → Call → List ℕ → (W → Option (List ℕ)) → Watched W → Watched W → FileFault → Type 0
IsNotQuoted gives call name contents old new (files.Quote fault) = IsUnquoted gives call name (writing_of contents old new) fault
IsNotQuoted gives call name contents old new fault = (IsNoCall call fault ⊎ (IsSomeCall call × IsFileFault (IsNoProvedOf gives name) fault)) × (new ≡ old)
