-- What inputs give by their names, and the plans that are read from them.
use Rattle.std.specs.Prelude.{◌≡◌, ◌⊎◌, ℕ, false, List, Option, Some, None, codes}
use Rattle.std.specs.Io.KnownBytes.{IsAtEnd}
use Rattle.bx_base.specs.PlanParts.{Parts}
use Rattle.bx_devices.specs.Devices.{Reading}
use Rattle.bx_check_commands.specs.PlanFiles.{IsUnopened}
use Rattle.bx_check_commands.specs.Proved.{IsPlanRead, IsProvedFor}
use Rattle.bx_check_commands.specs.Refusals.{IsNoPlan, IsUnproved}
use Rattle.bx_check_commands.specs.declared.fault.CommandFault.{CommandFault}
use Rattle.bx_check_commands.specs.declared.inputs.FilesAndInput.{FilesAndInput}

-- the input that stands beside the files, as long as it was not opened
abbrev pub input_of : {H R : Type 0} → FilesAndInput H R → Option R
input_of inputs = inputs.input

-- it gives just what it has, once
abbrev pub GivesOnce : {R : Type 0} → (R → Option (List ℕ)) → Option R → Option (List ℕ) → Type 0
GivesOnce remaining None text = ⊥
GivesOnce remaining (Some input) text = text ≡ remaining input

-- of files nothing is known; under the name `-` this is left
abbrev pub GivesStandard : Option (List ℕ) → List ℕ → Option (List ℕ) → Type 0
GivesStandard left name text = name ≡ codes "-" → text ≡ left

-- an input of this name was opened, and read from its beginning
pub record IsReadOf (gives : List ℕ → Option (List ℕ) → Type 0) (name : List ℕ) (input : Reading) : Type 0 where
  pub given : gives name input.before
  pub unfaulted : input.was_faulted ≡ false
  pub unread : input.reads_before ≡ 0

-- and what it gave to its end is the text of a plan
pub record IsPlanOf (gives : List ℕ → Option (List ℕ) → Type 0) (name : List ℕ) (plan : Parts) : Type 0 where
  pub input : Reading
  pub of_name : IsReadOf gives name input
  pub read : IsPlanRead input.before plan
  pub ended : IsAtEnd input.after

-- which is proved for its own bookings and channels
pub record IsProvedOf (gives : List ℕ → Option (List ℕ) → Type 0) (name : List ℕ) (plan : Parts) : Type 0 where
  pub plan_of : IsPlanOf gives name plan
  pub total : ℕ
  pub proved : IsProvedFor plan.rows plan.channels plan total

-- it is not opened, or there is no plan of it
abbrev pub IsNoPlanOf : (List ℕ → Option (List ℕ) → Type 0) → List ℕ → CommandFault → Type 0
IsNoPlanOf gives name fault = IsUnopened name fault ⊎ ((input : Reading) × IsReadOf gives name input × IsNoPlan name input fault)

-- or none that is proved for its own bookings and channels
abbrev pub IsNoProvedOf : (List ℕ → Option (List ℕ) → Type 0) → List ℕ → CommandFault → Type 0
IsNoProvedOf gives name fault = IsUnopened name fault ⊎ ((input : Reading) × IsReadOf gives name input × IsUnproved name input fault)
