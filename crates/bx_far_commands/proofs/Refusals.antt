-- What a far end that stops before anything is written did to its output: nothing.
use Rattle.std.proofs.Common.{ℕ, List, Option, refl, inl, inr}
use Rattle.bx_devices.specs.declared.watched.Watched.{Watched}
use Rattle.bx_check_commands.specs.declared.fault.CommandFault.TheVariants.{CannotWrite}
use Rattle.bx_request.specs.declared.request.FarRequest.{FarRequest}
use Rattle.bx_far_commands.specs.FarRefusals.{StopsFarEnd, IsRefusedRun, IsUnjoined}
use Rattle.bx_day_openings.specs.declared.fault.DayCommandFault.{DayCommandFault}
use Rattle.bx_day_openings.specs.declared.fault.DayCommandFault.TheVariants.{Command}

-- a reason that is no failed write
pub kept_output : {W : Type 0} (reason : DayCommandFault → Type 0) (cut : Option (List ℕ) → Option (List ℕ) → Type 0) (contents : W → Option (List ℕ)) (w : Watched W) (fault : DayCommandFault)
    → (reason (Command CannotWrite) → ⊥) → reason fault → IsRefusedRun reason cut contents w w fault
kept_output reason cut contents w (Command CannotWrite) never p = absurd (never p)
kept_output reason cut contents w fault never p = (p, refl)

module _ {F : Type 0} (files : F → Option (List ℕ)) (request : FarRequest) where
  joined : (kept : Type 0) → IsUnjoined kept (Command CannotWrite) → ⊥
  joined kept (inl p) = p
  joined kept (inr p) = p.0

  pub far_writes : StopsFarEnd files request (Command CannotWrite) → ⊥
  far_writes (inl p) = p
  far_writes (inr (inl p)) = p.1
  far_writes (inr (inr (inl p))) = p.2
  far_writes (inr (inr (inr p))) = joined _ p.3
