-- A plan with the digest of its text.
use Rattle.std.specs.Prelude.{◌≡◌, ℕ, List, Option, Some}
use Rattle.sha2.specs.Sha256.{sha256}
use Rattle.bx_base.specs.PlanParts.{Parts, IsPlan}
use Rattle.bx_planfile.specs.Text.{IsTextOf}
use Rattle.bx_check_commands.specs.Proved.{IsProvedFor}

-- The text that was read, which is what there was to read where the input tells it, is that of a plan that is proved for its own
-- bookings and channels, and this is the digest of it.
pub record IsTied (before : Option (List ℕ)) (plan : Parts) (digest : List ℕ) : Type 0 where
  pub text : List ℕ
  pub told : (known : List ℕ) → before ≡ Some known → text ≡ known
  pub limits : IsPlan plan
  pub text_of : IsTextOf text plan
  pub total : ℕ
  pub proved : IsProvedFor plan.rows plan.channels plan total
  pub digest_of : digest ≡ sha256 text

-- the same of what the input of this name gave
abbrev pub IsTiedOf : (List ℕ → Option (List ℕ) → Type 0) → List ℕ → Parts → List ℕ → Type 0
IsTiedOf gives name plan digest = (before : Option (List ℕ)) × gives name before × IsTied before plan digest
