-- What a proved plan text says.
use Rattle.std.specs.Prelude.{◌≡◌, ℕ, ◌≤◌, Bool, List, [], ◌∷◌, ◌++◌, Option, Some, Ok, codes, decimal}
use Rattle.bx_base.specs.Bookings.{Row, Carries, IsLawful, pay_of}
use Rattle.bx_base.specs.Plans.{is_accepted, channel_at}
use Rattle.bx_base.specs.PlanParts.{Parts, IsPlan}
use Rattle.bx_planfile.specs.Text.{IsTextOf}
use Rattle.bx_check.specs.Check.{IsOutcome}

-- this is the text of a plan, and what there was to read, where the input tells it
pub record IsPlanRead (before : Option (List ℕ)) (plan : Parts) : Type 0 where
  pub text : List ℕ
  pub told : (known : List ℕ) → before ≡ Some known → text ≡ known
  pub limits : IsPlan plan
  pub text_of : IsTextOf text plan

-- The plan's own channels carry its accepted rows, which hold each must row and pay the total, and no lawful set of
-- its rows pays more.
pub record IsProvedBest (plan : Parts) (total : ℕ) : Type 0 where
  pub carried : Carries plan.rows plan.channels (is_accepted plan.assigned) (channel_at plan.assigned)
  pub lawful : IsLawful plan.rows plan.channels (is_accepted plan.assigned)
  pub paid : total ≡ pay_of plan.rows (is_accepted plan.assigned)
  pub best : (set : ℕ → Bool) → IsLawful plan.rows plan.channels set → pay_of plan.rows set ≤ total

-- the plan is proved by its own prices, for these bookings and channels
pub record IsProvedFor (rows : List Row) (channels : List Bool) (plan : Parts) (total : ℕ) : Type 0 where
  pub outcome : IsOutcome rows channels plan (Ok total)
  pub best : IsProvedBest plan total

-- a plan that was read is proved for these bookings and channels
pub record IsProvedAgainst (rows : List Row) (channels : List Bool) (before : Option (List ℕ)) (total : ℕ) : Type 0 where
  pub plan : Parts
  pub read : IsPlanRead before plan
  pub proved : IsProvedFor rows channels plan total

-- or for its own bookings and channels
pub record IsProvedText (before : Option (List ℕ)) (total : ℕ) : Type 0 where
  pub plan : Parts
  pub read : IsPlanRead before plan
  pub proved : IsProvedFor plan.rows plan.channels plan total

-- what is written of a proved total
abbrev pub proved_line : ℕ → List ℕ
proved_line total = codes "proved " ++ decimal total ++ 10 ∷ []
