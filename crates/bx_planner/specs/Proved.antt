-- A plan that the checker proves.
use Rattle.std.specs.Prelude.{Bool, List, Ok, ◌≡◌, ℕ, Option}
use Rattle.bx_base.specs.Bookings.{Row, Carries, IsLawful, pay_of}
use Rattle.bx_base.specs.PlanParts.{Parts}
use Rattle.bx_base.specs.Plans.{is_accepted, channel_at}
use Rattle.bx_check.specs.Check.{IsOutcome}
use Rattle.bx_planner.specs.Choices.{IsBest, ProvesBest, planned}
use Rattle.bx_planner.specs.LeastProofs.{IsLeastProof}
use Rattle.bx_base.specs.Bound.{Charge}
use Rattle.bx_base.specs.Channels.{count_of}

-- a plan of these bookings and channels that the checker proves, than which no lawful set pays more, and whose prices
-- are the least proof of its accepted rows
pub record IsProved (rows : List Row) (channels : List Bool) (plan : Parts) : Type 0 where
  pub outcome : IsOutcome rows channels plan (Ok plan.total)
  pub best : IsBest rows channels plan.total
  pub least : IsLeastProof rows channels plan.prices (is_accepted plan.assigned)

-- what `plan` promises of a plan is what the checker proves, with the plan's total
abbrev pub ArePlansProved : Type 0
ArePlansProved =
    (rows : List Row) (channels : List Bool) (assigned : List (Option ℕ)) (prices : List Charge) (total : ℕ)
    → Carries rows channels (is_accepted assigned) (channel_at assigned)
    → IsLawful rows channels (is_accepted assigned)
    → total ≡ pay_of rows (is_accepted assigned)
    → ProvesBest rows (count_of channels) prices total
    → IsOutcome rows channels (planned rows channels assigned prices total) (Ok total)
