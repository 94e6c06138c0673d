-- Planning anew for the bookings of a plan, and for more: what the plan accepts is promised, and so must be held.
use Rattle.std.specs.Prelude.{◌≡◌, ℕ, ◌<◌, ◌++◌, Bool, true, false, List, [], ◌∷◌, length, Option, is_some, ◌+◌, ◌≤◌}
use Rattle.bx_base.specs.Bookings.{Row, row_of, Carries, IsLawful, pay_of}
use Rattle.bx_base.specs.Channels.{count_of}
use Rattle.bx_base.specs.PlanParts.{Parts}
use Rattle.bx_base.specs.Plans.{is_accepted, channel_at}
use Rattle.bx_planner.specs.declared.amending.NoAmendment.{NoAmendment}
use Rattle.bx_planner.specs.declared.amending.NoAmendment.TheVariants.{TooMany, TooManyMust, Memory}
use Rattle.bx_planner.specs.Musts.{IsTooManyMust}
use Rattle.bx_planner.specs.LeastProofs.{IsLeastProof}
use Rattle.bx_planner.specs.Choices.{IsBest, IsFirstFitPlan, ProvesBest}
use Rattle.bx_base.specs.declared.bookings.TheConstants.{MAX_BOOKINGS}

-- a row of a plan as it is planned anew: must just where the plan accepts it
abbrev pub promised_in_plan : Row → Bool → Row
promised_in_plan row accepted = row_of row.start row.end row.pay row.number accepted row.inward

-- the rows of a plan so, by the channels that it gives them
unfoldable pub promised_rows : List Row → List (Option ℕ) → List Row
promised_rows [] assigned = []
promised_rows (row ∷ rows) [] = promised_in_plan row false ∷ promised_rows rows []
promised_rows (row ∷ rows) (channel ∷ assigned) = promised_in_plan row (is_some channel) ∷ promised_rows rows assigned

-- the rows that are planned anew: those of the plan, and then more with their own marks
abbrev pub amended : List Row → List (Option ℕ) → List Row → List Row
amended rows assigned more = promised_rows rows assigned ++ more

-- a plan of just these rows and channels, with all that `plan` promises
pub record IsBestPlan (rows : List Row) (channels : List Bool) (plan : Parts) : Type 0 where
  pub bookings : plan.rows ≡ rows
  pub channels_of : plan.channels ≡ channels
  pub first_fit : IsFirstFitPlan rows channels plan.assigned
  pub carried : Carries rows channels (is_accepted plan.assigned) (channel_at plan.assigned)
  pub lawful : IsLawful rows channels (is_accepted plan.assigned)
  pub total_of : plan.total ≡ pay_of rows (is_accepted plan.assigned)
  pub prices_of : ProvesBest rows (count_of channels) plan.prices plan.total
  pub best : IsBest rows channels plan.total
  pub least : IsLeastProof rows channels plan.prices (is_accepted plan.assigned)

-- each row that was accepted is accepted again
abbrev pub KeepsPromises : List Row → List (Option ℕ) → List (Option ℕ) → Type 0
KeepsPromises rows before after = (i : ℕ) → i < length rows → is_accepted before i ≡ true → is_accepted after i ≡ true

-- why nothing was amended
abbrev pub IsNoAmendment : List Row → List Bool → NoAmendment → Type 0
IsNoAmendment rows channels TooMany = MAX_BOOKINGS < length rows
IsNoAmendment rows channels (TooManyMust moment) = IsTooManyMust rows channels moment
IsNoAmendment rows channels Memory = Unit {0}

-- both together are few enough, and this is the first moment at which too many promised and must bookings run
abbrev pub IsFirstMustTooMany : Parts → List Row → ℕ → Type 0
IsFirstMustTooMany plan more moment =
    (length plan.rows + length more ≤ MAX_BOOKINGS)
    × IsTooManyMust (amended plan.rows plan.assigned more) plan.channels moment
