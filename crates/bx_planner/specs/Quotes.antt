-- What a quote says, and why there is none.
use Rattle.std.specs.Prelude.{◌≡◌, ℕ, ◌+◌, ◌-◌, ◌≤◌, ◌==◌, ◌&&◌, not, true, false, List, [], ◌∷◌, ◌++◌, length, ◌<◌}
use Rattle.bx_base.specs.Bookings.{Row, row_at, IsLawful}
use Rattle.bx_base.specs.Bound.{cost_of}
use Rattle.bx_base.specs.PlanParts.{Parts}
use Rattle.bx_base.specs.Plans.{is_accepted}
use Rattle.bx_planner.specs.declared.answer.Quote.{Quote}
use Rattle.bx_planner.specs.declared.answer.NoQuote.{NoQuote}
use Rattle.bx_planner.specs.declared.answer.NoQuote.TheVariants.{TooMany, NoChannel, NoSuchRow, Accepted, Memory}
use Rattle.bx_planner.specs.Named.{AreRowsThatPass, pay_of_rows, traded}
use Rattle.bx_planner.specs.Rooms.{IsNoChannel, IsNeverTaken}
use Rattle.bx_planner.specs.Thresholds.{IsThreshold, Decides}
use Rattle.bx_base.specs.declared.bookings.TheConstants.{MAX_BOOKINGS}

-- the rows with one more after them, which a plan is free to leave out
abbrev pub with_asked : List Row → Row → List Row
with_asked rows row = rows ++ record row { must = false } ∷ []

-- what a quote of the row at i among these rows says beside a plan of them, or of those before the last of them
pub record IsQuote (rows : List Row) (plan : Parts) (i : ℕ) (quote : Quote) : Type 0 where
  pub threshold_of : IsThreshold rows plan.channels i quote.threshold
  pub decides : Decides rows plan.channels i quote.threshold
  -- what its seconds cost at the plan's prices, which is an honest bound
  pub costs : quote.cost ≡ cost_of plan.prices (row_at rows i)
  pub bound : quote.cost ≤ quote.threshold
  -- one best set with it leaves out these accepted rows, and takes these refused rows and the row itself
  pub instead_rows : AreRowsThatPass (length plan.rows) (is_accepted plan.assigned) quote.instead.items
  pub besides_rows : AreRowsThatPass (length plan.rows) (λ j. not (j == i) && not (is_accepted plan.assigned j)) quote.besides.items
  pub lawful : IsLawful rows plan.channels (traded (is_accepted plan.assigned) i quote.instead.items quote.besides.items)
  pub settled : quote.threshold + pay_of_rows rows quote.besides.items ≡ pay_of_rows rows quote.instead.items

-- a row of the plan
abbrev pub IsRowOfPlan : Parts → ℕ → Type 0
IsRowOfPlan plan row = (1 ≤ row) × (row ≤ length plan.rows)

-- a row that the plan refuses
pub record IsRefused (plan : Parts) (row : ℕ) : Type 0 where
  pub row_of : IsRowOfPlan plan row
  pub left_out : is_accepted plan.assigned (row - 1) ≡ false

-- why a booking has no quote
abbrev pub IsNoQuote : Parts → Row → NoQuote → Type 0
IsNoQuote plan booking TooMany = MAX_BOOKINGS ≤ length plan.rows
IsNoQuote plan booking (NoChannel moment) = IsNoChannel plan.rows plan.channels booking moment × IsNeverTaken (with_asked plan.rows booking) plan.channels (length plan.rows)
IsNoQuote plan booking Memory = Unit {0}
IsNoQuote plan booking _ = ⊥

-- why a row has none
abbrev pub IsNoExplanation : Parts → ℕ → NoQuote → Type 0
IsNoExplanation plan row NoSuchRow = ¬ IsRowOfPlan plan row
IsNoExplanation plan row (Accepted named) = (named ≡ row) × IsRowOfPlan plan row × (is_accepted plan.assigned (row - 1) ≡ true)
IsNoExplanation plan row (NoChannel moment) = IsRefused plan row × IsNoChannel plan.rows plan.channels (row_at plan.rows (row - 1)) moment × IsNeverTaken plan.rows plan.channels (row - 1)
IsNoExplanation plan row Memory = Unit {0}
IsNoExplanation plan row _ = ⊥

-- the plan has room for one more booking, and this is the first moment at which must rows leave that one no channel
abbrev pub IsFirstFull : Parts → Row → ℕ → Type 0
IsFirstFull plan booking moment =
    (length plan.rows < MAX_BOOKINGS)
    × IsNoChannel plan.rows plan.channels booking moment

-- the row, which is named so, is one that the plan accepts
abbrev pub IsAcceptedRow : Parts → ℕ → ℕ → Type 0
IsAcceptedRow plan row named =
    (named ≡ row)
    × IsRowOfPlan plan row
    × (is_accepted plan.assigned (row - 1) ≡ true)

-- the row is one that the plan refuses, and this is the first moment at which must rows leave it no channel
abbrev pub IsRefusedAsFull : Parts → ℕ → ℕ → Type 0
IsRefusedAsFull plan row moment =
    IsRefused plan row
    × IsNoChannel plan.rows plan.channels (row_at plan.rows (row - 1)) moment
