-- Private: how a batch ends.
use Rattle.std.specs.Prelude.{◌≡◌, ◌≤◌, ℕ, Bool, true, List, [], ◌∷◌, ◌++◌, length, nat_le, Option, Result, Ok, Err, if◌then◌else◌, false}
use Rattle.bx_base.specs.Bookings.{Row}
use Rattle.bx_base.specs.declared.bookings.TheConstants.{MAX_BOOKINGS}
use Rattle.bx_day.specs.Changed.{AreReferredByRow}
use Rattle.bx_day.specs.Day.{Day}
use Rattle.bx_live.specs.declared.world.CannotLog.{CannotLog}
use Rattle.bx_live.specs.Acts.{begins_none}
use Rattle.bx_live.specs.Runs.{Over, Between}
use Rattle.bx_events.specs.declared.amendment.Amendment.{Amendment}
use Rattle.bx_planfile.specs.OneBooking.{row_on}
use Rattle.bx_sales.specs.Amending.{AmendsDay}
use Rattle.bx_sales.specs.GoingOn.{FitsBeside}
use Rattle.bx_sales.specs.Left.{left_in_service}
use Rattle.bx_sales.specs.Selling.{rows_with, marks_with, IsSold}
use Rattle.bx_sales.specs.declared.selling.NoSale.{NoSale}
use Rattle.bx_sales.specs.declared.tag.Tag.{Tag}
use Rattle.bx_sales.specs.declared.selling.NoSale.TheVariants.{Late, Full, NoChannel, TookOver, Memory}
use Rattle.bx_market.specs.declared.market.Answer.{Answer}
use Rattle.bx_market.specs.declared.market.Request.{Request}
use Rattle.bx_market.specs.declared.market.Answer.TheVariants.{Accepted, Refused}
use Rattle.bx_market.specs.Deals.{Deal, acts_of, sold_of}
use Rattle.bx_market.specs.Changes.{IsLineOf}
use Rattle.bx_market.specs.Stands.{Stand, Within, Filing, Changing, Leaving, IsMarketRun}
use Rattle.bx_market.specs.Answers.{AreTold}
use Rattle.bx_market.specs.Choices.{eligible_marks, IsBestBatch}
use Rattle.bx_market.specs.Choosing.{chosen_rows}
use Rattle.bx_sales.specs.Sold.{AreSoldInTurn}

-- the world has gone through the deals of a run in which no second begins
pub record Asks {W : Type 0} (dealt : W → List Deal → W → Type 0) (channels : List Bool) (old new : W) (from to : Stand) : Type 0 where
  pub deals : List Deal
  pub done : dealt old deals new
  pub goes : IsMarketRun channels from deals to
  pub inside : begins_none (acts_of deals) ≡ true

module _ {W : Type 0} (dealt : W → List Deal → W → Type 0) (channels : List Bool) (old new : W) where
  -- the run stands there; or something could not be logged, and nothing more is done, at the day that is logged
  abbrev pub OrOver : {A : Type 0} → Stand → Stand → Result A CannotLog → Type 0
  OrOver from to (Ok _) = Asks dealt channels old new from to
  OrOver from to (Err fault) = (d : Day) × Asks dealt channels old new from (Within (Over d))

module _ {W : Type 0} (dealt : W → List Deal → W → Type 0) (channels : List Bool) (tag : Option Tag) (old new : W) where
  -- a booking of a batch was offered, under this key or none: it is sold and in the journal, or refused, and nothing changed
  abbrev pub IsOffered : Day → List Row → List Row → Row → Day → Day → Result Answer CannotLog → Type 0
  IsOffered shown batch sold row d d1 (Ok Accepted) = Asks dealt channels old new (Filing shown d tag batch sold) (Filing shown d1 tag batch (sold ++ row ∷ []))
  IsOffered shown batch sold row d d1 (Ok (Refused why)) = Asks dealt channels old new (Filing shown d tag batch sold) (Filing shown d1 tag batch sold) × (d1 ≡ d)
  IsOffered shown batch sold row d d1 (Err fault) = (over : Day) × Asks dealt channels old new (Filing shown d tag batch sold) (Within (Over over))

  -- in any batch, whatever was sold of it before
  abbrev pub IsOfferedInAny : Row → Day → Day → Result Answer CannotLog → Type 0
  IsOfferedInAny row d d1 result = (shown : Day) (batch sold : List Row) → IsOffered shown batch sold row d d1 result

module _ {W : Type 0} (dealt : W → List Deal → W → Type 0) (old new : W) where
  -- the customer of any batch is told, to whom this may be told; what is sold of it is on the disk by then
  abbrev pub TellsOfAny : List Answer → Bool → Result (Unit {0}) CannotLog → Type 0
  TellsOfAny answers is_any_sold result =
      (channels : List Bool) (shown d : Day) (tag : Option Tag) (batch : List Row) → AreTold (left_in_service channels shown) shown batch answers
      → (is_any_sold ≡ false → sold_of batch answers ≡ [])
      → OrOver dealt channels old new (Filing shown d tag batch (sold_of batch answers)) (Within (Between d)) result

  -- the customer is told that memory ran out
  abbrev pub TellsOfMemory : Day → List Row → Type 0
  TellsOfMemory d batch = (channels : List Bool) (tag : Option Tag) → Asks dealt channels old new (Filing d d tag batch []) (Within (Between d))

module _ {W : Type 0} (dealt : W → List Deal → W → Type 0) (old new : W) where
  -- whatever change this line tells, that is done: it is in the journal and on the disk, and its customer is told
  abbrev pub KeepsAny : Amendment → List ℕ → Result (Unit {0}) CannotLog → Type 0
  KeepsAny kind line result =
      (channels : List Bool) (shown d : Day) (request : Request) → AmendsDay channels row_on kind line shown d → IsLineOf request kind line
      → OrOver dealt channels old new (Changing shown request) (Within (Between d)) result

module _ {W : Type 0} (dealt : W → List Deal → W → Type 0) (channels : List Bool) (old new : W) where
  -- wherever a channel of these is lost
  abbrev pub LeavesAt : {A : Type 0} → Day → Day → Result A CannotLog → Type 0
  LeavesAt d d1 result = (shown : Day) → OrOver dealt channels old new (Leaving shown d) (Leaving shown d1) result

module _ {W : Type 0} (dealt : W → List Deal → W → Type 0) (old new : W) where
  -- wherever a channel is lost, this is a step away from it, or several, each in the journal
  abbrev pub LeavesAny : {A : Type 0} → Day → Day → Result A CannotLog → Type 0
  LeavesAny d d1 result = (channels : List Bool) (shown : Day) → OrOver dealt channels old new (Leaving shown d) (Leaving shown d1) result

  abbrev pub LeavesSoFar : Day → Day → Type 0
  LeavesSoFar d d1 = (channels : List Bool) (shown : Day) → Asks dealt channels old new (Leaving shown d) (Leaving shown d1)

-- what has become of a booking that was offered: it is sold; or why it is not
abbrev pub IsOfferSettled : List Bool → Row → Day → Day → Result Answer CannotLog → Type 0
IsOfferSettled channels row d d1 (Ok Accepted) = IsSold channels row d d1
IsOfferSettled channels row d d1 (Ok (Refused Late)) = row.start ≤ d.moment
IsOfferSettled channels row d d1 (Ok (Refused Full)) = MAX_BOOKINGS ≤ length d.entries
IsOfferSettled channels row d d1 (Ok (Refused NoChannel)) = ¬ FitsBeside channels d (rows_with d row) (marks_with d)
IsOfferSettled channels row d d1 (Ok (Refused TookOver)) = ¬ AreReferredByRow d.entries
IsOfferSettled channels row d d1 (Ok (Refused Memory)) = Unit {0}
IsOfferSettled channels row d d1 (Err fault) = Unit {0}

-- a booking is sold, or nothing happens
abbrev pub IsSoldWhere : List Bool → Bool → Row → Day → Day → Type 0
IsSoldWhere channels true row d d1 = IsSold channels row d d1
IsSoldWhere channels false row d d1 = d1 ≡ d

module _ {W : Type 0} (dealt : W → List Deal → W → Type 0) (tag : Option Tag) (old new : W) where
  -- of a booking of any batch it is in the journal that it is sold, where it is so, or nothing is
  abbrev pub IsNotedInAny : Row → Bool → Result Answer CannotLog → Type 0
  IsNotedInAny row chosen result =
      (channels : List Bool) (shown d d1 : Day) (batch sold : List Row) → IsSoldWhere (left_in_service channels d) chosen row d d1 → IsOffered dealt channels tag old new shown batch sold row d d1 result

  -- wherever the best choice of a batch is sold, that is in the journal and on the disk, and its customer is told
  abbrev pub NotesAny : ℕ → List Row → List Bool → List Bool → Result (Unit {0}) CannotLog → Type 0
  NotesAny moment batch eligible chosen result =
      (channels : List Bool) (d d1 : Day) → d.moment ≡ moment → eligible ≡ eligible_marks d.moment (length d.entries) batch → IsBestBatch (left_in_service channels d) d batch chosen → AreSoldInTurn (left_in_service channels d) (chosen_rows batch chosen) d d1
      → OrOver dealt channels old new (Filing d d tag batch []) (Within (Between d1)) result

-- why a booking is not chosen, where it is eligible or not
abbrev pub why_not : ℕ → Row → Bool → NoSale
why_not moment row eligible = if nat_le row.start moment then Late else (if eligible then NoChannel else Full)
