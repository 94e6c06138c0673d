-- A live run with sales: which acts come one after another.
use Rattle.std.specs.Prelude.{◌≡◌, ℕ, ◌≤◌, ◌<◌, Bool, true, false, List, [], ◌∷◌, ◌++◌, Option, Some, None, Ok, Err}
use Rattle.bx_base.specs.Bookings.{Row}
use Rattle.bx_day.specs.Day.{Day}
use Rattle.bx_events.specs.Events.{Amended}
use Rattle.bx_events.specs.declared.amendment.Amendment.{Amendment}
use Rattle.bx_events.specs.declared.amendment.Amendment.TheVariants.{Sold, Delayed, Dropped, Out}
use Rattle.bx_events.specs.declared.moment.TheConstants.{LAST_MOMENT}
use Rattle.bx_live.specs.Acts.{Began, Logged, Synced}
use Rattle.bx_live.specs.Held.{has_call}
use Rattle.bx_live.specs.Runs.{Place, Between, Over, IsDue, next, day_at}
use Rattle.bx_planfile.specs.OneBooking.{row_on}
use Rattle.bx_sales.specs.Amending.{AmendsDay}
use Rattle.bx_sales.specs.Left.{left_in_service}
use Rattle.bx_sales.specs.Selling.{IsSold}
use Rattle.bx_sales.specs.Tags.{row_behind, tag_of}
use Rattle.bx_sales.specs.declared.tag.Tag.{Tag}
use Rattle.bx_market.specs.declared.market.Batch.{Batch}
use Rattle.bx_market.specs.declared.market.Request.{Request}
use Rattle.bx_market.specs.declared.market.Request.TheVariants.{Sell, Cancel, Change}
use Rattle.bx_market.specs.Answers.{AreTold}
use Rattle.bx_market.specs.Changes.{IsLineOf, IsNotChanged}
use Rattle.bx_market.specs.Leaving.{IsLeftWhole}
use Rattle.bx_market.specs.Deals.{Deal, Ran, Asked, Answered, ToldOfChange, Lost, Moved, sold_of}

-- where a run stands
pub data Stand : Type 0 where
  -- in the run by the clock, at this place
  Within : (p : Place) → Stand
  -- a batch was asked for where the day was shown, under this key or none, and these of it are sold so far, each in the journal
  Filing : (shown d : Day) (tag : Option Tag) (batch sold : List Row) → Stand
  -- what is sold of the batch is on the disk
  Telling : (shown d : Day) (tag : Option Tag) (batch sold : List Row) → Stand
  -- a change was asked for where the day was shown, and is not done
  Changing : (shown : Day) (request : Request) → Stand
  -- it is done, and in the journal; and that is on the disk
  Noted : (shown d : Day) (request : Request) → Stand
  Kept : (shown d : Day) (request : Request) → Stand
  -- a channel is lost, where the day was shown, and what is planned on it leaves it, so far as this day, each step in the journal
  Leaving : (shown d : Day) → Stand
  -- all that was done of it is on the disk
  Left : (shown d : Day) → Stand

-- the day as far as its events and sales are logged
abbrev pub stand_day : Stand → Day
stand_day (Within p) = day_at p
stand_day (Filing shown d tag batch sold) = d
stand_day (Telling shown d tag batch sold) = d
stand_day (Changing shown request) = shown
stand_day (Noted shown d request) = d
stand_day (Kept shown d request) = d
stand_day (Leaving shown d) = d
stand_day (Left shown d) = d

-- one booking more is sold on the channels that are left, and in the journal with the key of its batch; or it could not be logged, and nothing more is done
abbrev pub FiledSale : List Bool → Day → Day → Option Tag → List Row → List Row → List ℕ → Bool → Stand → Type 0
FiledSale channels shown d tag batch sold line true to =
    (d1 : Day) × IsSold (left_in_service channels d) (row_behind row_on line) d d1 × (tag_of line ≡ tag) × (to ≡ Filing shown d1 tag batch (sold ++ row_behind row_on line ∷ []))
FiledSale channels shown d tag batch sold line false to = to ≡ Within (Over d)

-- all that is sold of the batch is on the disk; or it may not be, and nothing more is done
abbrev pub synced : Day → Day → Option Tag → List Row → List Row → Bool → Stand
synced shown d tag batch sold true = Telling shown d tag batch sold
synced shown d tag batch sold false = Within (Over d)

-- a change is done and in the journal; or it could not be logged, and nothing more is done
abbrev pub FiledChange : List Bool → Day → Request → Amendment → List ℕ → Bool → Stand → Type 0
FiledChange channels shown request kind line true to = (d : Day) × AmendsDay channels row_on kind line shown d × IsLineOf request kind line × (to ≡ Noted shown d request)
FiledChange channels shown request kind line false to = to ≡ Within (Over shown)

-- it is on the disk; or it may not be, and nothing more is done
abbrev pub kept_on_disk : Day → Day → Request → Bool → Stand
kept_on_disk shown d request true = Kept shown d request
kept_on_disk shown d request false = Within (Over d)

-- a step away from a lost channel is in the journal: a booking is delayed, or given up, or all that can leave it; or it could not be logged
abbrev pub IsLeavingStep : Amendment → Type 0
IsLeavingStep Delayed = Unit {0}
IsLeavingStep Dropped = Unit {0}
IsLeavingStep Out = Unit {0}
IsLeavingStep _ = ⊥

abbrev pub FiledStep : List Bool → Day → Day → Amendment → List ℕ → Bool → Stand → Type 0
FiledStep channels shown d kind line true to = (d1 : Day) × AmendsDay channels row_on kind line d d1 × IsLeavingStep kind × (to ≡ Leaving shown d1)
FiledStep channels shown d kind line false to = to ≡ Within (Over d)

-- all that was done is on the disk; or it may not be, and nothing more is done
abbrev pub left_on_disk : Day → Day → Bool → Stand
left_on_disk shown d true = Left shown d
left_on_disk shown d false = Within (Over d)

abbrev pub asked_batch : Day → Batch → Stand
asked_batch d batch = Filing d d batch.tag batch.bookings []

abbrev pub asked_for : Day → Request → Stand
asked_for d (Sell batch) = asked_batch d batch
asked_for d (Cancel row) = Changing d (Cancel row)
asked_for d (Change row booking) = Changing d (Change row booking)

abbrev pub asked_stand : Day → Option Request → Stand
asked_stand d None = Within (Between d)
asked_stand d (Some request) = asked_for d request

-- A deal leads from one stand to another. Between two seconds the market is shown the day so far, and asked. Each booking that is sold is logged, one sync
-- follows, and only then the customer is answered, of the best choice among the batch; where nothing is sold, no sync is wanted. A change is logged, on the
-- disk, and told, or it is told why it is not done. All of it counts on the channels that are left. Where a channel is lost the market is shown the day,
-- the bookings that are planned on it leave it, each step in the journal and all on the disk, and the market is shown the day again, with a word on whether
-- that was done as a whole.
abbrev pub GoesByDeal : List Bool → Stand → Deal → Stand → Type 0
GoesByDeal channels (Within p) (Ran act) to = IsDue p act × (to ≡ Within (next p act))
GoesByDeal channels (Within (Between d)) (Asked shown request) to = (shown ≡ d) × (to ≡ asked_stand d request)
GoesByDeal channels (Filing shown d tag batch sold) (Ran (Logged (Amended Sold line) done)) to = FiledSale channels shown d tag batch sold line done to
GoesByDeal channels (Filing shown d tag batch sold) (Ran (Synced done)) to = to ≡ synced shown d tag batch sold done
GoesByDeal channels (Filing shown d tag batch sold) (Answered answers) to = (sold ≡ []) × (sold_of batch answers ≡ []) × AreTold (left_in_service channels shown) shown batch answers × (to ≡ Within (Between d))
GoesByDeal channels (Telling shown d tag batch sold) (Answered answers) to = (sold_of batch answers ≡ sold) × AreTold (left_in_service channels shown) shown batch answers × (to ≡ Within (Between d))
GoesByDeal channels (Changing shown request) (Ran (Logged (Amended kind line) done)) to = FiledChange channels shown request kind line done to
GoesByDeal channels (Changing shown request) (ToldOfChange (Err why)) to = IsNotChanged (left_in_service channels shown) shown request why × (to ≡ Within (Between shown))
GoesByDeal channels (Noted shown d request) (Ran (Synced done)) to = to ≡ kept_on_disk shown d request done
GoesByDeal channels (Kept shown d request) (ToldOfChange (Ok done)) to = to ≡ Within (Between d)
GoesByDeal channels (Within (Between d)) (Lost shown) to = (shown ≡ d) × (to ≡ Leaving d d)
GoesByDeal channels (Leaving shown d) (Ran (Logged (Amended kind line) done)) to = FiledStep channels shown d kind line done to
GoesByDeal channels (Leaving shown d) (Ran (Synced done)) to = to ≡ left_on_disk shown d done
GoesByDeal channels (Left shown d) (Moved now whole) to = (now ≡ d) × (whole ≡ true → IsLeftWhole channels shown now) × (to ≡ Within (Between d))
GoesByDeal _ _ _ _ = ⊥

-- the deals of a run from one stand to another
abbrev pub IsMarketRun : List Bool → Stand → List Deal → Stand → Type 0
IsMarketRun channels from [] to = from ≡ to
IsMarketRun channels from (deal ∷ deals) to = (mid : Stand) × GoesByDeal channels from deal mid × IsMarketRun channels mid deals to

-- no second begins after `LAST_MOMENT`, and after the last one that was asked for one begins only while a call is up, by the day as it is then
abbrev pub IsHeldAt : ℕ → Deal → Stand → Type 0
IsHeldAt last (Ran (Began second begin)) (Within (Between d)) = (second ≤ LAST_MOMENT) × (last < second → has_call d ≡ true)
IsHeldAt last deal stand = Unit {0}

-- the deals of a run that is held open
abbrev pub IsHeldMarketRun : List Bool → ℕ → Stand → List Deal → Stand → Type 0
IsHeldMarketRun channels last from [] to = from ≡ to
IsHeldMarketRun channels last from (deal ∷ deals) to = (mid : Stand) × GoesByDeal channels from deal mid × IsHeldAt last deal from × IsHeldMarketRun channels last mid deals to

-- the world has gone through the deals of a run
pub record Deals {W : Type 0} (dealt : W → List Deal → W → Type 0) (channels : List Bool) (old new : W) (from to : Stand) : Type 0 where
  pub deals : List Deal
  pub done : dealt old deals new
  pub goes : IsMarketRun channels from deals to
