-- What holds of every run with sales: nothing is sold outside the journal, of each batch the best choice is sold, and the day is that of the last plan.
use Rattle.std.specs.Prelude.{◌≡◌, ◌⊎◌, ◌<◌, ℕ, Bool, true, false, List, [], ◌∷◌, ◌++◌, map, length, Option, Some, Result, Ok, Err}
use Rattle.bx_base.specs.Bookings.{Row, AreBookings, Carries}
use Rattle.bx_base.specs.Plans.{is_accepted, channel_at}
use Rattle.bx_colour.specs.Colouring.{IsFirstFit}
use Rattle.bx_day.specs.Course.{exchange_sent, exchange_text}
use Rattle.bx_day.specs.Day.{Day, opening}
use Rattle.bx_day.specs.Law.{IsOrderly, SentFits}
use Rattle.bx_day.specs.Outages.{live_day_after, live_happens, lost_since}
use Rattle.bx_events.specs.Events.{Event, LiveEvent, OnLink, Amended}
use Rattle.bx_events.specs.declared.amendment.Amendment.{Amendment}
use Rattle.bx_events.specs.declared.amendment.Amendment.TheVariants.{Sold}
use Rattle.bx_live.specs.Acts.{Act, Wrote, logged_by}
use Rattle.bx_live.specs.Written.{filed, AreHeard}
use Rattle.bx_live.specs.Runs.{Between}
use Rattle.bx_planfile.specs.OneBooking.{row_on}
use Rattle.bx_sales.specs.Amending.{AmendsDay}
use Rattle.bx_sales.specs.Journal.{RunsThrough, sold_in, rows_after, marks_after, HasLastPlan, AreAllLeft}
use Rattle.bx_sales.specs.Left.{left_in_service}
use Rattle.bx_sales.specs.declared.changing.NoChange.{NoChange}
use Rattle.bx_sales.specs.declared.selling.NoSale.TheVariants.{Memory, TookOver}
use Rattle.bx_sales.specs.Tags.{tag_of}
use Rattle.bx_sales.specs.declared.tag.Tag.{Tag}
use Rattle.bx_market.specs.declared.market.Batch.{Batch}
use Rattle.bx_market.specs.declared.market.Request.{Request}
use Rattle.bx_market.specs.declared.market.Request.TheVariants.{Sell}
use Rattle.bx_market.specs.declared.market.Answer.{Answer}
use Rattle.bx_market.specs.declared.market.Answer.TheVariants.{Accepted, Refused}
use Rattle.bx_market.specs.Answers.{answer_at, AreTold}
use Rattle.bx_market.specs.Choices.{IsBestBatch}
use Rattle.bx_market.specs.Changes.{IsLineOf, IsNotChanged}
use Rattle.bx_market.specs.Deals.{Deal, Ran, Asked, Answered, ToldOfChange, Lost, Moved, acts_of, sold_of}
use Rattle.bx_market.specs.Leaving.{IsLeftWhole}
use Rattle.bx_market.specs.Stands.{Stand, Within, IsMarketRun, stand_day}

-- each line that amends the plan is that of a sale, and has this key, or none has one
abbrev pub AreUnder : Option Tag → List LiveEvent → Type 0
AreUnder tag [] = Unit {0}
AreUnder tag (Amended kind line ∷ events) = (kind ≡ Sold) × (tag_of line ≡ tag) × AreUnder tag events
AreUnder tag (event ∷ events) = AreUnder tag events

-- what a customer is told after these deals is logged: since the batch was asked for, just those of its bookings were logged as
-- sold that are answered as accepted, each with the key under which it was asked for; where there are such, all that is logged is on the disk
pub record IsToldOnLog (deals : List Deal) (answers : List Answer) : Type 0 where
  pub shown : Day
  pub batch : Batch
  pub before : List Deal
  pub since : List Deal
  pub are : deals ≡ before ++ Asked shown (Some (Sell batch)) ∷ since
  pub sold : sold_in row_on (logged_by (acts_of since)) ≡ sold_of batch.bookings answers
  pub under : AreUnder batch.tag (logged_by (acts_of since))
  pub on_disk : (sold_of batch.bookings answers ≡ []) ⊎ ((filed (acts_of deals)).more ≡ [])

-- whether a booking is told as accepted
abbrev pub is_sold : Answer → Bool
is_sold Accepted = true
is_sold (Refused why) = false

-- memory did not run out, and the day did not take over from another
abbrev pub IsUnhindered : Answer → Type 0
IsUnhindered answer = ¬ (answer ≡ Refused Memory) × ¬ (answer ≡ Refused TookOver)

-- what a customer is told after these deals is the best choice of the batch, on the channels that are left, beside all that was promised when it was asked
-- for: no other choice that keeps those promises pays more than what is accepted. Where memory ran out some are told so
pub record IsToldOfBest (channels : List Bool) (deals : List Deal) (answers : List Answer) : Type 0 where
  pub shown : Day
  pub batch : Batch
  pub before : List Deal
  pub since : List Deal
  pub are : deals ≡ before ++ Asked shown (Some (Sell batch)) ∷ since
  pub told : AreTold (left_in_service channels shown) shown batch.bookings answers
  pub best : ((i : ℕ) → i < length batch.bookings → IsUnhindered (answer_at answers i)) → IsBestBatch (left_in_service channels shown) shown batch.bookings (map is_sold answers)

abbrev pub IsBestOfEachBatch : Type 0
IsBestOfEachBatch = (channels : List Bool) (d : Day) (before following : List Deal) (answers : List Answer) (to : Stand) →
    IsMarketRun channels (Within (Between d)) (before ++ Answered answers ∷ following) to → IsToldOfBest channels before answers

abbrev pub IsNothingOffLog : Type 0
IsNothingOffLog = (channels : List Bool) (d : Day) (before following : List Deal) (answers : List Answer) (to : Stand) →
    IsMarketRun channels (Within (Between d)) (before ++ Answered answers ∷ following) to → IsToldOnLog before answers

-- What a customer is told of a change is so: it is done just where the day was shown, one line of the journal tells it and none else was logged since it was
-- asked for, and all is on the disk; or nothing was logged since, and it is true why
pub record IsDoneOnLog (channels : List Bool) (shown : Day) (request : Request) (deals since : List Deal) : Type 0 where
  pub kind : Amendment
  pub line : List ℕ
  pub logged : logged_by (acts_of since) ≡ Amended kind line ∷ []
  pub tells : IsLineOf request kind line
  pub day : Day
  pub amended : AmendsDay channels row_on kind line shown day
  pub on_disk : (filed (acts_of deals)).more ≡ []

abbrev pub IsChangeTold : List Bool → Day → Request → List Deal → List Deal → Result (Unit {0}) NoChange → Type 0
IsChangeTold channels shown request deals since (Ok done) = IsDoneOnLog channels shown request deals since
IsChangeTold channels shown request deals since (Err why) = (logged_by (acts_of since) ≡ []) × IsNotChanged (left_in_service channels shown) shown request why

pub record IsToldOfChange (channels : List Bool) (deals : List Deal) (answer : Result (Unit {0}) NoChange) : Type 0 where
  pub shown : Day
  pub request : Request
  pub before : List Deal
  pub since : List Deal
  pub are : deals ≡ before ++ Asked shown (Some request) ∷ since
  pub told : IsChangeTold channels shown request deals since answer

abbrev pub IsNoChangeOffLog : Type 0
IsNoChangeOffLog = (channels : List Bool) (d : Day) (before following : List Deal) (answer : Result (Unit {0}) NoChange) (to : Stand) →
    IsMarketRun channels (Within (Between d)) (before ++ ToldOfChange answer ∷ following) to → IsToldOfChange channels before answer

-- What is told of a channel that was lost and left as a whole, on the day that is shown then: nothing has to leave it any more, and of all that was promised
-- where it was lost what is kept pays most: no other set with all that has begun, which the channels left carry, pays more
pub record IsToldOfLeaving (channels : List Bool) (deals : List Deal) (now : Day) : Type 0 where
  pub shown : Day
  pub before : List Deal
  pub since : List Deal
  pub are : deals ≡ before ++ Lost shown ∷ since
  pub left : IsLeftWhole channels shown now

abbrev pub IsLeastGivenUp : Type 0
IsLeastGivenUp = (channels : List Bool) (d : Day) (before following : List Deal) (now : Day) (to : Stand) →
    IsMarketRun channels (Within (Between d)) (before ++ Moved now true ∷ following) to → IsToldOfLeaving channels before now

-- where a run begins on the day of a plan, no customer is told that the day took over from another
abbrev pub IsNeverTakenOver : Type 0
IsNeverTakenOver = (channels : List Bool) (rows : List Row) (marks : List Bool) (events : List LiveEvent) (d : Day) (before following : List Deal) (answers : List Answer) (to : Stand) →
    HasLastPlan channels rows marks events d → IsMarketRun channels (Within (Between d)) (before ++ Answered answers ∷ following) to → (i : ℕ) → i < length answers → ¬ (answer_at answers i ≡ Refused TookOver)

-- Wherever a run stands that began on the day of a plan, its day is that of a last plan, which the channels carry: of the rows of that plan as all that is
-- logged amends them, by the events before and those that are logged
abbrev pub IsDayOfSomePlan : Type 0
IsDayOfSomePlan = (channels : List Bool) (rows : List Row) (marks : List Bool) (earlier : List LiveEvent) (d : Day) (deals : List Deal) (to : Stand) →
    HasLastPlan channels rows marks earlier d → IsMarketRun channels (Within (Between d)) deals to →
    HasLastPlan channels (rows_after row_on (logged_by (acts_of deals)) rows) (marks_after (logged_by (acts_of deals)) marks) (earlier ++ logged_by (acts_of deals)) (stand_day to)

-- a day of a plan, on which no channel is held twice and all calls are in their time, by that plan; and what is sent at one more event fits it
pub record IsOrderlyDay (channels : List Bool) (rows : List Row) (marks : List Bool) (events : List LiveEvent) (d : Day) : Type 0 where
  pub plan : HasLastPlan channels rows marks events d
  pub orderly : IsOrderly rows plan.last (λ m. lost_since m events (opening rows plan.last)) d
  pub sent : (event : LiveEvent) → SentFits rows plan.last (live_happens d event)

-- so is the day of a run wherever it stands
abbrev pub IsOrderlyRun : Type 0
IsOrderlyRun = (channels : List Bool) (rows : List Row) (marks : List Bool) (earlier : List LiveEvent) (d : Day) (deals : List Deal) (to : Stand) →
    HasLastPlan channels rows marks earlier d → IsMarketRun channels (Within (Between d)) deals to →
    IsOrderlyDay channels (rows_after row_on (logged_by (acts_of deals)) rows) (marks_after (logged_by (acts_of deals)) marks) (earlier ++ logged_by (acts_of deals)) (stand_day to)

-- A run that goes on from the day of a plan, and has lost no channel: the rows of that plan, as all that is logged amends them, coloured once, have the day
-- by the events before and those in the journal. It may have gone on with a journal, whose amendments the plan has by then.
abbrev pub IsDayOfTheLastPlan : Type 0
IsDayOfTheLastPlan = (channels : List Bool) (rows : List Row) (accepted : List Bool) (assigned : List (Option ℕ)) (earlier : List LiveEvent) (d : Day) (deals : List Deal) (to : Stand) →
    length accepted ≡ length rows → AreBookings rows → Carries rows channels (is_accepted assigned) (channel_at assigned) → IsFirstFit rows channels accepted assigned →
    d ≡ live_day_after earlier (opening rows assigned) → IsMarketRun channels (Within (Between d)) deals to → AreAllLeft channels (stand_day to) →
    (last : List (Option ℕ)) →
    IsFirstFit (rows_after row_on (logged_by (acts_of deals)) rows) channels (marks_after (logged_by (acts_of deals)) accepted) last →
    stand_day to ≡ live_day_after (earlier ++ logged_by (acts_of deals)) (opening (rows_after row_on (logged_by (acts_of deals)) rows) last)

-- Octets that are written after these acts: they are those of an event that is logged, on the day that went through what was logged before it. No second has
-- begun and nothing was sold since, and where messages are among them all that is logged is on the disk
pub record IsWrittenForEvent (channels : List Bool) (d : Day) (acts : List Act) (octets : List ℕ) : Type 0 where
  pub earlier : List LiveEvent
  pub event : Event
  pub later : List LiveEvent
  pub logged : logged_by acts ≡ earlier ++ OnLink event ∷ later
  pub day : Day
  pub through : RunsThrough channels row_on earlier d day
  pub heard : AreHeard later
  pub text : octets ≡ exchange_text day event
  pub synced : (exchange_sent day event ≡ []) ⊎ ((filed acts).more ≡ [])

abbrev pub IsAllWrittenForEvents : Type 0
IsAllWrittenForEvents = (channels : List Bool) (d : Day) (before after : List Deal) (octets : List ℕ) (done : Bool) (to : Stand) →
    IsMarketRun channels (Within (Between d)) (before ++ Ran (Wrote octets done) ∷ after) to → IsWrittenForEvent channels d (acts_of before) octets
