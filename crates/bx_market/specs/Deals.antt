-- What a run with a market asked and answered: the acts of a run by the clock, and those towards customers.
use Rattle.std.specs.Prelude.{Bool, List, [], ◌∷◌, Option, Result}
use Rattle.bx_base.specs.Bookings.{Row}
use Rattle.bx_day.specs.Day.{Day}
use Rattle.bx_live.specs.Acts.{Act}
use Rattle.bx_sales.specs.declared.changing.NoChange.{NoChange}
use Rattle.bx_market.specs.declared.market.Request.{Request}
use Rattle.bx_market.specs.declared.market.Answer.{Answer}
use Rattle.bx_market.specs.declared.market.Answer.TheVariants.{Accepted, Refused}

pub data Deal : Type 0 where
  -- an act of the run by the clock
  Ran : (act : Act) → Deal
  -- the market was shown this day and asked what is wanted: a batch of bookings, maybe under a key, or a change of one of the day, or nothing
  Asked : (shown : Day) (request : Option Request) → Deal
  -- the customer of a batch was told which of its bookings are sold
  Answered : (answers : List Answer) → Deal
  -- the customer of a change was told whether it is done
  ToldOfChange : (answer : Result (Unit {0}) NoChange) → Deal
  -- a channel is lost: the market was shown this day before what is planned on it leaves it
  Lost : (shown : Day) → Deal
  -- and this one after that, as a whole or as far as memory let it
  Moved : (now : Day) (whole : Bool) → Deal

-- the acts of the run by the clock
abbrev pub acts_of : List Deal → List Act
acts_of [] = []
acts_of (Ran act ∷ deals) = act ∷ acts_of deals
acts_of (Asked shown request ∷ deals) = acts_of deals
acts_of (Answered answers ∷ deals) = acts_of deals
acts_of (ToldOfChange answer ∷ deals) = acts_of deals
acts_of (Lost shown ∷ deals) = acts_of deals
acts_of (Moved now whole ∷ deals) = acts_of deals

abbrev pub all_ran : List Act → List Deal
all_ran [] = []
all_ran (act ∷ acts) = Ran act ∷ all_ran acts

-- the bookings of a batch that were answered as accepted
abbrev pub sold_of : List Row → List Answer → List Row
sold_of [] answers = []
sold_of (row ∷ rows) [] = []
sold_of (row ∷ rows) (Accepted ∷ answers) = row ∷ sold_of rows answers
sold_of (row ∷ rows) (Refused why ∷ answers) = sold_of rows answers
