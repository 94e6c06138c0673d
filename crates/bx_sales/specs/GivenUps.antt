-- How the bookings of a day were given up, as the log of it tells: by the numbers of their rows, where the place of 0 is of no row.
use Rattle.std.specs.Prelude.{ℕ, ◌+◌, List, [], ◌∷◌, Option, Some, None, replicate, slice_set}
use Rattle.bx_base.specs.declared.bookings.TheConstants.{MAX_BOOKINGS}
use Rattle.bx_day.specs.declared.outcome.GivenUp.{GivenUp}
use Rattle.bx_day.specs.declared.outcome.GivenUp.TheVariants as how
use Rattle.bx_events.specs.Events.{LiveEvent, OnLink, WithoutLink, Amended, HeardByRulesTwo}
use Rattle.bx_events.specs.declared.amendment.Amendment.{Amendment}
use Rattle.bx_events.specs.declared.amendment.Amendment.TheVariants.{Sold, Cancelled, Changed, SoldByRulesTwo, Delayed, Dropped, Out}
use Rattle.bx_sales.specs.Amending.{row_numbered}

abbrev pub none_given_up : List (Option GivenUp)
none_given_up = replicate (MAX_BOOKINGS + 1) None

-- what is noted of the row that a line names
abbrev pub noted_row : List (Option GivenUp) → List ℕ → GivenUp → List (Option GivenUp)
noted_row given_up line word = slice_set given_up (row_numbered line) (Some word)

abbrev pub noted_of : List (Option GivenUp) → Amendment → List ℕ → List (Option GivenUp)
noted_of given_up Sold line = given_up
noted_of given_up Cancelled line = noted_row given_up line how.Cancelled
noted_of given_up Changed line = given_up
noted_of given_up SoldByRulesTwo line = given_up
noted_of given_up Delayed line = given_up
noted_of given_up Dropped line = noted_row given_up line how.Dropped
noted_of given_up Out line = given_up

abbrev pub noted_event : List (Option GivenUp) → LiveEvent → List (Option GivenUp)
noted_event given_up (OnLink event) = given_up
noted_event given_up (WithoutLink rules) = given_up
noted_event given_up (Amended kind line) = noted_of given_up kind line
noted_event given_up (HeardByRulesTwo octets) = given_up

-- what is noted of a day by what happened to it, one event after another
abbrev pub noted_by : List (Option GivenUp) → List LiveEvent → List (Option GivenUp)
noted_by given_up [] = given_up
noted_by given_up (event ∷ events) = noted_by (noted_event given_up event) events
