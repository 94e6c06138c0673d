-- An exchange that follows a journal, with what amends its plan.
use Rattle.std.specs.Prelude.{◌≡◌, ℕ, Bool, List, [], ◌∷◌, ◌++◌, Option, None}
use Rattle.bx_day.specs.Day.{Day}
use Rattle.bx_events.specs.Events.{LiveEvent, OnLink, WithoutLink, Amended, HeardByRulesTwo}
use Rattle.bx_events.specs.declared.amendment.Amendment.{Amendment}
use Rattle.bx_events.specs.declared.amendment.Amendment.TheVariants.{Sold, Cancelled, Changed, SoldByRulesTwo, Delayed, Dropped, Out}
use Rattle.bx_day.specs.declared.outcome.GivenUp.{GivenUp}
use Rattle.bx_sales.specs.GivenUps.{noted_by}
use Rattle.bx_sales.specs.Tags.{tag_of}
use Rattle.bx_sales.specs.declared.tag.Tag.{Tag}
use Rattle.bx_planfile.specs.OneBooking.{row_on}
use Rattle.bx_sales.specs.Journal.{RunsThrough}
use Rattle.bx_day_openings.specs.declared.selling.Selling.{Selling}
use Rattle.bx_day_openings.specs.Going.{GoesFrom}

-- a day that goes through events, and goes on with another plan at each line that amends it
abbrev pub day_goes : List Bool → Day → List LiveEvent → Day → Type 0
day_goes channels old events new = RunsThrough channels row_on events old new

-- of each sale under which key it was asked for, or none
abbrev pub tagged_by : Amendment → List ℕ → List (Option Tag) → List (Option Tag)
tagged_by Sold line tags = tag_of line ∷ tags
tagged_by Cancelled line tags = tags
tagged_by Changed line tags = tags
tagged_by SoldByRulesTwo line tags = tag_of line ∷ tags
tagged_by Delayed line tags = tags
tagged_by Dropped line tags = tags
tagged_by Out line tags = tags

abbrev pub tags_in : List LiveEvent → List (Option Tag)
tags_in [] = []
tags_in (Amended kind line ∷ events) = tagged_by kind line (tags_in events)
tags_in (OnLink event ∷ events) = tags_in events
tags_in (WithoutLink rules ∷ events) = tags_in events
tags_in (HeardByRulesTwo octets ∷ events) = tags_in events

abbrev pub tags_go : List (Option Tag) → List LiveEvent → List (Option Tag) → Type 0
tags_go old events new = new ≡ old ++ tags_in events

-- of each booking that is given up how, by the number of its row
abbrev pub notes_go : List (Option GivenUp) → List LiveEvent → List (Option GivenUp) → Type 0
notes_go old events new = new ≡ noted_by old events

abbrev pub IsAfter : Selling → List LiveEvent → Selling → Type 0
IsAfter old events new =
    (new.channels ≡ old.channels)
    × GoesFrom (day_goes old.channels) (λ (d : Day). d) old.channels old.fault old.exchange events new.exchange new.fault
    × (new.fault ≡ None → tags_go old.tags.items events new.tags.items)
    × (new.fault ≡ None → notes_go old.given_up.items events new.given_up.items)
