-- How the bookings of a day were given up, as its acts note it.
use Rattle.std.specs.Prelude.{◌≡◌, List, Option}
use Rattle.bx_day.specs.declared.outcome.GivenUp.{GivenUp}
use Rattle.bx_live.specs.Acts.{Act, logged_by}
use Rattle.bx_sales.specs.GivenUps.{noted_by}

-- the list is as it was before, as noted by just what these acts logged
abbrev pub NotesGivenUp : List Act → List (Option GivenUp) → List (Option GivenUp) → Type 0
NotesGivenUp acts old new = new ≡ noted_by old (logged_by acts)
