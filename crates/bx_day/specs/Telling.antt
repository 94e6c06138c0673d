-- How a day is told: a line for each booking, and one for the channels in maintenance.
use Rattle.std.specs.Prelude.{ℕ, List, [], ◌∷◌, ◌++◌, Bool, Option, Some, None, map, codes, decimal, get_or}
use Rattle.std.specs.List.{flat_map}
use Rattle.bx_text.specs.Lines.{line_text, members_from}
use Rattle.bx_day.specs.Day.{Day}
use Rattle.bx_day.specs.Reading.{outcome_of}
use Rattle.bx_day.specs.declared.entry.Entry.{Entry}
use Rattle.bx_day.specs.declared.outcome.GivenUp.{GivenUp}
use Rattle.bx_day.specs.declared.outcome.GivenUp.TheVariants.{Cancelled, Dropped}
use Rattle.bx_day.specs.declared.outcome.Outcome.{Outcome}
use Rattle.bx_day.specs.declared.outcome.Outcome.TheVariants.{Refused, Waiting, Live, Carried, Unanswered, Missed}

abbrev pub outcome_fields : Outcome → List (List ℕ)
outcome_fields Refused = codes "refused" ∷ []
outcome_fields Waiting = codes "waiting" ∷ []
outcome_fields Live = codes "live" ∷ []
outcome_fields (Carried from until) = codes "carried" ∷ decimal from ∷ decimal until ∷ []
outcome_fields Unanswered = codes "unanswered" ∷ []
outcome_fields Missed = codes "missed" ∷ []

abbrev pub given_up_fields : GivenUp → List (List ℕ)
given_up_fields Cancelled = codes "cancelled" ∷ []
given_up_fields Dropped = codes "dropped" ∷ []

-- who was given up is refused by the last plan, and is told how that came
abbrev pub told_fields : Option GivenUp → Outcome → List (List ℕ)
told_fields (Some how) Refused = given_up_fields how
told_fields given_up outcome = outcome_fields outcome

-- of a booking: its row, and its outcome; the list has a place for each number of a row, and one of no row
abbrev pub entry_fields : List (Option GivenUp) → Entry → List (List ℕ)
entry_fields given_up e = decimal e.row ∷ told_fields (get_or given_up e.row None) (outcome_of e.standing)

abbrev pub or_none : List (List ℕ) → List (List ℕ)
or_none [] = codes "none" ∷ []
or_none (field ∷ fields) = field ∷ fields

abbrev pub maintenance_fields : List Bool → List (List ℕ)
maintenance_fields channels = codes "maintenance" ∷ or_none (map decimal (members_from 0 channels))

abbrev pub outcomes_text : List (Option GivenUp) → Day → List ℕ
outcomes_text given_up d = flat_map line_text (map (entry_fields given_up) d.entries) ++ line_text (maintenance_fields d.maintenance)
