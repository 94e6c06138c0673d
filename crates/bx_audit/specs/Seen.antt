-- A day that has gone through its journal, with the outages of its link, or why it has not.
use Rattle.std.specs.Prelude.{◌≡◌, ℕ, Bool, List, Option}
use Rattle.bx_day.specs.Day.{Day}
use Rattle.bx_day_chart.specs.declared.outages.Outage.{Outage}
use Rattle.bx_day_openings.specs.Journals.{IsJournal}
use Rattle.bx_events.specs.Events.{LiveEvent}
use Rattle.bx_journal.specs.declared.head.Wanted.{Wanted}
use Rattle.bx_day_openings.specs.Selling.{day_goes}
use Rattle.bx_audit.specs.Noted.{outages_in}

-- just the events of a journal happened, what amends the plan was done again where it stands, and these are the outages of its link
pub record IsSeenThrough (channels : List Bool) (wanted : Wanted) (before : Option (List ℕ)) (opened day : Day) (outages : List Outage) : Type 0 where
  pub events : List LiveEvent
  pub journal : IsJournal wanted before events
  pub through : day_goes channels opened events day
  pub noted : outages ≡ outages_in events
