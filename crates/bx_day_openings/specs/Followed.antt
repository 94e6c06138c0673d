-- Private: how a journal was followed.
use Rattle.std.specs.Prelude.{ℕ, List, Option}
use Rattle.bx_events.specs.Events.{LiveEvent}
use Rattle.bx_journal.specs.declared.head.Wanted.{Wanted}
use Rattle.bx_day_openings.specs.Journals.{IsJournal}

-- all its events were followed
pub record IsFollowedWhole {F : Type 0} (followed : F → List LiveEvent → F → Type 0) (wanted : Wanted) (before : Option (List ℕ)) (old new : F) : Type 0 where
  pub events : List LiveEvent
  pub journal : IsJournal wanted before events
  pub all : followed old events new
