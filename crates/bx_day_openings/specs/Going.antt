-- What goes through the events of a journal and what amends its plan, up to the first line of these that is none of its day.
use Rattle.std.specs.Prelude.{◌≡◌, Bool, List, Option, Some, None}
use Rattle.bx_day.specs.Day.{Day}
use Rattle.bx_events.specs.Events.{LiveEvent}
use Rattle.bx_day_openings.specs.Amendments.{AmendmentIn, IsBadAmendment}
use Rattle.bx_day_openings.specs.declared.amending.AmendmentFault.{AmendmentFault}

-- it went through the events before this line, which is none of the day that it has come to
pub record IsStopped {S : Type 0} (goes : S → List LiveEvent → S → Type 0) (day : S → Day) (channels : List Bool) (old : S) (events : List LiveEvent) (new : S) (fault : AmendmentFault) : Type 0 where
  pub amendment : AmendmentIn events
  pub went : goes old amendment.before new
  pub why : IsBadAmendment channels amendment.kind amendment.line (day new) fault

-- it went through all events, or stopped
abbrev pub Goes : {S : Type 0} → (S → List LiveEvent → S → Type 0) → (S → Day) → List Bool → S → List LiveEvent → S → Option AmendmentFault → Type 0
Goes goes day channels old events new None = goes old events new
Goes goes day channels old events new (Some fault) = IsStopped goes day channels old events new fault

-- the same from where it went through all or had stopped before
abbrev pub GoesFrom : {S : Type 0} → (S → List LiveEvent → S → Type 0) → (S → Day) → List Bool → Option AmendmentFault → S → List LiveEvent → S → Option AmendmentFault → Type 0
GoesFrom goes day channels None old events new fault = Goes goes day channels old events new fault
GoesFrom goes day channels (Some stopped) old events new fault = (new ≡ old) × (fault ≡ Some stopped)
