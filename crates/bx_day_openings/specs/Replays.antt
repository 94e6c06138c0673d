-- A day that has gone through the events of its journal and what amends its plan, or why it has not.
use Rattle.std.specs.Prelude.{◌≡◌, ◌⊎◌, ℕ, Bool, List, ◌++◌, Option, Some, None, Ok}
use Rattle.bx_check_commands.specs.declared.fault.CommandFault.TheVariants.{Memory}
use Rattle.bx_day.specs.Day.{Day}
use Rattle.bx_day.specs.declared.outcome.GivenUp.{GivenUp}
use Rattle.bx_sales.specs.GivenUps.{none_given_up}
use Rattle.bx_day_openings.specs.declared.fault.DayCommandFault.{DayCommandFault}
use Rattle.bx_day_openings.specs.declared.fault.DayCommandFault.TheVariants.{Command, Amendment}
use Rattle.bx_day_openings.specs.JournalRefusals.{IsNoJournal, HasNoJournal}
use Rattle.bx_day_openings.specs.Journals.{IsJournal}
use Rattle.bx_events.specs.Events.{LiveEvent}
use Rattle.bx_journal.specs.Reading.{recovered, events_before}
use Rattle.bx_journal.specs.declared.head.Wanted.{Wanted}
use Rattle.bx_day_openings.specs.Amendments.{AmendmentIn, IsBadAmendment}
use Rattle.bx_day_openings.specs.Selling.{day_goes, notes_go}
use Rattle.bx_day_openings.specs.declared.amending.AmendmentFault.{AmendmentFault}
use Rattle.bx_devices.specs.Devices.{Reading}

-- just the events of a journal happened, and what amends the plan was done again where it stands
pub record IsDayThrough (channels : List Bool) (wanted : Wanted) (before : Option (List ℕ)) (opened day : Day) : Type 0 where
  pub events : List LiveEvent
  pub journal : IsJournal wanted before events
  pub through : day_goes channels opened events day

-- and how bookings were given up is what was noted of the same events
pub record IsDayNoted (channels : List Bool) (wanted : Wanted) (before : Option (List ℕ)) (opened day : Day) (given_up : List (Option GivenUp)) : Type 0 where
  pub events : List LiveEvent
  pub journal : IsJournal wanted before events
  pub through : day_goes channels opened events day
  pub noted : notes_go none_given_up events given_up

-- a prefix of what there was to read, where it is told, has just these events, up to its first line that is wrong
pub record IsReadSoFar (wanted : Wanted) (before : Option (List ℕ)) (events : List LiveEvent) : Type 0 where
  pub read : List ℕ
  pub prefix : (known : List ℕ) → before ≡ Some known → (rest : List ℕ) × (known ≡ read ++ rest)
  pub are : (recovered wanted read ≡ Ok events) ⊎ (events_before wanted read ≡ events)

-- a journal has a line that amends the plan and is none of the day that it has come to, and all before it is right
pub record HasBadAmendment (channels : List Bool) (wanted : Wanted) (before : Option (List ℕ)) (opened : Day) (fault : AmendmentFault) : Type 0 where
  pub events : List LiveEvent
  pub read : IsReadSoFar wanted before events
  pub amendment : AmendmentIn events
  pub day : Day
  pub through : day_goes channels opened amendment.before day
  pub why : IsBadAmendment channels amendment.kind amendment.line day fault

-- why a day has not gone through the journal of this name, of which nothing was read where memory ran out
abbrev pub IsNoReplay : List ℕ → Wanted → List Bool → Day → Option (List ℕ) → Option (List ℕ) → Bool → DayCommandFault → Type 0
IsNoReplay name wanted channels opened before after faulted (Amendment fault) = HasBadAmendment channels wanted before opened fault
IsNoReplay name wanted channels opened before after faulted (Command Memory) = after ≡ before
IsNoReplay name wanted channels opened before after faulted fault = IsNoJournal name wanted before after faulted fault

-- the same of a file of this name, which is not opened, or does not tell its octets
abbrev pub HasNoReplay : List ℕ → Wanted → List Bool → Day → DayCommandFault → Type 0
HasNoReplay name wanted channels opened (Amendment fault) = HasBadAmendment channels wanted None opened fault
HasNoReplay name wanted channels opened (Command Memory) = Unit {0}
HasNoReplay name wanted channels opened fault = HasNoJournal name wanted fault

-- the same of what was read
abbrev pub IsNoReplayAsRead : List ℕ → Wanted → List Bool → Day → Reading → DayCommandFault → Type 0
IsNoReplayAsRead name wanted channels opened reading = IsNoReplay name wanted channels opened reading.before reading.after reading.is_faulted
