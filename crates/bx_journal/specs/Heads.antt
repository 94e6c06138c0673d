-- What a journal is of, and what is wanted of one that is read.
use Rattle.std.specs.Prelude.{◌≡◌, ◌<◌, ◌≤◌, ℕ, List, Option, Some, None}
use Rattle.bx_journal.specs.declared.head.Head.{Head}
use Rattle.bx_journal.specs.declared.head.JournalDay.{JournalDay}
use Rattle.bx_journal.specs.declared.head.JournalDay.TheVariants.{Rehearsed, Live}
use Rattle.bx_journal.specs.declared.head.Wanted.{Wanted}

-- a day that has a line: both numbers have 32 bits, and the pace is at least 1
abbrev pub IsJournalDay : JournalDay → Type 0
IsJournalDay Rehearsed = Unit {0}
IsJournalDay (Live first pace) = (first < 4294967296) × (1 ≤ pace) × (pace < 4294967296)

-- a journal of this plan and this day is wanted
abbrev pub wanted_of : Head → Wanted
wanted_of head = record { plan = head.plan; day = Some head.day }

-- a journal of this plan is wanted, of whatever day
abbrev pub of_any_day : List ℕ → Wanted
of_any_day plan = record { plan = plan; day = None }

-- this day is wanted
abbrev pub IsWantedDay : Option JournalDay → JournalDay → Type 0
IsWantedDay None day = Unit {0}
IsWantedDay (Some wanted) day = wanted ≡ day

-- a journal of this head is wanted
pub record IsWanted (wanted : Wanted) (head : Head) : Type 0 where
  pub plan : wanted.plan ≡ head.plan
  pub day : IsWantedDay wanted.day head.day
