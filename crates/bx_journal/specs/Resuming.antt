-- Going on with a journal after a crash.
use Rattle.std.specs.Prelude.{◌≡◌, List, ℕ, Ok}
use Rattle.bx_journal.specs.Reading.{recovered, journal_in}
use Rattle.bx_journal.specs.declared.head.Wanted.{Wanted}
use Rattle.bx_events.specs.Events.{LiveEvent}
use Rattle.bx_journal.specs.Disk.{Only, LeavesOnly}
use Rattle.bx_journal.specs.Heads.{wanted_of}
use Rattle.bx_journal.specs.Logging.{IsSettled}
use Rattle.bx_journal.specs.declared.head.Head.{Head}

-- what a crash left has the same events in the journal, or the same fault
abbrev pub IsReadAs : Wanted → List ℕ → List ℕ → Type 0
IsReadAs wanted octets left = recovered wanted left ≡ recovered wanted octets

-- From disk old to disk new what a crash tore was cut off: where the disk held a text of these events with so many octets of whole
-- lines, more can be logged after them.
abbrev pub IsResumed : {D : Type 0} → (D → List ℕ → Type 0) → (D → List ℕ → Type 0) → D → ℕ → D → Type 0
IsResumed holds may_leave old whole new =
    (head : Head) (text : List ℕ) (events : List LiveEvent) →
    journal_in (wanted_of head) text ≡ Ok (record { events = events; whole = whole }) →
    holds old text →
    IsSettled holds may_leave new head events

-- a crash at any moment of that leaves what is read as the text was
abbrev pub LeavesReadAs : {D : Type 0} →
    (D → List ℕ → Type 0) → (D → ℕ) → (D → ℕ → List ℕ → Type 0) →
    D → ℕ → D → Type 0
LeavesReadAs may_leave moment left_since old whole new =
    (wanted : Wanted) (text : List ℕ) (events : List LiveEvent) →
    journal_in wanted text ≡ Ok (record { events = events; whole = whole }) →
    Only text (may_leave old) →
    LeavesOnly moment left_since old new (IsReadAs wanted text)
