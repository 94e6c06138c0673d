-- The day of an exchange after a journal that was read, by the text.
use Rattle.std.specs.Prelude.{◌≡◌, ◌⊎◌, ℕ, ◌≤◌, List, [], ◌++◌, length, take, Result, Ok, Err, Option, Some}
use Rattle.bx_events.specs.Events.{LiveEvent}
use Rattle.bx_day.specs.Day.{Day}
use Rattle.bx_day.specs.Outages.{live_day_after}
use Rattle.bx_journal.specs.declared.fault.JournalFault.{JournalFault}
use Rattle.bx_journal.specs.declared.fault.JournalFault.TheVariants.{BadLine, OtherPlan, OtherDay, OtherRules, NotBegun, ReadFailed}
use Rattle.bx_journal.specs.declared.head.Wanted.{Wanted}
use Rattle.bx_journal.specs.Reading.{recovered, journal_in, events_before}
use Rattle.bx_journal.specs.Heads.{IsWanted}
use Rattle.bx_journal.specs.Logging.{IsPrefix}
use Rattle.bx_journal.specs.declared.head.Head.{Head}

-- what follows a journal: the day goes on by its events
abbrev pub goes_on_by : Day → List LiveEvent → Day → Type 0
goes_on_by d events d' = d' ≡ live_day_after events d

-- the day after the events of this text, of which so many octets are whole lines
pub record IsDayByText (wanted : Wanted) (text : List ℕ) (old new : Day) (whole : ℕ) : Type 0 where
  pub events : List LiveEvent
  pub is : journal_in wanted text ≡ Ok (record { events = events; whole = whole })
  pub day : new ≡ live_day_after events old

-- the day after the events before the first fault of this text
pub record IsDayBefore (wanted : Wanted) (text : List ℕ) (old new : Day) (fault : JournalFault) : Type 0 where
  pub is : recovered wanted text ≡ Err fault
  pub day : new ≡ live_day_after (events_before wanted text) old

-- the day after the events of a prefix of this text, which has no fault but that it may end inside its head
pub record IsDayOfPrefix (wanted : Wanted) (text : List ℕ) (old new : Day) : Type 0 where
  pub prefix : List ℕ
  pub rest : List ℕ
  pub splits : text ≡ prefix ++ rest
  pub events : List LiveEvent
  pub is : (recovered wanted prefix ≡ Ok events) ⊎ ((recovered wanted prefix ≡ Err NotBegun) × (events ≡ []))
  pub day : new ≡ live_day_after events old

abbrev pub IsRecovered : Wanted → List ℕ → Day → Day → Result ℕ JournalFault → Type 0
IsRecovered wanted text old new (Ok whole) = IsDayByText wanted text old new whole
IsRecovered wanted text old new (Err (BadLine n)) = IsDayBefore wanted text old new (BadLine n)
IsRecovered wanted text old new (Err OtherPlan) = IsDayBefore wanted text old new OtherPlan
IsRecovered wanted text old new (Err OtherDay) = IsDayBefore wanted text old new OtherDay
IsRecovered wanted text old new (Err OtherRules) = IsDayBefore wanted text old new OtherRules
IsRecovered wanted text old new (Err NotBegun) = (recovered wanted text ≡ Err NotBegun) × (new ≡ old)
IsRecovered wanted text old new (Err ReadFailed) = IsDayOfPrefix wanted text old new

-- after a crash while more events were logged after those before: the day after all before, and a prefix of the others
abbrev pub IsPrefixDay : List LiveEvent → List LiveEvent → Day → Day → Result ℕ JournalFault → Type 0
IsPrefixDay before more old new (Ok whole) = (n : ℕ) × (n ≤ length more) × (new ≡ live_day_after (before ++ take n more) old)
IsPrefixDay before more old new (Err fault) = fault ≡ ReadFailed

-- where a crash left such a text in the journal of a head that is wanted, the day is the one after all before, and a prefix of more
abbrev pub IsPrefixRecovered : Wanted → Option (List ℕ) → Day → Day → Result ℕ JournalFault → Type 0
IsPrefixRecovered wanted known old new whole =
    (head : Head) (text : List ℕ) (before more : List LiveEvent) →
    IsWanted wanted head →
    known ≡ Some text →
    IsPrefix head before more text →
    IsPrefixDay before more old new whole
