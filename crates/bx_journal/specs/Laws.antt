-- What the laws of a journal's text say.
use Rattle.std.specs.Prelude.{◌≡◌, ◌<◌, ℕ, true, List, [], ◌++◌, length, take, drop, Some, Ok, Err}
use Rattle.bx_events.specs.Events.{LiveEvent}
use Rattle.bx_journal.specs.declared.fault.JournalFault.TheVariants.{OtherRules}
use Rattle.bx_journal.specs.declared.head.Head.{Head}
use Rattle.bx_journal.specs.declared.head.JournalDay.{JournalDay}
use Rattle.bx_journal.specs.declared.head.Wanted.{Wanted}
use Rattle.bx_journal.specs.declared.head.TheConstants.{RULES, OLDER_RULES}
use Rattle.bx_journal.specs.declared.version.Version.{Version}
use Rattle.bx_journal.specs.Events.{AreEvents, AreOctets}
use Rattle.bx_journal.specs.Heads.{IsJournalDay, IsWanted, wanted_of}
use Rattle.bx_journal.specs.Lines.{whole_lines, line_ended}
use Rattle.bx_journal.specs.Text.{rules_line, version_line, journal_text}
use Rattle.bx_journal.specs.Versions.{is_older}
use Rattle.bx_journal.specs.Reading.{Recovery, IsJournalText, recovered, journal_in}

-- the text of events is read as these, where its own head is wanted, whatever stands after it that no LF ends
abbrev pub IsOwnTextReadAgain : Type 0
IsOwnTextReadAgain =
    (head : Head) (torn : List ℕ) (events : List LiveEvent) →
    IsJournalDay head.day →
    AreEvents events →
    whole_lines torn ≡ [] →
    journal_in (wanted_of head) (journal_text head events ++ torn) ≡ Ok (record { events = events; whole = length (journal_text head events) })

-- so is each text of events that is wanted
abbrev pub IsWantedTextReadAgain : Type 0
IsWantedTextReadAgain =
    (wanted : Wanted) (text torn : List ℕ) (events : List LiveEvent) →
    IsJournalText wanted events text →
    whole_lines torn ≡ [] →
    journal_in wanted (text ++ torn) ≡ Ok (record { events = events; whole = length text })

-- what is read is spelled so: its whole lines are a text of the events that is wanted, by the rules that its first line names, and no LF
-- stands after them
abbrev pub IsSpelledAsRead : Type 0
IsSpelledAsRead =
    (wanted : Wanted) (octets : List ℕ) (r : Recovery) →
    journal_in wanted octets ≡ Ok r →
    IsJournalText wanted r.events (take r.whole octets) × (whole_lines (drop r.whole octets) ≡ [])

-- what has one text has one head and one list of events
abbrev pub HasOneHeadAndEvents : Type 0
HasOneHeadAndEvents =
    (p q : Head) (a b : List LiveEvent) →
    AreOctets p.plan →
    AreOctets q.plan →
    IsJournalDay p.day →
    IsJournalDay q.day →
    AreEvents a →
    AreEvents b →
    journal_text p a ≡ journal_text q b →
    (p ≡ q) × (a ≡ b)

-- what is read where a head is wanted was written with this head
abbrev pub IsReadWithItsHeadAlone : Type 0
IsReadWithItsHeadAlone =
    (p q : Head) (torn : List ℕ) (events : List LiveEvent) (r : Recovery) →
    AreOctets p.plan →
    AreOctets q.plan →
    IsJournalDay p.day →
    AreEvents events →
    whole_lines torn ≡ [] →
    journal_in (wanted_of q) (journal_text p events ++ torn) ≡ Ok r →
    p ≡ q

-- a journal of version 1, or by the older rules, is none of any day, whatever stands after its first line
abbrev pub IsOlderOfNoDay : Type 0
IsOlderOfNoDay =
    (wanted : Wanted) (day : JournalDay) (version : Version) (following : List ℕ) →
    wanted.day ≡ Some day →
    is_older version ≡ true →
    recovered wanted (line_ended (version_line version) ++ following) ≡ Err OtherRules

-- one by any other rules is refused by all, whatever stands after its first line
abbrev pub IsReadByKnownRules : Type 0
IsReadByKnownRules =
    (wanted : Wanted) (rules : ℕ) (following : List ℕ) →
    rules < 4294967296 →
    (rules ≡ RULES → ⊥) →
    (rules ≡ OLDER_RULES → ⊥) →
    recovered wanted (line_ended (rules_line rules) ++ following) ≡ Err OtherRules

-- what is read where its head is wanted is read alike where less is
abbrev pub IsReadAlikeWithLess : Type 0
IsReadAlikeWithLess =
    (head : Head) (wanted : Wanted) (left : List ℕ) (events : List LiveEvent) →
    IsWanted wanted head →
    recovered (wanted_of head) left ≡ Ok events →
    recovered wanted left ≡ Ok events
