-- What a text is read as, or its first fault.
use Rattle.std.specs.Prelude.{◌≡◌, ℕ, ◌+◌, ◌==◌, ◌&&◌, nat_le, Bool, true, false, List, [], ◌∷◌, length, take, drop, Option, Some, None, Result, Ok, Err, codes, if◌then◌else◌}
use Rattle.std.specs.Str.{bytes_eq}
use Rattle.std.specs.List.{list_all}
use Rattle.std.specs.Option.{option_map}
use Rattle.bx_events.specs.Events.{Tick, Receive, LiveEvent, OnLink, WithoutLink, Amended, HeardByRulesTwo}
use Rattle.bx_events.specs.declared.amendment.Amendment.{Amendment}
use Rattle.bx_events.specs.declared.amendment.Amendment.TheVariants.{Sold, Cancelled, Changed, SoldByRulesTwo, Delayed, Dropped, Out}
use Rattle.bx_journal.specs.declared.fault.JournalFault.{JournalFault}
use Rattle.bx_journal.specs.declared.fault.JournalFault.TheVariants.{BadLine, OtherPlan, OtherDay, OtherRules, NotBegun}
use Rattle.bx_journal.specs.declared.head.Head.{Head}
use Rattle.bx_journal.specs.declared.head.JournalDay.{JournalDay}
use Rattle.bx_journal.specs.declared.head.JournalDay.TheVariants.{Rehearsed, Live}
use Rattle.bx_journal.specs.declared.head.TheConstants.{RULES, OLDER_RULES}
use Rattle.bx_journal.specs.declared.head.Wanted.{Wanted}
use Rattle.bx_journal.specs.declared.version.Version.{Version}
use Rattle.bx_journal.specs.declared.version.Version.TheVariants.{Undated, Older, Dated}
use Rattle.bx_journal.specs.Versions.{has_day, head_size, is_older, rules_of, IsReadWhere}
use Rattle.bx_journal.specs.Events.{is_printable, AreEventsIn}
use Rattle.bx_journal.specs.Heads.{IsJournalDay, IsWanted}
use Rattle.bx_journal.specs.Hex.{octets_of_digits, is_hex}
use Rattle.bx_journal.specs.Lines.{whole_lines, whole_text}
use Rattle.bx_journal.specs.Numbers.{number_on, space_at}
use Rattle.bx_journal.specs.Text.{amendment_word, plan_line, text_in}

-- what came, in a journal of this version
abbrev pub heard_event : Version → List ℕ → LiveEvent
heard_event version octets = if is_older version then HeardByRulesTwo octets else OnLink (Receive octets)

-- the same by its digits: at most those of the longest message
abbrev pub heard_on : Version → List ℕ → Option LiveEvent
heard_on version digits = if nat_le (length digits) 520 then option_map (heard_event version) (octets_of_digits 65 digits) else None

-- what amends the plan so, by what its line has behind the word
abbrev pub amended_on : Amendment → List ℕ → Option LiveEvent
amended_on kind text = if nat_le (length text) 200 && list_all is_printable text then Some (Amended kind text) else None

-- whether a line begins with the word of such amendments, and what it has behind it
abbrev pub begins_as : Amendment → List ℕ → Bool
begins_as kind line = bytes_eq (take (length (amendment_word kind)) line) (amendment_word kind)

abbrev pub behind_word : Amendment → List ℕ → List ℕ
behind_word kind line = drop (length (amendment_word kind)) line

-- a sale in a journal of this version
abbrev pub sale_of : Version → Amendment
sale_of version = if is_older version then SoldByRulesTwo else Sold

-- what amends the plan by these rules, and is no sale, by its line
abbrev pub change_on : List ℕ → Option LiveEvent
change_on line =
    if begins_as Cancelled line then amended_on Cancelled (behind_word Cancelled line)
    else if begins_as Changed line then amended_on Changed (behind_word Changed line)
    else if begins_as Delayed line then amended_on Delayed (behind_word Delayed line)
    else if begins_as Dropped line then amended_on Dropped (behind_word Dropped line)
    else if begins_as Out line then amended_on Out (behind_word Out line)
    else None

-- what amends the plan in a journal of this version, by its line: by the older rules bookings were sold, and nothing else
abbrev pub amendment_on : Version → List ℕ → Option LiveEvent
amendment_on version line =
    if begins_as Sold line then amended_on (sale_of version) (behind_word Sold line)
    else if is_older version then None
    else change_on line

-- the event of a line in a journal of this version
abbrev pub event_on : Version → List ℕ → Option LiveEvent
event_on version line =
    if bytes_eq line (codes "tick") then Some (OnLink Tick)
    else if bytes_eq line (codes "down") then Some (WithoutLink (rules_of version))
    else if bytes_eq (take 6 line) (codes "heard ") then heard_on version (drop 6 line)
    else amendment_on version line

-- an event, and those of the lines after it; the first fault is answered
abbrev pub with_event : ℕ → Option LiveEvent → Result (List LiveEvent) JournalFault → Result (List LiveEvent) JournalFault
with_event n None events = Err (BadLine n)
with_event n (Some event) (Ok events) = Ok (event ∷ events)
with_event n (Some event) (Err fault) = Err fault

-- the events of lines, the first of which is line n
abbrev pub events_on : Version → ℕ → List (List ℕ) → Result (List LiveEvent) JournalFault
events_on version n [] = Ok []
events_on version n (line ∷ lines) = with_event n (event_on version line) (events_on version (n + 1) lines)

-- ---- the head

-- a version by the older rules, where this day is wanted: no exchange goes on with one
abbrev pub older_version : Version → Option JournalDay → Result Version JournalFault
older_version version None = Ok version
older_version version (Some day) = Err OtherRules

-- version 2, by the number of its rules
abbrev pub dated_by : Option JournalDay → Option ℕ → Result Version JournalFault
dated_by day None = Err (BadLine 1)
dated_by day (Some rules) = if rules == RULES then Ok Dated else if rules == OLDER_RULES then older_version Older day else Err OtherRules

-- the same, by its line
abbrev pub dated_on : Option JournalDay → List ℕ → Result Version JournalFault
dated_on day line = if bytes_eq (take 19 line) (codes "bx-journal 2 rules ") then dated_by day (number_on (drop 19 line)) else Err (BadLine 1)

-- the version that the first line names, or its fault
abbrev pub version_on : Option JournalDay → List ℕ → Result Version JournalFault
version_on day line = if bytes_eq line (codes "bx-journal 1") then older_version Undated day else dated_on day line

-- the line of some plan
abbrev pub is_plan_line : List ℕ → Bool
is_plan_line line = if length line == 69 && bytes_eq (take 5 line) (codes "plan ") then list_all (is_hex 97) (drop 5 line) else false

-- what is wrong with a second line that is not that of the plan
abbrev pub plan_fault : List ℕ → JournalFault
plan_fault line = if is_plan_line line then OtherPlan else BadLine 2

-- whether the second line is that of the plan, or its fault
abbrev pub plan_on : List ℕ → List ℕ → Result (Unit {0}) JournalFault
plan_on plan line = if bytes_eq line (plan_line plan) then Ok tt else Err (plan_fault line)

-- a live day, by its numbers
abbrev pub live_of : Option ℕ → Option ℕ → Option JournalDay
live_of None pace = None
live_of (Some first) None = None
live_of (Some first) (Some pace) = if nat_le 1 pace then Some (Live first pace) else None

abbrev pub live_on : List ℕ → Option JournalDay
live_on text = live_of (number_on (take (space_at text) text)) (number_on (drop (space_at text + 1) text))

-- the same, by its line
abbrev pub live_by : List ℕ → Option JournalDay
live_by line = if bytes_eq (take 9 line) (codes "day live ") then live_on (drop 9 line) else None

-- the day of a line
abbrev pub day_on : List ℕ → Option JournalDay
day_on line = if bytes_eq line (codes "day rehearsed") then Some Rehearsed else live_by line

abbrev pub is_day : JournalDay → JournalDay → Bool
is_day Rehearsed Rehearsed = true
is_day Rehearsed (Live first pace) = false
is_day (Live first pace) Rehearsed = false
is_day (Live first pace) (Live second other) = (first == second) && (pace == other)

-- whether a day is the one that is wanted, or its fault
abbrev pub fits_day : Option JournalDay → Option JournalDay → Result (Unit {0}) JournalFault
fits_day wanted None = Err (BadLine 3)
fits_day None (Some day) = Ok tt
fits_day (Some wanted) (Some day) = if is_day wanted day then Ok tt else Err OtherDay

-- the version that the head is of, or the first fault in it. Where it is not there whole yet, the journal was never begun.
abbrev pub after_day : Version → Result (Unit {0}) JournalFault → Result Version JournalFault
after_day version (Ok fits) = Ok version
after_day version (Err fault) = Err fault

abbrev pub dated_head : Version → Option JournalDay → List (List ℕ) → Result Version JournalFault
dated_head version day [] = Err NotBegun
dated_head version day (line ∷ lines) = after_day version (fits_day day (day_on line))

abbrev pub after_plan : Option JournalDay → Result (Unit {0}) JournalFault → Version → List (List ℕ) → Result Version JournalFault
after_plan day (Err fault) version lines = Err fault
after_plan day (Ok tied) version lines = if has_day version then dated_head version day lines else Ok version

abbrev pub after_version : Wanted → Result Version JournalFault → List (List ℕ) → Result Version JournalFault
after_version wanted (Err fault) lines = Err fault
after_version wanted (Ok version) [] = Err NotBegun
after_version wanted (Ok version) (line ∷ lines) = after_plan wanted.day (plan_on wanted.plan line) version lines

abbrev pub head_on : Wanted → List (List ℕ) → Result Version JournalFault
head_on wanted [] = Err NotBegun
head_on wanted (line ∷ lines) = after_version wanted (version_on wanted.day line) lines

-- ---- the whole

abbrev pub events_after : Result Version JournalFault → List (List ℕ) → Result (List LiveEvent) JournalFault
events_after (Ok version) lines = events_on version (head_size version + 1) (drop (head_size version) lines)
events_after (Err fault) lines = Err fault

abbrev pub journal_events : Wanted → List (List ℕ) → Result (List LiveEvent) JournalFault
journal_events wanted lines = events_after (head_on wanted lines) lines

-- the events that a text has in the journal, where it is the journal that is wanted: those of its whole lines
abbrev pub recovered : Wanted → List ℕ → Result (List LiveEvent) JournalFault
recovered wanted octets = journal_events wanted (whole_lines octets)

-- the events, and how many octets are whole lines
pub record Recovery : Type 0 where
  pub events : List LiveEvent
  pub whole : ℕ

abbrev pub with_whole : ℕ → Result (List LiveEvent) JournalFault → Result Recovery JournalFault
with_whole whole (Ok events) = Ok (record { events = events; whole = whole })
with_whole whole (Err fault) = Err fault

abbrev pub journal_in : Wanted → List ℕ → Result Recovery JournalFault
journal_in wanted octets = with_whole (length (whole_text octets)) (recovered wanted octets)

-- an event, and those after it, up to the first line that has none
abbrev pub then_events : Option LiveEvent → List LiveEvent → List LiveEvent
then_events None events = []
then_events (Some event) events = event ∷ events

abbrev pub events_to_fault : Version → List (List ℕ) → List LiveEvent
events_to_fault version [] = []
events_to_fault version (line ∷ lines) = then_events (event_on version line) (events_to_fault version lines)

abbrev pub events_after_head : Result Version JournalFault → List (List ℕ) → List LiveEvent
events_after_head (Ok version) lines = events_to_fault version (drop (head_size version) lines)
events_after_head (Err fault) lines = []

-- the events of the whole lines before the first fault, or of all of them
abbrev pub events_before : Wanted → List ℕ → List LiveEvent
events_before wanted octets = events_after_head (head_on wanted (whole_lines octets)) (whole_lines octets)

-- ---- what is read, by how it is written

-- The text of a journal that is wanted, of these events, as its version may have: by the rules of this program, or, where no day is
-- wanted, by the older ones.
pub record IsJournalText (wanted : Wanted) (events : List LiveEvent) (text : List ℕ) : Type 0 where
  pub version : Version
  pub is_read : IsReadWhere version wanted.day
  pub head : Head
  pub is_wanted : IsWanted wanted head
  pub is_day : IsJournalDay head.day
  pub events_are : AreEventsIn version events
  pub is : text ≡ text_in version head events
