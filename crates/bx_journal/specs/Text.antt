-- The text of a journal: its head, and events.
use Rattle.std.specs.Prelude.{ℕ, List, [], ◌∷◌, ◌++◌, map, codes, decimal, if◌then◌else◌}
use Rattle.std.specs.List.{flat_map}
use Rattle.bx_events.specs.Events.{Tick, Receive, LiveEvent, OnLink, WithoutLink, Amended, HeardByRulesTwo}
use Rattle.bx_events.specs.declared.amendment.Amendment.{Amendment}
use Rattle.bx_events.specs.declared.amendment.Amendment.TheVariants.{Sold, Cancelled, Changed, SoldByRulesTwo, Delayed, Dropped, Out}
use Rattle.bx_journal.specs.Hex.{hex_of}
use Rattle.bx_journal.specs.Lines.{line_ended}
use Rattle.bx_journal.specs.declared.head.Head.{Head}
use Rattle.bx_journal.specs.declared.head.JournalDay.{JournalDay}
use Rattle.bx_journal.specs.declared.head.JournalDay.TheVariants.{Rehearsed, Live}
use Rattle.bx_journal.specs.declared.head.TheConstants.{RULES, OLDER_RULES}
use Rattle.bx_journal.specs.declared.version.Version.{Version}
use Rattle.bx_journal.specs.declared.version.Version.TheVariants.{Undated, Older, Dated}
use Rattle.bx_journal.specs.Versions.{has_day}

-- the word of a line that amends the plan, with the space behind it
abbrev pub amendment_word : Amendment → List ℕ
amendment_word Sold = codes "sold "
amendment_word Cancelled = codes "cancelled "
amendment_word Changed = codes "changed "
amendment_word SoldByRulesTwo = codes "sold "
amendment_word Delayed = codes "delayed "
amendment_word Dropped = codes "dropped "
amendment_word Out = codes "out "

-- the line of an event, without its LF
abbrev pub line_of : LiveEvent → List ℕ
line_of (OnLink Tick) = codes "tick"
line_of (OnLink (Receive octets)) = codes "heard " ++ hex_of 65 octets
line_of (WithoutLink rules) = codes "down"
line_of (Amended kind line) = amendment_word kind ++ line
line_of (HeardByRulesTwo octets) = codes "heard " ++ hex_of 65 octets

-- the line that names the form, and the rules by which the events are replayed
abbrev pub rules_line : ℕ → List ℕ
rules_line rules = codes "bx-journal 2 rules " ++ decimal rules

-- the line that ties a journal to its plan
abbrev pub plan_line : List ℕ → List ℕ
plan_line plan = codes "plan " ++ hex_of 97 plan

-- the line that ties a journal to its day
abbrev pub day_line : JournalDay → List ℕ
day_line Rehearsed = codes "day rehearsed"
day_line (Live first pace) = codes "day live " ++ decimal first ++ codes " " ++ decimal pace

-- the first line of a journal of this version
abbrev pub version_line : Version → List ℕ
version_line Undated = codes "bx-journal 1"
version_line Older = rules_line OLDER_RULES
version_line Dated = rules_line RULES

-- what stands before its events of the day: version 1 told none
abbrev pub day_lines : Version → JournalDay → List (List ℕ)
day_lines version day = if has_day version then day_line day ∷ [] else []

-- its lines
abbrev pub lines_in : Version → Head → List LiveEvent → List (List ℕ)
lines_in version head events = version_line version ∷ plan_line head.plan ∷ (day_lines version head.day ++ map line_of events)

abbrev pub text_in : Version → Head → List LiveEvent → List ℕ
text_in version head events = flat_map line_ended (lines_in version head events)

-- the same of the journals that are written
abbrev pub journal_text : Head → List LiveEvent → List ℕ
journal_text head events = text_in Dated head events
