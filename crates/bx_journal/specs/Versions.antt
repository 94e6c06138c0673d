-- What the versions of a journal are.
use Rattle.std.specs.Prelude.{◌≡◌, ℕ, Bool, true, false, Option, None, if◌then◌else◌}
use Rattle.bx_events.specs.declared.rules.Rules.{Rules}
use Rattle.bx_events.specs.declared.rules.Rules.TheVariants.{Two, Three}
use Rattle.bx_journal.specs.declared.head.JournalDay.{JournalDay}
use Rattle.bx_journal.specs.declared.version.Version.{Version}
use Rattle.bx_journal.specs.declared.version.Version.TheVariants.{Undated, Older, Dated}

-- its head tells the day
abbrev pub has_day : Version → Bool
has_day Undated = false
has_day Older = true
has_day Dated = true

-- its events are replayed by the older rules
abbrev pub is_older : Version → Bool
is_older Undated = true
is_older Older = true
is_older Dated = false

-- and those by which they are
abbrev pub rules_of : Version → Rules
rules_of version = if is_older version then Two else Three

abbrev pub head_size : Version → ℕ
head_size version = if has_day version then 3 else 2

-- a journal of it is read: one by the older rules where no day is wanted
abbrev pub IsReadWhere : Version → Option JournalDay → Type 0
IsReadWhere version wanted = is_older version ≡ true → wanted ≡ None
