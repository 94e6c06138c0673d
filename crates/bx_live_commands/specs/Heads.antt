-- What the journal of a day by the clock is of.
use Rattle.std.specs.Prelude.{ℕ, List}
use Rattle.bx_day_openings.specs.declared.hours.Hours.{Hours}
use Rattle.bx_journal.specs.declared.head.Head.{Head}
use Rattle.bx_journal.specs.declared.head.JournalDay.TheVariants.{Live}

abbrev pub live_head : List ℕ → Hours → Head
live_head digest hours = record { plan = digest; day = Live hours.first hours.pace }
