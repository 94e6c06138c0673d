-- What a crash leaves of a run, and what a restart knows.
use Rattle.std.specs.Prelude.{◌≡◌, ◌⊎◌, ℕ, ◌&&◌, Bool, true, List, [], ◌∷◌, ◌++◌, Ok}
use Rattle.bx_events.specs.Events.{LiveEvent}
use Rattle.bx_day.specs.Day.{Day}
use Rattle.bx_day.specs.Course.{exchange_sent}
use Rattle.bx_day.specs.Outages.{live_day_after}
use Rattle.bx_journal.specs.Heads.{wanted_of}
use Rattle.bx_journal.specs.Reading.{recovered}
use Rattle.bx_journal.specs.declared.head.Head.{Head}
use Rattle.bx_live.specs.Acts.{Act, Logged, Synced}
use Rattle.bx_live.specs.Written.{IsWrittenFor}

-- no event could not be logged, and no sync failed
abbrev pub keeps_log : List Act → Bool
keeps_log [] = true
keeps_log (Logged event done ∷ acts) = done && keeps_log acts
keeps_log (Synced done ∷ acts) = done && keeps_log acts
keeps_log (act ∷ acts) = keeps_log acts

-- the events that were to be logged
abbrev pub asked : List Act → List LiveEvent
asked [] = []
asked (Logged event done ∷ acts) = event ∷ asked acts
asked (act ∷ acts) = asked acts

-- what a crash left has these events at its start
abbrev pub Knows : Head → List LiveEvent → List ℕ → Type 0
Knows head events left = (more : List LiveEvent) × (recovered (wanted_of head) left ≡ Ok (events ++ more))

-- what was written belongs to the last event in the journal; and where messages are among it, this holds as well
pub record IsSafe (d : Day) (before : List Act) (octets : List ℕ) (known : Type 0) : Type 0 where
  pub belongs : IsWrittenFor d before octets
  pub safe : (exchange_sent (live_day_after belongs.earlier d) belongs.event ≡ []) ⊎ known
