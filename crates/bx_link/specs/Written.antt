-- What is written to the exchange.
use Rattle.std.specs.Prelude.{◌≡◌, ℕ, List, [], ◌∷◌, ◌++◌}
use Rattle.bx_events.specs.Events.{Event, LiveEvent, OnLink}
use Rattle.bx_far.specs.FarDay.{FarDay}
use Rattle.bx_far.specs.Course.{far_live_after, far_line_text}
use Rattle.bx_live.specs.Acts.{Act}
use Rattle.bx_link.specs.Events.{far_events}
use Rattle.bx_link.specs.Runs.{FarPlace, Between, Owing, Hearing, Losing, Ending, Done}

-- octets that are written after these acts: they are those of the last event that the acts tell, which came on a link, by the day as it was
-- before it
pub record IsFarWrittenFor (d : FarDay) (acts : List Act) (octets : List ℕ) : Type 0 where
  pub earlier : List LiveEvent
  pub event : Event
  pub last : far_events acts ≡ earlier ++ OnLink event ∷ []
  pub text : octets ≡ far_line_text (far_live_after earlier d) event

-- what is still to be written
abbrev pub far_owed_at : FarPlace → List ℕ
far_owed_at (Owing d room text) = text
far_owed_at (Between d) = []
far_owed_at (Hearing d room) = []
far_owed_at (Losing d loss) = []
far_owed_at (Ending d) = []
far_owed_at (Done d) = []
