-- The day that a far end runs, and what is told of it.
use Rattle.std.specs.Prelude.{◌≡◌, ℕ, min, List, ◌∷◌, [], ◌++◌, Option, codes, decimal}
use Rattle.std.specs.Io.KnownBytes.{Appends}
use Rattle.bx_devices.specs.Octets.{AppendsPrefix}
use Rattle.bx_events.specs.Events.{Event}
use Rattle.bx_far.specs.FarDay.{FarDay}
use Rattle.bx_day_openings.specs.Openings.{IsFarOpening}
use Rattle.bx_frames.specs.Courses.{after, told, ticks_of}
use Rattle.bx_capture.specs.Captures.{packets_for}
use Rattle.bx_far.specs.Course.{far_next, far_sent, far_due}
use Rattle.bx_events.specs.declared.moment.TheConstants.{LAST_MOMENT}

-- the line of the moment at which a day ended
abbrev pub ended_line : ℕ → List ℕ
ended_line moment = codes "ended at " ++ (decimal moment ++ 10 ∷ [])

-- the moment that such a day has reached after events: as many seconds as there were ticks, and no more than a day has
pub record IsFarMoment (moment : ℕ) : Type 0 where
  pub opened : FarDay
  pub opens : IsFarOpening opened
  pub events : List Event
  pub reached : moment ≡ (after far_next events opened).moment
  pub ticks : moment ≡ min (ticks_of events) LAST_MOMENT

-- the packets of its messages, where moments count from this second
abbrev pub far_packets : ℕ → List Event → FarDay → List ℕ
far_packets first = told far_next (packets_for far_next far_sent (λ (d : FarDay). d.moment) far_due first)

abbrev pub far_packets_of : {moment : ℕ} → IsFarMoment moment → ℕ → List ℕ
far_packets_of run first = far_packets first run.events run.opened

-- this moment was written
pub record IsFarTold (old new : Option (List ℕ)) : Type 0 where
  pub moment : ℕ
  pub run : IsFarMoment moment
  pub written : Appends old new (ended_line moment)

-- or a prefix of its line
pub record IsFarCut (old new : Option (List ℕ)) : Type 0 where
  pub moment : ℕ
  pub run : IsFarMoment moment
  pub written : AppendsPrefix old new (ended_line moment)
