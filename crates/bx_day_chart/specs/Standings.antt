-- What became of a booking, as a picture tells it.
use Rattle.std.specs.Prelude.{ℕ, List, [], ◌++◌, codes, Option, Some, None}
use Rattle.bx_calendar.specs.declared.clock.Clock.{Clock}
use Rattle.bx_day.specs.declared.entry.Activity.{Activity}
use Rattle.bx_day.specs.declared.entry.Activity.TheVariants.{Never, Since, Was}
use Rattle.bx_day.specs.declared.entry.Standing.{Standing}
use Rattle.bx_day.specs.declared.entry.Standing.TheVariants.{Refused, Unoffered, OnCall, Carried, Unanswered, Missed}
use Rattle.bx_day_chart.specs.Outages.{span_words}

-- from when until when a call of it was Active, or is up to now
abbrev pub active_in : ℕ → Activity → Option (ℕ × ℕ)
active_in now Never = None
active_in now (Since from) = Some (from, now)
active_in now (Was from until) = Some (from, until)

abbrev pub carried_of : ℕ → Standing → Option (ℕ × ℕ)
carried_of now (OnCall call activity) = active_in now activity
carried_of now (Carried from until) = Some (from, until)
carried_of now _ = None

-- how its bar looks besides the bar of a plan: what is only planned is pale and dashed, and one that is live has a thick outline
abbrev pub look_of : Standing → List ℕ
look_of (OnCall call activity) = codes " planned live"
look_of _ = codes " planned"

-- the word for it
abbrev pub standing_words : Standing → List ℕ
standing_words Refused = codes "; refused"
standing_words Unoffered = codes "; waiting"
standing_words (OnCall call activity) = codes "; live"
standing_words (Carried from until) = codes ""
standing_words Unanswered = codes "; unanswered"
standing_words Missed = codes "; missed"

-- from when until when it was carried, if it was
abbrev pub carried_words : Option Clock → Option (ℕ × ℕ) → List ℕ
carried_words clock None = []
carried_words clock (Some span) = codes "; carried" ++ span_words clock span.0 span.1

-- what became of it, in words
abbrev pub fate_words_of : Option Clock → ℕ → Standing → List ℕ
fate_words_of clock now standing = standing_words standing ++ carried_words clock (carried_of now standing)
