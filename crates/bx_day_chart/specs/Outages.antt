-- The seconds without a link: how they are noted, and how they are shaded.
use Rattle.std.specs.Prelude.{ℕ, ◌+◌, ◌-◌, ◌==◌, ◌&&◌, Bool, List, [], ◌∷◌, ◌++◌, length, min, codes, Option, nat_lt, slice_index_or, slice_set, if◌then◌else◌}
use Rattle.bx_calendar.specs.declared.clock.Clock.{Clock}
use Rattle.bx_chart.specs.Bars.{corner, extent, time_of}
use Rattle.bx_day_chart.specs.declared.outages.Outage.{Outage}

-- ---- noting

abbrev pub no_outage : Outage
no_outage = record { from = 0; until = 0 }

-- the last outage
abbrev pub last_of : List Outage → Outage
last_of outages = slice_index_or outages (length outages - 1) no_outage

-- whether the last outage went on up to this second
abbrev pub outage_goes_on : ℕ → List Outage → Bool
outage_goes_on second outages = nat_lt 0 (length outages) && ((last_of outages).until == second)

-- the second after this one, as 32 bits have it
abbrev pub second_after_this : ℕ → ℕ
second_after_this second = min (second + 1) 4294967295

-- with this second too: it lengthens the last outage, or is one of its own
abbrev pub noted : ℕ → List Outage → List Outage
noted second outages =
    if outage_goes_on second outages then slice_set outages (length outages - 1) (record (last_of outages) { until = second_after_this second })
    else outages ++ record { from = second; until = second_after_this second } ∷ []

-- ---- shading

-- from when until when
abbrev pub span_words : Option Clock → ℕ → ℕ → List ℕ
span_words clock from until = codes " from " ++ time_of clock from ++ codes " until " ++ time_of clock until

-- the shade of an outage: as wide as its seconds, and over all lanes, which are so high together
abbrev pub outage_box : ℕ → Outage → List ℕ
outage_box high outage = codes "<rect class='outage" ++ corner outage.from 0 ++ extent (outage.until - outage.from) high

abbrev pub outage_words : Option Clock → Outage → List ℕ
outage_words clock outage = codes "'><title>no link" ++ span_words clock outage.from outage.until ++ codes "</title></rect>\n"

abbrev pub outage_of : Option Clock → ℕ → Outage → List ℕ
outage_of clock high outage = outage_box high outage ++ outage_words clock outage
