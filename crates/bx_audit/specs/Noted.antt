-- The outages of the link in the day of a journal: the seconds without a link, by the events that are logged.
use Rattle.std.specs.Prelude.{ℕ, ◌+◌, List, [], ◌∷◌, nat_lt, if◌then◌else◌}
use Rattle.bx_day_chart.specs.Outages.{noted}
use Rattle.bx_day_chart.specs.declared.outages.Outage.{Outage}
use Rattle.bx_events.specs.Events.{Tick, Receive, LiveEvent, OnLink, WithoutLink, Amended, HeardByRulesTwo}
use Rattle.bx_events.specs.declared.moment.TheConstants.{LAST_MOMENT}

-- the moment after this one; a day has no more than 300,000
abbrev pub next_moment : ℕ → ℕ
next_moment m = if nat_lt m LAST_MOMENT then m + 1 else m

-- with the second that begins at this moment, while the day has one
abbrev pub noted_at : ℕ → List Outage → List Outage
noted_at m outages = if nat_lt m LAST_MOMENT then noted m outages else outages

-- with the seconds without a link of these events
abbrev pub outages_from : ℕ → List LiveEvent → List Outage → List Outage
outages_from m [] outages = outages
outages_from m (OnLink Tick ∷ events) outages = outages_from (next_moment m) events outages
outages_from m (OnLink (Receive octets) ∷ events) outages = outages_from m events outages
outages_from m (WithoutLink rules ∷ events) outages = outages_from (next_moment m) events (noted_at m outages)
outages_from m (Amended kind line ∷ events) outages = outages_from m events outages
outages_from m (HeardByRulesTwo octets ∷ events) outages = outages_from m events outages

-- the outages of a day with just these events
abbrev pub outages_in : List LiveEvent → List Outage
outages_in events = outages_from 0 events []
