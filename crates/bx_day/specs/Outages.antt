-- A second without a link to the far end, as while its connection is lost or the program is down: time goes on, but no
-- timer runs, nothing is offered and nothing is sent. A booking that ends clears its call for the first tick with a
-- link. And the days of an exchange that goes through such seconds between its turns on the link.
-- What amends the plan changes nothing of the day of the last plan, which has it from the morning on. What a journal of the rules 2
-- heard is heard by these, and a second without a link is gone through by the rules that it tells.
use Rattle.std.specs.Prelude.{ℕ, ◌+◌, List, [], ◌∷◌, Bool, true, false, ◌&&◌, nat_le, nat_lt, if◌then◌else◌}
use Rattle.bx_events.specs.Events.{Tick, Receive, LiveEvent, OnLink, WithoutLink, Amended, HeardByRulesTwo}
use Rattle.bx_events.specs.declared.rules.Rules.{Rules}
use Rattle.bx_day.specs.declared.entry.Link.TheVariants.{Down}
use Rattle.bx_day.specs.Day.{Day}
use Rattle.bx_day.specs.Ticks.{passed_in}
use Rattle.bx_calls.specs.Sending.{Sent, reply_list}
use Rattle.bx_events.specs.declared.rules.Rules.TheVariants.{Two, Three}
use Rattle.bx_day.specs.Run.{happens, receive_octets_by}
use Rattle.bx_events.specs.declared.moment.TheConstants.{LAST_MOMENT}

abbrev pub without_link_by : Rules → Day → Day
without_link_by rules d = if nat_le LAST_MOMENT d.moment then d else (passed_in (Down rules) d).day

-- by the rules of this program
abbrev pub without_link : Day → Day
without_link d = without_link_by Three d

abbrev pub live_happens : Day → LiveEvent → Sent Day
live_happens d (OnLink event) = happens d event
live_happens d (WithoutLink rules) = record { day = without_link_by rules d; sent = [] }
live_happens d (Amended kind line) = record { day = d; sent = [] }
live_happens d (HeardByRulesTwo octets) =
    record { day = (receive_octets_by Two d octets).day; sent = reply_list (receive_octets_by Two d octets).reply }

abbrev pub live_day_after : List LiveEvent → Day → Day
live_day_after [] d = d
live_day_after (e ∷ es) d = live_day_after es (live_happens d e).day

-- ---- what a day lost of its link

-- the seconds without a link so far, the outages so far, which are runs of such seconds, and whether the last second was one
pub record Lost : Type 0 where
  pub seconds : ℕ
  pub outages : ℕ
  pub lasts : Bool

abbrev pub none_lost : Lost
none_lost = record { seconds = 0; outages = 0; lasts = false }

-- one more, which begins an outage where the second before it had a link
abbrev pub one_more : Lost → Lost
one_more x = record { seconds = x.seconds + 1; outages = if x.lasts then x.outages else x.outages + 1; lasts = true }

-- by an event of this day, from moment m on; a tick ends an outage
abbrev pub lost_by : ℕ → Day → LiveEvent → Lost → Lost
lost_by m d (OnLink Tick) x = record x { lasts = false }
lost_by m d (OnLink (Receive octets)) x = x
lost_by m d (WithoutLink rules) x = if nat_le m d.moment && nat_lt d.moment LAST_MOMENT then one_more x else x
lost_by m d (Amended kind line) x = x
lost_by m d (HeardByRulesTwo octets) x = x

abbrev pub lost_after : ℕ → List LiveEvent → Day → Lost → Lost
lost_after m [] d x = x
lost_after m (e ∷ es) d x = lost_after m es (live_happens d e).day (lost_by m d e x)

abbrev pub lost_since : ℕ → List LiveEvent → Day → Lost
lost_since m events d = lost_after m events d none_lost
