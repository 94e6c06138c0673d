-- Private: clearing within its time, over seconds without a link.
use Rattle.std.specs.Prelude.{◌≡◌, ℕ, ◌+◌, ◌*◌, ◌≤◌, Bool, true, false}
use Rattle.std.specs.List.{AllByRecursion}
use Rattle.bx_calls.specs.declared.net_state.NetState.{NetState}
use Rattle.bx_calls.specs.declared.net_state.NetState.TheVariants.{DisconnectIndication, ReleaseRequest}
use Rattle.bx_calls.specs.declared.times.Times.TheVariants.{NotYet, Once, Twice}
use Rattle.bx_calls.specs.Timers.{t305, t308, clearing_time}
use Rattle.bx_base.specs.Bookings.{Row}
use Rattle.bx_day.specs.Day.{Day}
use Rattle.bx_day.specs.Outages.{Lost}
use Rattle.bx_day.specs.declared.entry.Entry.{Entry}
use Rattle.bx_day.specs.declared.entry.Standing.{Standing}
use Rattle.bx_day.specs.declared.entry.Standing.TheVariants.{OnCall}

-- what is added to the time of clearing
abbrev pub added : Lost → ℕ
added x = x.seconds + (t308 + t308) * x.outages

-- clearing takes T305 and twice T308 at most from moment m on, and less is left of it after a second without a link, which adds to m
abbrev pub ClearsBy : Bool → ℕ → NetState → Type 0
ClearsBy lasts m (DisconnectIndication cause due) = (lasts ≡ true → due + t308 ≤ m + t305) × (due ≤ m + t305)
ClearsBy lasts m (ReleaseRequest NotYet cause due) = due ≤ m + t305
ClearsBy lasts m (ReleaseRequest Once cause due) = (lasts ≡ true → due ≤ m + t305) × (due ≤ m + (t305 + t308))
ClearsBy lasts m (ReleaseRequest Twice cause due) = (lasts ≡ false) × (due ≤ m + clearing_time)
ClearsBy lasts m _ = Unit {0}

-- a call whose booking is over, with what was lost since its end
abbrev pub StandingClears : Lost → ℕ → Row → Standing → Type 0
StandingClears x t b (OnCall call activity) = b.end ≤ t → ClearsBy x.lasts (b.end + added x) call.state
StandingClears x t b _ = Unit {0}

-- lost says it of each moment
abbrev pub EntryClears : (ℕ → Lost) → ℕ → Entry → Type 0
EntryClears lost t e = StandingClears (lost e.booking.end) t e.booking e.standing

abbrev pub DayClears : (ℕ → Lost) → Day → Type 0
DayClears lost d = AllByRecursion (EntryClears lost d.moment) d.entries
