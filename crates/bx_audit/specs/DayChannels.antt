-- The channels that the bookings of a day have.
use Rattle.std.specs.Prelude.{ℕ, List, Option, Some, None, map, if◌then◌else◌}
use Rattle.bx_day.specs.Day.{Day}
use Rattle.bx_day.specs.Invariant.{is_refused}
use Rattle.bx_day.specs.declared.entry.Entry.{Entry}

-- that of a booking which is accepted
abbrev pub channel_on : Entry → Option ℕ
channel_on e = if is_refused e.standing then None else Some e.channel

abbrev pub channels_on : Day → List (Option ℕ)
channels_on d = map channel_on d.entries
