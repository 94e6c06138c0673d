-- Bookings of a day by what has become of them.
use Rattle.std.specs.Prelude.{nat_lt, not, Bool, true, false}
use Rattle.bx_day.specs.declared.entry.Standing.{Standing}
use Rattle.bx_day.specs.declared.entry.Standing.TheVariants as standings
use Rattle.bx_office_world.specs.declared.tallies.Became.{Became}
use Rattle.bx_office_world.specs.declared.tallies.Became.TheVariants.{Refused, Waiting, Live, Carried, Unanswered, Missed}

abbrev pub is_such : Became → Standing → Bool
is_such Refused standings.Refused = true
is_such Waiting standings.Unoffered = true
is_such Live (standings.OnCall call activity) = true
-- one of no seconds earns nothing
is_such Carried (standings.Carried from until) = nat_lt from until
is_such Unanswered (standings.Carried from until) = not (nat_lt from until)
is_such Unanswered standings.Unanswered = true
is_such Missed standings.Missed = true
is_such _ _ = false
