-- The totals of a day: how many of the bookings that the plan accepts were carried, what they pay, and for how many seconds they were.
use Rattle.std.specs.Prelude.{ℕ, ◌+◌, ◌-◌, ◌&&◌, nat_lt, Bool, false, List, [], ◌∷◌, ◌++◌, codes, decimal, if◌then◌else◌}
use Rattle.bx_day.specs.Invariant.{stands_accepted}
use Rattle.bx_day.specs.declared.entry.Entry.{Entry}
use Rattle.bx_day.specs.declared.entry.Standing.{Standing}
use Rattle.bx_day.specs.declared.entry.Standing.TheVariants.{Carried}

-- its call was carried, for a second or more: one of no seconds earns nothing
abbrev pub is_carried : Standing → Bool
is_carried (Carried from until) = nat_lt from until
is_carried _ = false

-- how many bookings there are of which such a thing has become
abbrev pub how_many : (Standing → Bool) → List Entry → ℕ
how_many test [] = 0
how_many test (e ∷ es) = (if test e.standing then 1 else 0) + how_many test es

-- and what they pay
abbrev pub pays_of : (Standing → Bool) → List Entry → ℕ
pays_of test [] = 0
pays_of test (e ∷ es) = (if test e.standing then e.booking.pay else 0) + pays_of test es

-- the seconds for which its call was carried
abbrev pub active_seconds : Standing → ℕ
active_seconds (Carried from until) = until - from
active_seconds _ = 0

abbrev pub carried_seconds : Entry → ℕ
carried_seconds e = active_seconds e.standing

-- those that were booked, where the plan accepts it
abbrev pub booked_seconds : Entry → ℕ
booked_seconds e = if stands_accepted e.standing then e.booking.end - e.booking.start else 0

-- it was carried, and for fewer seconds than were booked
abbrev pub is_short : Entry → Bool
is_short e = is_carried e.standing && nat_lt (active_seconds e.standing) (e.booking.end - e.booking.start)

abbrev pub one_if_short : Entry → ℕ
one_if_short e = if is_short e then 1 else 0

-- such a number of each of them, together
abbrev pub total_of : (Entry → ℕ) → List Entry → ℕ
total_of f [] = 0
total_of f (e ∷ es) = f e + total_of f es

-- the line of the totals
abbrev pub earned_text : List Entry → List ℕ
earned_text entries = codes "carried " ++ (decimal (how_many is_carried entries) ++ 32 ∷ []) ++ codes "of " ++ (decimal (how_many stands_accepted entries) ++ 32 ∷ [])
    ++ codes "accepted, paid " ++ (decimal (pays_of is_carried entries) ++ 32 ∷ []) ++ codes "of " ++ (decimal (pays_of stands_accepted entries) ++ 44 ∷ [])

abbrev pub lasted_text : List Entry → List ℕ
lasted_text entries = codes " " ++ (decimal (total_of carried_seconds entries) ++ 32 ∷ []) ++ codes "of " ++ (decimal (total_of booked_seconds entries) ++ 32 ∷ [])
    ++ codes "seconds, " ++ (decimal (total_of one_if_short entries) ++ 32 ∷ []) ++ codes "short\n"

abbrev pub totals_text : List Entry → List ℕ
totals_text entries = earned_text entries ++ lasted_text entries
