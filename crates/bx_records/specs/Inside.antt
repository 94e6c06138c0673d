-- Private: what its functions promise one another.
use Rattle.std.specs.Prelude.{List, [], ◌∷◌, ◌++◌, codes, decimal, Option, ℕ}
use Rattle.bx_calendar.specs.declared.clock.Clock.{Clock}
use Rattle.bx_records.specs.Writing.{IsBeyond}
use Rattle.bx_records.specs.declared.fault.RecordsFault.{RecordsFault}
use Rattle.bx_records.specs.declared.fault.RecordsFault.TheVariants.{OutOfRange, WriteFailed, Memory}
use Rattle.bx_records.specs.declared.lasted.Lasted.{Lasted}
use Rattle.bx_records.specs.declared.totals.Totals.{Totals}

-- why a text was not built
abbrev pub IsUnbuilt : Option Clock → RecordsFault → Type 0
IsUnbuilt clock OutOfRange = IsBeyond clock
IsUnbuilt clock Memory = Unit {0}
IsUnbuilt clock WriteFailed = ⊥

-- the line of the totals, as they are counted
abbrev pub earned_line : Totals → List ℕ
earned_line t = codes "carried " ++ (decimal t.carried.count ++ 32 ∷ []) ++ codes "of " ++ (decimal t.accepted.count ++ 32 ∷ [])
    ++ codes "accepted, paid " ++ (decimal t.carried.pay ++ 32 ∷ []) ++ codes "of " ++ (decimal t.accepted.pay ++ 44 ∷ [])

abbrev pub lasted_line : Lasted → List ℕ
lasted_line t = codes " " ++ (decimal t.carried ++ 32 ∷ []) ++ codes "of " ++ (decimal t.booked ++ 32 ∷ [])
    ++ codes "seconds, " ++ (decimal t.short ++ 32 ∷ []) ++ codes "short\n"

abbrev pub totals_line : Totals → Lasted → List ℕ
totals_line t lasted = earned_line t ++ lasted_line lasted
