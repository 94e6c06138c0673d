-- Marks on the bars of calls of which not all was carried.
use Rattle.std.specs.Prelude.{ℕ, List, [], ◌++◌, codes, decimal, nat_lt, if◌then◌else◌}
use Rattle.bx_base.specs.Bookings.{Row}
use Rattle.bx_day.specs.declared.entry.Standing.{Standing}
use Rattle.bx_day.specs.declared.entry.Standing.TheVariants.{Carried, Unanswered, Missed}

-- a point of a stroke
abbrev pub point : List ℕ → ℕ → ℕ → List ℕ
point word across down = (word ++ decimal across) ++ (codes " " ++ decimal down)

-- a stroke that rises from the lower left to the upper right, and one that falls from the upper left to the lower right
abbrev pub risen : ℕ → ℕ → ℕ → ℕ → List ℕ
risen from until top bottom = point (codes "<path class='mark' d='M") from bottom ++ point (codes "L") until top ++ codes "'/>"

abbrev pub fallen : ℕ → ℕ → ℕ → ℕ → List ℕ
fallen from until top bottom = point (codes "<path class='mark' d='M") from top ++ point (codes "L") until bottom ++ codes "'/>"

-- both
abbrev pub crossed : ℕ → ℕ → ℕ → ℕ → List ℕ
crossed from until top bottom = risen from until top bottom ++ fallen from until top bottom

-- a booking that was missed has a rising stroke, one that was not answered a cross, and one whose call ended early a falling stroke over what was
-- not carried after it
abbrev pub mark_of : Row → ℕ → ℕ → Standing → List ℕ
mark_of row top bottom Missed = risen row.start row.end top bottom
mark_of row top bottom Unanswered = crossed row.start row.end top bottom
mark_of row top bottom (Carried from until) = if nat_lt until row.end then fallen until row.end top bottom else []
mark_of row top bottom _ = []
