-- The bookings of a plan that need not hold what it refuses.
use Rattle.std.specs.Prelude.{Bool, true, false, List, [], ◌∷◌}
use Rattle.bx_base.specs.Bookings.{Row}

-- a booking as a plan has it that accepts it, or refuses it: no plan has to hold what was given up
abbrev pub row_held : Row → Bool → Row
row_held row true = row
row_held row false = record row { must = false }

-- these bookings so, of which the marked ones are accepted
unfoldable pub rows_as_held : List Row → List Bool → List Row
rows_as_held [] marks = []
rows_as_held (row ∷ rows) [] = row_held row false ∷ rows_as_held rows []
rows_as_held (row ∷ rows) (mark ∷ marks) = row_held row mark ∷ rows_as_held rows marks
