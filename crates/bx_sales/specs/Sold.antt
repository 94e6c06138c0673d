-- Bookings that are sold one after another, and the day of a plan, on which all that is promised can be gone on with.
use Rattle.std.specs.Prelude.{◌≡◌, Bool, List, [], ◌∷◌}
use Rattle.bx_base.specs.Bookings.{Row}
use Rattle.bx_day.specs.Day.{Day}
use Rattle.bx_sales.specs.Selling.{IsSold}

-- a day on which these are sold, one after another
abbrev pub AreSoldInTurn : List Bool → List Row → Day → Day → Type 0
AreSoldInTurn channels [] old new = new ≡ old
AreSoldInTurn channels (row ∷ rows) old new = (sold : Day) × IsSold channels row old sold × AreSoldInTurn channels rows sold new
