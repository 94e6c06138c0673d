-- The moments of a list of bookings.
use Rattle.std.specs.Prelude.{◌≡◌, ◌↔◌, ℕ, ◌<◌, ◌⊎◌, List, length, Contains}
use Rattle.bx_base.specs.Bookings.{Row, row_at}

-- some row starts or ends at the moment
abbrev pub IsMoment : List Row → ℕ → Type 0
IsMoment rows moment = (i : ℕ) × (i < length rows) × (((row_at rows i).start ≡ moment) ⊎ ((row_at rows i).end ≡ moment))

-- the list has just the moments
abbrev pub HasJustMoments : List Row → List ℕ → Type 0
HasJustMoments rows moments = (t : ℕ) → Contains moments t ↔ IsMoment rows t
