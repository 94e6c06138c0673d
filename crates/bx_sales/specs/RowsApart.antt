-- Private: rows of a plan that are apart.
use Rattle.std.specs.Prelude.{◌≡◌, ◌≢◌, ◌<◌, ℕ, true, List, length, Option}
use Rattle.bx_base.specs.Bookings.{Row, row_at, Overlap}
use Rattle.bx_base.specs.Plans.{is_accepted, channel_at}

-- rows that overlap have different channels
abbrev pub AreRowsApart : List Row → List (Option ℕ) → Type 0
AreRowsApart rows assigned =
    (i j : ℕ) → i < j → j < length rows → is_accepted assigned i ≡ true → is_accepted assigned j ≡ true → Overlap (row_at rows i) (row_at rows j) → channel_at assigned i ≢ channel_at assigned j
