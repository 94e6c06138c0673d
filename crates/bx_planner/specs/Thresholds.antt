-- What a free row has to pay to be taken.
use Rattle.std.specs.Prelude.{◌≡◌, ℕ, ◌+◌, ◌<◌, ◌≤◌, ◌==◌, Bool, true, false, List, slice_set, if◌then◌else◌}
use Rattle.bx_base.specs.Bookings.{Row, row_at, IsLawful, pay_of}
use Rattle.bx_planner.specs.Choices.{IsBest}

-- the set without the row at i
abbrev pub others : (ℕ → Bool) → ℕ → ℕ → Bool
others set i j = if j == i then false else set j

-- the most that the other rows pay of a lawful set that has the row at i, or that has it not
pub record IsMost (rows : List Row) (channels : List Bool) (i : ℕ) (held : Bool) (most : ℕ) : Type 0 where
  pub set : ℕ → Bool
  pub lawful : IsLawful rows channels set
  pub holds : set i ≡ held
  pub pays : pay_of rows (others set i) ≡ most
  pub limit : (other : ℕ → Bool) → IsLawful rows channels other → other i ≡ held → pay_of rows (others other i) ≤ most

-- the threshold of a free row, its critical value: the most that a lawful set without it pays, less the most that the other rows
-- of a lawful set with it pay. What the row itself pays does not count.
pub record IsThreshold (rows : List Row) (channels : List Bool) (i threshold : ℕ) : Type 0 where
  pub without : ℕ
  pub beside : ℕ
  pub most_without : IsMost rows channels i false without
  pub most_beside : IsMost rows channels i true beside
  pub less : threshold + beside ≡ without

-- the rows, of which the one at i pays so much
abbrev pub offered : List Row → ℕ → ℕ → List Row
offered rows i pay = slice_set rows i (record (row_at rows i) { pay = pay })

-- a lawful set than which none pays more
pub record IsBestSet (rows : List Row) (channels : List Bool) (set : ℕ → Bool) : Type 0 where
  pub lawful : IsLawful rows channels set
  pub best : IsBest rows channels (pay_of rows set)

-- whatever the row pays: above the threshold every best set holds it, below it none does, and at it some does and some
-- does not
pub record Decides (rows : List Row) (channels : List Bool) (i threshold : ℕ) : Type 0 where
  pub above : (pay : ℕ) (set : ℕ → Bool) → threshold < pay → IsBestSet (offered rows i pay) channels set → set i ≡ true
  pub below : (pay : ℕ) (set : ℕ → Bool) → pay < threshold → IsBestSet (offered rows i pay) channels set → set i ≡ false
  pub some_does : (set : ℕ → Bool) × IsBestSet (offered rows i threshold) channels set × (set i ≡ true)
  pub some_does_not : (set : ℕ → Bool) × IsBestSet (offered rows i threshold) channels set × (set i ≡ false)
