-- Private: lists of the indices that pass a test, each with its start.
use Rattle.std.specs.Prelude.{◌≡◌, ◌⊎◌, ℕ, ◌<◌, List, length, slice_index_or}

-- what stands in place of an entry beyond the last one
abbrev pub no_place : ℕ × ℕ
no_place = (0, 0)

abbrev pub index_in : List (ℕ × ℕ) → ℕ → ℕ
index_in order k = (slice_index_or order k no_place).1

-- an index that passes, with its start
pub record IsPlace (size : ℕ) (Passes : ℕ → Type 0) (start_of : ℕ → ℕ) (place : ℕ × ℕ) : Type 0 where
  pub within : place.1 < size
  pub passes : Passes place.1
  pub start : place.0 ≡ start_of place.1

-- each index below n that passes, in order
pub record AreListed (size : ℕ) (Passes : ℕ → Type 0) (start_of : ℕ → ℕ) (n : ℕ) (order : List (ℕ × ℕ)) : Type 0 where
  pub each : (k : ℕ) → k < length order → IsPlace size Passes start_of (slice_index_or order k no_place)
  pub below : (k : ℕ) → k < length order → index_in order k < n
  pub all : (i : ℕ) → i < n → Passes i → (k : ℕ) × (k < length order) × (index_in order k ≡ i)
  pub rising : (a b : ℕ) → a < b → b < length order → index_in order a < index_in order b

-- starts earlier, or at the same moment with the lower index
abbrev pub ComesFirst : (ℕ → ℕ) → ℕ → ℕ → Type 0
ComesFirst start_of i j = (start_of i < start_of j) ⊎ ((start_of i ≡ start_of j) × (i < j))

-- each index that passes once, in the order of (start, index)
pub record AreInOrder (size : ℕ) (Passes : ℕ → Type 0) (start_of : ℕ → ℕ) (order : List (ℕ × ℕ)) : Type 0 where
  pub each : (k : ℕ) → k < length order → IsPlace size Passes start_of (slice_index_or order k no_place)
  pub all : (i : ℕ) → i < size → Passes i → (k : ℕ) × (k < length order) × (index_in order k ≡ i)
  pub rising : (a b : ℕ) → a < b → b < length order → ComesFirst start_of (index_in order a) (index_in order b)
