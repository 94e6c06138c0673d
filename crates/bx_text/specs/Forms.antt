-- What the rows of a text are.
use Rattle.std.specs.Prelude.{ℕ, List, Option}

-- how many columns the rows have under a header, if it is one; which fields under so many columns are those of a row;
-- and, by its number, what is wrong with a row
pub record Form (Row Fault : Type 0) : Type 1 where
  pub columns_under : List (List ℕ) → Option ℕ
  pub IsRow : ℕ → List (List ℕ) → Row → Type 0
  pub IsRowFault : ℕ → ℕ → List (List ℕ) → Fault → Type 0
