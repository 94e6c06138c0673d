-- What is written of quotes, line by line.
use Rattle.std.specs.Prelude.{ℕ, ◌-◌, List, [], ◌∷◌, ◌++◌, length, not, codes, decimal}
use Rattle.std.specs.List.{flat_map}
use Rattle.bx_base.specs.Bookings.{row_at}
use Rattle.bx_base.specs.Bound.{cost_of}
use Rattle.bx_base.specs.PlanParts.{Parts}
use Rattle.bx_base.specs.Plans.{is_accepted}
use Rattle.bx_planner.specs.declared.answer.Quote.{Quote}
use Rattle.bx_planner.specs.Named.{picked}

-- words, a decimal, and LF
abbrev pub number_line : List ℕ → ℕ → List ℕ
number_line words number = words ++ decimal number ++ 10 ∷ []

-- rows by their names, each after a space, or none
abbrev pub row_names : List ℕ → List ℕ
row_names [] = codes " none"
row_names (row ∷ rows) = flat_map (λ r. 32 ∷ decimal r) (row ∷ rows)

abbrev pub names_line : List ℕ → List ℕ → List ℕ
names_line words rows = words ++ row_names rows ++ 10 ∷ []

-- what a quote says
abbrev pub quote_text : Quote → List ℕ
quote_text quote = number_line (codes "its seconds cost ") quote.cost ++ number_line (codes "taken above ") quote.threshold ++ names_line (codes "instead of") quote.instead.items ++ names_line (codes "besides") quote.besides.items

-- the same of a row that pays so much
abbrev pub explained_text : ℕ → ℕ → Quote → List ℕ
explained_text row pay quote = codes "row " ++ decimal row ++ codes " pays " ++ decimal pay ++ 10 ∷ [] ++ quote_text quote

-- a row that is refused: what it pays, and what its seconds cost
abbrev pub refused_line : Parts → ℕ → List ℕ
refused_line plan row = decimal row ++ codes " pays " ++ decimal (row_at plan.rows (row - 1)).pay ++ codes " of " ++ decimal (cost_of plan.prices (row_at plan.rows (row - 1))) ++ 10 ∷ []

-- the rows that the plan refuses, of the first n
abbrev pub refused_rows : Parts → ℕ → List ℕ
refused_rows plan n = picked (λ j. not (is_accepted plan.assigned j)) n

-- each of them, and how many of all they are
abbrev pub refused_text : Parts → List ℕ
refused_text plan = flat_map (refused_line plan) (refused_rows plan (length plan.rows)) ++ (codes "refused " ++ decimal (length (refused_rows plan (length plan.rows))) ++ codes " of " ++ decimal (length plan.rows) ++ 10 ∷ [])
