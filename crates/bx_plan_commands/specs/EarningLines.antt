-- What is written of what each count of channels would earn, line by line.
use Rattle.std.specs.Prelude.{ℕ, ◌+◌, List, [], ◌∷◌, ◌++◌, codes, decimal}
use Rattle.bx_planner.specs.declared.earnings.Earning.{Earning}
use Rattle.bx_planner.specs.declared.earnings.Earning.TheVariants.{Most, TooFew}

-- what so many channels would earn
abbrev pub earning_line : ℕ → Earning → List ℕ
earning_line count (Most total next) = decimal count ++ codes " total " ++ decimal total ++ codes " next " ++ decimal next ++ 10 ∷ []
earning_line count (TooFew moment) = decimal count ++ codes " too few at " ++ decimal moment ++ 10 ∷ []

-- a line for each, from this count on
abbrev pub earning_lines : ℕ → List Earning → List ℕ
earning_lines count [] = []
earning_lines count (earning ∷ earnings) = earning_line count earning ++ earning_lines (count + 1) earnings
