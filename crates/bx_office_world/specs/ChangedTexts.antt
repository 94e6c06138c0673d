-- What is told of a booking that was given up or changed.
use Rattle.std.specs.Prelude.{ℕ, ◌++◌, Bool, true, false, List, codes, decimal}

abbrev pub change_word : Bool → List ℕ
change_word true = codes "1,cancelled,"
change_word false = codes "1,changed,"

-- the header of a sale, and a line for the one row that was asked for
abbrev pub changed_text : Bool → ℕ → List ℕ
changed_text is_cancelled row = codes "row,answer,plan row,reason\n" ++ change_word is_cancelled ++ decimal row ++ codes ",\n"
