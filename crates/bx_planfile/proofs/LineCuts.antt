-- Taking a line from the start of a text.
use Rattle.std.proofs.Common.{◌≡◌, ℕ, ◌+◌, ◌-◌, List, length, take, drop, Some, None, Ok, Err, refl, ap, ◌∙◌}
use Rattle.std.specs.List.{position}
use Rattle.std.proofs.lemmas.List.{take_rest}
use Rattle.bx_planfile.specs.declared.fault.PlanTextFault.TheVariants.{BadLine}
use Rattle.bx_planfile.specs.Lines.{is_lf, fields_of, cut_line}
use Rattle.bx_planfile.specs.Reading.{or_fault, read_line}

pub line_found : (n : ℕ) (bytes : List ℕ) (k : ℕ) (fields : List (List ℕ)) → fields ≡ fields_of (take k bytes) → position is_lf bytes ≡ Some k
    → read_line n bytes ≡ Ok (fields, take (length bytes - (k + 1)) (drop (k + 1) bytes))
unfolding read_line
line_found n bytes k fields same at = ap (λ p. or_fault (BadLine n) (cut_line bytes p)) at ∙ rw (same, take_rest bytes (k + 1)) refl

pub line_missing : (n : ℕ) (bytes : List ℕ) → position is_lf bytes ≡ None → read_line n bytes ≡ Err (BadLine n)
unfolding read_line
line_missing n bytes at = ap (λ p. or_fault (BadLine n) (cut_line bytes p)) at
