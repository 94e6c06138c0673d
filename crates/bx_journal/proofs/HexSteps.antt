-- Reading two digits more.
use Rattle.std.proofs.Common.{◌≡◌, ℕ, ◌+◌, ◌<◌, List, [], ◌∷◌, ◌++◌, length, get_or, drop, Option, Some, None, refl, ap, sym, ◌∙◌, append_assoc, arith}
use Rattle.std.proofs.lemmas.List.{drop_more, drop_all, append-nil}
use Rattle.bx_journal.specs.Hex.{hex_value, octet_of_digits, octets_of_digits, following, after_octet}

regroup : (prefix : List ℕ) (octet : ℕ) (o : Option (List ℕ)) → following prefix (following (octet ∷ []) o) ≡ following (prefix ++ octet ∷ []) o
regroup prefix octet None = refl
regroup prefix octet (Some xs) = ap Some (sym (append_assoc prefix (octet ∷ []) xs))

module _ (ten : ℕ) (digits : List ℕ) (at : ℕ) (lt : at + 1 < length digits) where
  two : drop at digits ≡ get_or digits at 0 ∷ get_or digits (at + 1) 0 ∷ drop (at + 2) digits
  two =
      let next : at + 1 + 1 ≡ at + 2 = omega arith in
      drop_more digits at 0 (omega arith) ∙ ap (λ (r : List ℕ). get_or digits at 0 ∷ r) (rw next at (drop_more digits (at + 1) 0 lt))

  read : octets_of_digits ten (drop at digits) ≡ after_octet (octet_of_digits (hex_value ten (get_or digits at 0)) (hex_value ten (get_or digits (at + 1) 0))) (octets_of_digits ten (drop (at + 2) digits))
  read = ap (octets_of_digits ten) two

  pub octet_more : (prefix : List ℕ) (octet : ℕ) → octet_of_digits (hex_value ten (get_or digits at 0)) (hex_value ten (get_or digits (at + 1) 0)) ≡ Some octet
      → following prefix (octets_of_digits ten (drop at digits)) ≡ following (prefix ++ octet ∷ []) (octets_of_digits ten (drop (at + 2) digits))
  octet_more prefix octet e =
      ap (following prefix) (read ∙ ap (λ (o : Option ℕ). after_octet o (octets_of_digits ten (drop (at + 2) digits))) e) ∙ regroup prefix octet (octets_of_digits ten (drop (at + 2) digits))

  pub octet_bad : (prefix : List ℕ) → octet_of_digits (hex_value ten (get_or digits at 0)) (hex_value ten (get_or digits (at + 1) 0)) ≡ None → following prefix (octets_of_digits ten (drop at digits)) ≡ None
  octet_bad prefix e = ap (following prefix) (read ∙ ap (λ (o : Option ℕ). after_octet o (octets_of_digits ten (drop (at + 2) digits))) e)

pub octets_done : (ten : ℕ) (digits prefix : List ℕ) (at : ℕ) → at ≡ length digits → following prefix (octets_of_digits ten (drop at digits)) ≡ Some prefix
octets_done ten digits prefix at e = rw (drop_all at digits (omega arith), append-nil prefix) refl

pub octets_odd : (ten : ℕ) (digits prefix : List ℕ) (at : ℕ) → length digits ≡ at + 1 → following prefix (octets_of_digits ten (drop at digits)) ≡ None
octets_odd ten digits prefix at e = rw (drop_more digits at 0 (omega arith), drop_all (at + 1) digits (omega arith)) refl
