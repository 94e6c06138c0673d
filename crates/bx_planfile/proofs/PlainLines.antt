-- Lines whose fields have neither spaces nor LFs: each is cut from a text as it was put there.
use Rattle.std.proofs.Common.{◌≡◌, ℕ, zero, suc, ◌+◌, ◌<◌, Bool, true, false, ◌&&◌, not, ltb, List, [], ◌∷◌, ◌++◌, length, get_or, take, drop, Option, Some, None, Ok, refl, sym, ap, ◌∙◌, arith, subst, append_assoc}
use Rattle.std.specs.List.{list_all, position, position_or_len, join_with_byte}
use Rattle.std.specs.Char.{is_ascii_digit}
use Rattle.std.proofs.lemmas.Bool.{lt-ltb, eqb-true}
use Rattle.std.proofs.lemmas.Bool.Decides.{nat_tests}
use Rattle.std.proofs.lemmas.List.{take_at, drop_at, take-append-drop, length-append, drop_more}
use Rattle.std.proofs.lemmas.List.Quantifiers.{position-Some}
use Rattle.std.proofs.lemmas.List.Splits.{join_with_byte-slice_split, slice_split_at, slice_split_none}
use Rattle.bx_planfile.specs.declared.fault.PlanTextFault.TheVariants.{BadLine}
use Rattle.bx_text.specs.Lines.{line_text}
use Rattle.bx_planfile.specs.Lines.{is_lf, is_space, fields_of, cut_line, first_line}
use Rattle.bx_planfile.specs.Reading.{or_fault, read_line}
use Rattle.bx_text.proofs.DigitSteps.{and_both}

-- an octet, a field and fields with neither spaces nor LFs
abbrev pub is_inner : ℕ → Bool
is_inner b = not (is_space b) && not (is_lf b)

abbrev pub is_plain : List ℕ → Bool
is_plain field = list_all is_inner field

abbrev pub are_plain : List (List ℕ) → Bool
are_plain fields = list_all is_plain fields

inner_from_digit : (c : ℕ) → is_ascii_digit c ≡ true → is_inner c ≡ true
inner_from_digit c e = grind (arith, nat_tests)

pub plain_from_digits : (ds : List ℕ) → list_all is_ascii_digit ds ≡ true → is_plain ds ≡ true
plain_from_digits [] e = refl
plain_from_digits (c ∷ cs) e =
    let b = and_both (is_ascii_digit c) (list_all is_ascii_digit cs) e in
    rw (inner_from_digit c b.0) (plain_from_digits cs b.1)

not_true : (b : Bool) → not b ≡ true → b ≡ false
not_true true e = absurd cc
not_true false e = refl

pub no_space : (field : List ℕ) → is_plain field ≡ true → (k d : ℕ) → k < length field → is_space (get_or field k d) ≡ false
no_space [] e k d lt = absurd (omega arith)
no_space (b ∷ bs) e zero d lt = not_true (is_space b) (and_both _ _ (and_both (is_inner b) _ e).0).0
no_space (b ∷ bs) e (suc k) d lt = no_space bs (and_both (is_inner b) _ e).1 k d (omega arith)

no_lf_here : (b : ℕ) → is_inner b ≡ true → is_lf b ≡ false
no_lf_here b e = not_true (is_lf b) (and_both (not (is_space b)) (not (is_lf b)) e).1

-- fields that were joined are cut apart again
pub fields-join : (field : List ℕ) (fields : List (List ℕ)) → are_plain (field ∷ fields) ≡ true → fields_of (join_with_byte 32 (field ∷ fields)) ≡ field ∷ fields
fields-join field [] e = slice_split_none is_space field (no_space field (and_both (is_plain field) _ e).0)
fields-join field (next ∷ fields) e =
    let b = and_both (is_plain field) _ e in
    slice_split_at is_space field 32 (join_with_byte 32 (next ∷ fields)) (no_space field b.0) refl ∙ ap (λ (fs : List (List ℕ)). field ∷ fs) (fields-join next fields b.1)

-- where the first LF of a text is
lf_at : (line rest : List ℕ) → list_all (λ b. not (is_lf b)) line ≡ true → position_or_len is_lf (line ++ 10 ∷ rest) ≡ length line
lf_at [] rest e = refl
lf_at (b ∷ bs) rest e =
    let h = and_both (not (is_lf b)) (list_all (λ b. not (is_lf b)) bs) e in
    rw h.0 (omega (arith, lf_at bs rest h.1))

and_true : (a b : Bool) → a ≡ true → b ≡ true → (a && b) ≡ true
and_true a b p q = rw (p, q) refl

no_lf_append : (xs ys : List ℕ) → list_all (λ b. not (is_lf b)) xs ≡ true → list_all (λ b. not (is_lf b)) ys ≡ true → list_all (λ b. not (is_lf b)) (xs ++ ys) ≡ true
no_lf_append [] ys p q = q
no_lf_append (x ∷ xs) ys p q = let h = and_both (not (is_lf x)) _ p in rw h.0 (no_lf_append xs ys h.1 q)

no_lf_plain : (field : List ℕ) → is_plain field ≡ true → list_all (λ b. not (is_lf b)) field ≡ true
no_lf_plain [] e = refl
no_lf_plain (b ∷ bs) e = let h = and_both (is_inner b) _ e in rw (no_lf_here b h.0) (no_lf_plain bs h.1)

no_lf_join : (fields : List (List ℕ)) → are_plain fields ≡ true → list_all (λ b. not (is_lf b)) (join_with_byte 32 fields) ≡ true
no_lf_join [] e = refl
no_lf_join (field ∷ []) e = no_lf_plain field (and_both (is_plain field) _ e).0
no_lf_join (field ∷ next ∷ fields) e =
    let b = and_both (is_plain field) _ e in
    no_lf_append field (32 ∷ join_with_byte 32 (next ∷ fields)) (no_lf_plain field b.0) (no_lf_join (next ∷ fields) b.1)

-- a line that stands at the start is read
pub line_again : (n : ℕ) (field : List ℕ) (fields : List (List ℕ)) (rest : List ℕ) → are_plain (field ∷ fields) ≡ true → read_line n (line_text (field ∷ fields) ++ rest) ≡ Ok (field ∷ fields, rest)
unfolding read_line
line_again n field fields rest e =
    let line : List ℕ = join_with_byte 32 (field ∷ fields) in
    let whole : line_text (field ∷ fields) ++ rest ≡ line ++ 10 ∷ rest = append_assoc line (10 ∷ []) rest in
    let place : position_or_len is_lf (line ++ 10 ∷ rest) ≡ length line = lf_at line rest (no_lf_join (field ∷ fields) e) in
    let within : ltb (length line) (length (line ++ 10 ∷ rest)) ≡ true = lt-ltb _ _ (omega (arith, length-append line (10 ∷ rest))) in
    let found : position is_lf (line ++ 10 ∷ rest) ≡ Some (length line) = rw (place, within) refl in
    let prefix : take (length line) (line ++ 10 ∷ rest) ≡ line = take_at line (10 ∷ rest) (length line) refl in
    let following : drop (length line + 1) (line ++ 10 ∷ rest) ≡ rest
    = ap (drop (length line + 1)) (sym whole) ∙ drop_at (line_text (field ∷ fields)) rest (length line + 1) (length-append line (10 ∷ [])) in
    ap (λ b. or_fault (BadLine n) (first_line b)) whole ∙ ap (λ p. or_fault (BadLine n) (cut_line (line ++ 10 ∷ rest) p)) found ∙ rw (prefix, following, fields-join field fields e) refl

takes_at : (n : ℕ) (bytes : List ℕ) (p : Option ℕ) (x : List (List ℕ) × List ℕ) → position is_lf bytes ≡ p → or_fault (BadLine n) (cut_line bytes p) ≡ Ok x → bytes ≡ line_text x.0 ++ x.1
takes_at n bytes None x at e = absurd cc
takes_at n bytes (Some k) x at e =
    let place = position-Some is_lf bytes k 0 at in
    let lf : get_or bytes k 0 ≡ 10 = eqb-true _ _ place.1 in
    let prefix = take k bytes in
    let following = drop (k + 1) bytes in
    let cut : drop k bytes ≡ 10 ∷ following = drop_more bytes k 0 place.0 ∙ ap (λ (c : ℕ). c ∷ following) lf in
    let whole : bytes ≡ line_text (fields_of prefix) ++ following =
    sym (take-append-drop k bytes) ∙ ap (λ (r : List ℕ). prefix ++ r) cut ∙ sym (append_assoc prefix (10 ∷ []) following)
    ∙ ap (λ (l : List ℕ). (l ++ 10 ∷ []) ++ following) (sym (join_with_byte-slice_split 32 prefix)) in
    let made : List (List ℕ) × List ℕ = (fields_of prefix, following) in
    let same : made ≡ x = cc in
    subst (λ (y : List (List ℕ) × List ℕ). bytes ≡ line_text y.0 ++ y.1) same whole

-- and a line that is read stands at the start
pub line_takes : (n : ℕ) (bytes : List ℕ) (x : List (List ℕ) × List ℕ) → read_line n bytes ≡ Ok x → bytes ≡ line_text x.0 ++ x.1
unfolding read_line
line_takes n bytes x e = takes_at n bytes (position is_lf bytes) x refl e
