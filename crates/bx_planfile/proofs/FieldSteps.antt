-- Taking a field from those that are left of a line.
use Rattle.std.proofs.Common.{◌≡◌, ℕ, ◌+◌, ◌-◌, Bool, true, false, List, [], length, take, drop, Some, None, refl, sym, ap, ◌∙◌, arith}
use Rattle.std.specs.List.{position}
use Rattle.std.proofs.lemmas.List.{nil_from_length, take_rest}
use Rattle.std.proofs.lemmas.Bool.Decides.{nat_tests}
use Rattle.bx_planfile.specs.Lines.{is_space, first, other_fields, fields_of}
use Rattle.bx_planfile.specs.Forms.{is_nothing}
use Rattle.bx_planfile.specs.FieldsInside.{left_of}
use Rattle.bx_planfile.proofs.Cuts.{split_at, split_whole, some_part, position_within}

pub done_is : (done : Bool) (rest : List ℕ) (v : List (List ℕ)) → left_of done rest ≡ v → done ≡ is_nothing v
done_is true rest v e = ap is_nothing e
done_is false rest v e =
    let some = some_part is_space rest in
    let h : false ≡ is_nothing (fields_of rest) = grind (arith, nat_tests, some) in
    h ∙ ap is_nothing e

-- a field with a space after it
pub taken : (done : Bool) (rest : List ℕ) (v : List (List ℕ)) (k : ℕ) → (done ≡ true → length rest ≡ 0) → left_of done rest ≡ v → position is_space rest ≡ Some k
    → (take k rest ≡ first v) × (left_of done (take (length rest - (k + 1)) (drop (k + 1) rest)) ≡ other_fields v)
taken true rest v k inv e at = absurd (omega (arith, inv refl, (position_within is_space rest k at).0))
taken false rest v k inv e at =
    let parts = sym (split_at is_space rest 0 k at) ∙ e in
    (ap first parts, ap fields_of (take_rest rest (k + 1)) ∙ ap other_fields parts)

-- the last field
pub last_taken : (done : Bool) (rest : List ℕ) (v : List (List ℕ)) → (done ≡ true → length rest ≡ 0) → left_of done rest ≡ v → position is_space rest ≡ None
    → (rest ≡ first v) × (◌≡◌ {A = List (List ℕ)} [] (other_fields v))
last_taken true rest v inv e at = (nil_from_length rest (inv refl) ∙ ap first e, ap other_fields e)
last_taken false rest v inv e at =
    let parts = sym (split_whole is_space rest at) ∙ e in
    (ap first parts, ap other_fields parts)
