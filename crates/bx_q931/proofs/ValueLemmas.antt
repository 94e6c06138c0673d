-- The readers of a message, one step at a time.
use Rattle.std.proofs.Common.{◌≡◌, ◌≢◌, ◌≤◌, ◌==◌, ◌&&◌, ◌↔◌, ℕ, nat_le, Bool, true, false, List, [], ◌∷◌, length, Option, Some, None, refl, ap, inl, inr, eq-eqb, cond, All}
use Rattle.std.proofs.lemmas.Bool.{ne_eqb, leb-true, le-leb, cases_Bool, false≢true}
use Rattle.std.proofs.lemmas.Bool.Decides.{Decides-and, Decides-by_and, Decides-like}
use Rattle.std.specs.Bool.{Decides}
use Rattle.std.specs.Char.{is_ascii_digit, IsAsciiDigit}
use Rattle.std.specs.Option.{IsSome, IfSome}
use Rattle.bx_channels.specs.Numbers.{IsNumber}
use Rattle.bx_q931.specs.Elements.{PlainElement}
use Rattle.bx_q931.specs.Values.{first_in, are_digits, is_number}

-- ---- the first of a kind

pub first_here : (id : ℕ) (e : PlainElement) (es : List PlainElement) → e.codeset ≡ 0 → e.id ≡ id → first_in id (e ∷ es) ≡ Some e.contents
unfolding first_in
first_here id e es c h = rw (eq-eqb e.codeset 0 c, eq-eqb e.id id h) refl

and_false : (a b : Bool) → b ≡ false → (a && b) ≡ false
and_false true b h = h
and_false false b h = refl

pub first_other_codeset : (id : ℕ) (e : PlainElement) (es : List PlainElement) → e.codeset ≢ 0 → first_in id es ≡ first_in id (e ∷ es)
unfolding first_in
first_other_codeset id e es h = rw (ne_eqb e.codeset 0 h) refl

pub first_other : (id : ℕ) (e : PlainElement) (es : List PlainElement) → e.id ≢ id → first_in id es ≡ first_in id (e ∷ es)
unfolding first_in
first_other id e es h = rw (and_false (e.codeset == 0) (e.id == id) (ne_eqb e.id id h)) refl

pub first_none : (id : ℕ) (es : List PlainElement) → es ≡ [] → first_in id es ≡ None
unfolding first_in
first_none id es h = rw h refl

-- ---- numbers

leb_decides : (a b : ℕ) → Decides (nat_le a b) (a ≤ b)
leb_decides a b = (leb-true a b, le-leb a b)

digit_decides : (o : ℕ) → Decides (is_ascii_digit o) (IsAsciiDigit o)
digit_decides o = Decides-and (nat_le 48 o) (nat_le o 57) (leb_decides 48 o) (leb_decides o 57)

digits_decide : (digits : List ℕ) → Decides (are_digits digits) (All IsAsciiDigit digits)
unfolding are_digits
digits_decide = Decides-by_and is_ascii_digit IsAsciiDigit are_digits digit_decides refl (λ x xs. refl)

pub number_decides : (digits : List ℕ) → Decides (is_number digits) (IsNumber digits)
number_decides digits =
    Decides-like (is_number digits)
    (λ (p : (1 ≤ length digits × length digits ≤ 15) × All IsAsciiDigit digits). record { some = p.0.0; few = p.0.1; ascii = p.1 })
    (λ n. ((n.some, n.few), n.ascii))
    (Decides-and (nat_le 1 (length digits) && nat_le (length digits) 15) (are_digits digits) (Decides-and (nat_le 1 (length digits)) (nat_le (length digits) 15) (leb_decides 1 (length digits)) (leb_decides (length digits) 15)) (digits_decide digits))

-- what `Number::new` says, as a value
pub number_if : (digits : List ℕ) (r : Option (List ℕ)) → (IsSome r ↔ IsNumber digits) → IfSome r (λ n. n ≡ digits) → r ≡ cond (is_number digits) (Some digits) None
number_if digits None h v = elim (cases_Bool (is_number digits)) [
  | inl t ↦ absurd (false≢true (h.1 ((number_decides digits).0 t)))
  | inr f ↦ rw f refl
]
number_if digits (Some n) h v = rw ((number_decides digits).1 (h.0 refl)) (ap Some v)
