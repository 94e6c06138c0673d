-- Decimals are written and read without loss.
use Rattle.std.proofs.Common.{◌≡◌, ℕ, zero, suc, ◌^◌, ◌<◌, Bool, true, false, ◌||◌, not, ltb, eqb, List, length, get_or, refl, ap, arith}
use Rattle.std.specs.Prelude.{decimal}
use Rattle.std.specs.List.{list_all}
use Rattle.std.specs.Char.{is_ascii_digit}
use Rattle.std.specs.Str.Parse.{digits_value}
use Rattle.std.proofs.lemmas.Bool.{eqb-true, lt-ltb, ltb-true}
use Rattle.std.proofs.lemmas.Bool.Decides.{nat_tests}
use Rattle.std.proofs.lemmas.Str.Parse.{IsDigitsTest, IsNumeralModel, numerals_by_value}
use Rattle.std.proofs.lemmas.Fmt.{digits_decimal, digits_value-decimal, decimal-digits_value, decimal_nonempty, first_decimal, decimal_digit}
use Rattle.bx_planfile.specs.Forms.{is_digits, is_decimal}
use Rattle.bx_text.specs.Digits.{decimal_value}
use Rattle.bx_text.proofs.DigitSteps.{and_both, digit_between, digit_from_between}

abbrev AreDigits : List ℕ → Type 0
AreDigits ds = list_all is_ascii_digit ds ≡ true

tells_digits : IsDigitsTest AreDigits
tells_digits = record {
  empty = refl;
  parts = λ c cs h. let b = and_both (is_ascii_digit c) (list_all is_ascii_digit cs) h in (digit_between c b.0, b.1);
  more = λ c cs between h. rw (digit_from_between c between.0 between.1) h;
}

own : IsNumeralModel AreDigits (digits_value 10)
own = numerals_by_value AreDigits tells_digits

pub digits-decimal : (n : ℕ) → n < 2 ^ 64 → list_all is_ascii_digit (decimal n) ≡ true
digits-decimal n small = digits_decimal own n small

pub value-decimal : (n : ℕ) → n < 2 ^ 64 → decimal_value (decimal n) ≡ n
value-decimal n small = digits_value-decimal own n small

or_true : (a b : Bool) → a ≡ true → (a || b) ≡ true
or_true a b e = rw e refl

decimal_prefix : (n : ℕ) → n < 2 ^ 64 → (not (eqb (get_or (decimal n) 0 0) 48) || eqb (length (decimal n)) 1) ≡ true
decimal_prefix zero small = rw (decimal_digit 0 (omega arith)) refl
decimal_prefix (suc n) small =
    let big = first_decimal (suc n) (omega arith) small in
    let other : not (eqb (get_or (decimal (suc n)) 0 0) 48) ≡ true = grind (arith, nat_tests, big) in
    or_true _ (eqb (length (decimal (suc n))) 1) other

pub is_decimal-decimal : (n : ℕ) → n < 2 ^ 64 → is_decimal (decimal n) ≡ true
is_decimal-decimal n small =
    let some : ltb 0 (length (decimal n)) ≡ true = lt-ltb 0 (length (decimal n)) (decimal_nonempty n small) in
    rw (some, digits-decimal n small, decimal_prefix n small) refl

pub some_digits : (ds : List ℕ) → is_digits ds ≡ true → 0 < length ds
some_digits ds h = ltb-true 0 (length ds) (and_both _ _ h).0

pub digits_from_decimal : (ds : List ℕ) → is_decimal ds ≡ true → is_digits ds ≡ true
digits_from_decimal ds h = (and_both (is_digits ds) _ h).0

or_right : (a b : Bool) → (not a || b) ≡ true → a ≡ true → b ≡ true
or_right true b h e = h
or_right false b h e = absurd cc

pub decimal-value : (ds : List ℕ) → is_decimal ds ≡ true → decimal_value ds < 2 ^ 64 → decimal (decimal_value ds) ≡ ds
decimal-value ds h small =
    let parts = and_both (is_digits ds) (not (eqb (get_or ds 0 0) 48) || eqb (length ds) 1) h in
    let digits = (and_both _ _ parts.0).1 in
    decimal-digits_value own ds digits (some_digits ds parts.0) (λ zero_first. eqb-true _ _ (or_right (eqb (get_or ds 0 0) 48) (eqb (length ds) 1) parts.1 (ap (λ c. eqb c 48) zero_first))) small
