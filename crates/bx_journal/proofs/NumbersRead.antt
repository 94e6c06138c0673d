-- Numbers are written and read without loss.
use Rattle.std.proofs.Common.{◌≡◌, ◌⊎◌, inl, inr, ℕ, zero, suc, ◌+◌, ◌<◌, ◌≤◌, ◌==◌, ◌&&◌, Bool, true, false, cond, ltb, List, [], ◌∷◌, ◌++◌, length, take, drop, Option, Some, None, refl, ap, subst, arith}
use Rattle.std.specs.Prelude.{decimal}
use Rattle.std.specs.List.{list_all}
use Rattle.std.specs.Char.{is_ascii_digit}
use Rattle.std.specs.Str.{bytes_eq}
use Rattle.std.specs.Str.Parse.{digits_value}
use Rattle.std.proofs.lemmas.Bool.{eqb-true, lt-ltb, ltb-true, ne_eqb, and_parts}
use Rattle.std.proofs.lemmas.Slice.Eq.{bytes_eq-Decides}
use Rattle.std.proofs.lemmas.Str.Parse.{IsDigitsTest, IsNumeralModel, numerals_by_value}
use Rattle.std.proofs.lemmas.Fmt.{digits_decimal, digits_value-decimal, decimal_nonempty, length-decimal-le}
use Rattle.bx_text.specs.Digits.{decimal_value}
use Rattle.bx_text.proofs.DigitSteps.{and_both, digit_between, digit_from_between}
use Rattle.bx_journal.specs.Numbers.{is_number_of_32_bits, number_on, space_at}
use Rattle.bx_journal.specs.Inside.{HasNoLf}

abbrev pub AreDigits : List ℕ → Type 0
AreDigits ds = list_all is_ascii_digit ds ≡ true

tells_digits : IsDigitsTest AreDigits
tells_digits = record {
  empty = refl;
  parts = λ c cs h. let b = and_both (is_ascii_digit c) (list_all is_ascii_digit cs) h in (digit_between c b.0, b.1);
  more = λ c cs between h. rw (digit_from_between c between.0 between.1) h;
}

own : IsNumeralModel AreDigits (digits_value 10)
own = numerals_by_value AreDigits tells_digits

pub decimal_digits : (n : ℕ) → n < 4294967296 → AreDigits (decimal n)
decimal_digits n small = digits_decimal own n (omega (arith, small))

same : (xs : List ℕ) → bytes_eq xs xs ≡ true
same xs = (bytes_eq-Decides xs xs).1 refl

pub number_read : (n : ℕ) → n < 4294967296 → number_on (decimal n) ≡ Some n
number_read n small =
    let value : decimal_value (decimal n) ≡ n = digits_value-decimal own n (omega (arith, small)) in
    rw (decimal_digits n small, value, lt-ltb n 4294967296 small, same (decimal n)) refl

pub record IsNumberOf (ds : List ℕ) (n : ℕ) : Type 0 where
  pub spelled : ds ≡ decimal n
  pub small : n < 4294967296

some_inj : (x y : ℕ) → Some x ≡ Some y → x ≡ y
some_inj x y e = cc

by_form : (t : Bool) (ds : List ℕ) (n : ℕ) → is_number_of_32_bits ds ≡ t → cond t (Some (decimal_value ds)) None ≡ Some n → IsNumberOf ds n
by_form true ds n e some =
    let p = and_parts (list_all is_ascii_digit ds) (ltb (decimal_value ds) 4294967296 && bytes_eq ds (decimal (decimal_value ds))) e in
    let q = and_parts (ltb (decimal_value ds) 4294967296) (bytes_eq ds (decimal (decimal_value ds))) p.1 in
    subst (IsNumberOf ds) (some_inj _ _ some) (record { spelled = (bytes_eq-Decides ds (decimal (decimal_value ds))).0 q.1; small = ltb-true _ _ q.0 })
by_form false ds n e some = absurd cc

pub number_spelled : (ds : List ℕ) (n : ℕ) → number_on ds ≡ Some n → IsNumberOf ds n
number_spelled ds n some = by_form (is_number_of_32_bits ds) ds n refl some

-- digits of a number of 32 bits are few
pub decimal_short : (n : ℕ) → n < 4294967296 → length (decimal n) ≤ 10
decimal_short n small = length-decimal-le 10 n (omega arith) (omega (arith, small)) (omega (arith, small))

none_by : (ds : List ℕ) (o : Option ℕ) → number_on ds ≡ o → 10 < length ds → o ≡ None
none_by ds None is long = refl
none_by ds (Some n) is long =
    let s = number_spelled ds n is in
    absurd (omega (arith, long, ap length s.spelled, decimal_short n s.small))

pub none_long : (ds : List ℕ) → 10 < length ds → number_on ds ≡ None
none_long ds long = none_by ds (number_on ds) refl long

-- no digit is LF or a space
digits_without_lf : (ds : List ℕ) → AreDigits ds → HasNoLf ds
digits_without_lf [] h = tt
digits_without_lf (c ∷ cs) h = let p = and_parts (is_ascii_digit c) (list_all is_ascii_digit cs) h in let d = digit_between c p.0 in (ne_eqb c 10 (λ e. omega (arith, e, d.0)), digits_without_lf cs p.1)

pub decimal_without_lf : (n : ℕ) → n < 4294967296 → HasNoLf (decimal n)
decimal_without_lf n small = digits_without_lf (decimal n) (decimal_digits n small)

pub space_after : (ds rest : List ℕ) → AreDigits ds → space_at (ds ++ 32 ∷ rest) ≡ length ds
space_after [] rest h = refl
space_after (c ∷ cs) rest h =
    let p = and_parts (is_ascii_digit c) (list_all is_ascii_digit cs) h in
    let d = digit_between c p.0 in
    rw (ne_eqb c 32 (λ e. omega (arith, e, d.0)), space_after cs rest p.1) refl

-- a text is what stands before its first space and after it, or there is none
abbrev SpaceParts : List ℕ → ℕ → Type 0
SpaceParts text n = (drop (n + 1) text ≡ []) ⊎ (text ≡ take n text ++ 32 ∷ drop (n + 1) text)

one_more : (o : ℕ) (os : List ℕ) (n : ℕ) → SpaceParts os n → SpaceParts (o ∷ os) (suc n)
one_more o os n (inl none) = let e : suc n + 1 ≡ suc (n + 1) = omega arith in inl (rw e none)
one_more o os n (inr is) = let e : suc n + 1 ≡ suc (n + 1) = omega arith in inr (rw e (ap (λ (l : List ℕ). o ∷ l) is))

by_octet : (t : Bool) (o : ℕ) (os : List ℕ) → o == 32 ≡ t → SpaceParts os (space_at os) → SpaceParts (o ∷ os) (cond t zero (suc (space_at os)))
by_octet true o os e rest = inr (ap (λ (x : ℕ). x ∷ os) (eqb-true o 32 e))
by_octet false o os e rest = one_more o os (space_at os) rest

pub space_parts : (text : List ℕ) → SpaceParts text (space_at text)
space_parts [] = inl refl
space_parts (o ∷ os) = by_octet (o == 32) o os refl (space_parts os)

pub decimal_some : (n : ℕ) → n < 4294967296 → [] ≡ decimal n → ⊥
decimal_some n small e = omega (arith, ap length e, decimal_nonempty n (omega (arith, small)))
