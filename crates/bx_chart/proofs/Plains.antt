-- What is put together of plain pieces is plain.
use Rattle.std.proofs.Common.{◌≡◌, ◌≤◌, ◌<◌, ◌+◌, ◌%◌, ◌^◌, ℕ, Bool, true, false, List, [], ◌∷◌, ◌++◌, All, refl, arith, if◌then◌else◌, ◌&&◌}
use Rattle.std.proofs.lemmas.Bool.{le-leb, false≢true}
use Rattle.std.proofs.lemmas.Fmt.{decimal_by_steps}
use Rattle.std.proofs.lemmas.List.Elements.{All-head, All-tail}
use Rattle.std.specs.Char.{IsAsciiDigit}
use Rattle.std.specs.Fmt.{decimal}
use Rattle.bx_chart.specs.Plain.{is_plain, is_plain_octet}

octet_between : (o : ℕ) → 32 ≤ o → o ≤ 126 → is_plain_octet o ≡ true
octet_between o low high = rw (le-leb 32 o low, le-leb o 126 high) refl

both : (a b : Bool) → a ≡ true → b ≡ true → (a && b) ≡ true
both a b h k = rw (h, k) refl

first_of : (a b : Bool) → (a && b) ≡ true → a ≡ true
first_of true b h = refl
first_of false b h = h

second_of : (a b : Bool) → (a && b) ≡ true → b ≡ true
second_of true b h = h
second_of false b h = absurd (false≢true h)

pub plain_append : (a b : List ℕ) → is_plain a ≡ true → is_plain b ≡ true → is_plain (a ++ b) ≡ true
plain_append [] b h k = k
plain_append (o ∷ os) b h k = both (is_plain_octet o) (is_plain (os ++ b)) (first_of (is_plain_octet o) (is_plain os) h) (plain_append os b (second_of (is_plain_octet o) (is_plain os) h) k)

-- a piece after another, or what was there
pub plain_joined : (done : Bool) (a b : List ℕ) → is_plain a ≡ true → is_plain b ≡ true → is_plain (if done then a ++ b else a) ≡ true
plain_joined true a b h k = plain_append a b h k
plain_joined false a b h k = h

pub plain_digits : (digits : List ℕ) → All IsAsciiDigit digits → is_plain digits ≡ true
plain_digits [] all = refl
plain_digits (o ∷ os) all = both (is_plain_octet o) (is_plain os) (octet_between o (omega (arith, (All-head IsAsciiDigit o os all).0)) (omega (arith, (All-head IsAsciiDigit o os all).1))) (plain_digits os (All-tail IsAsciiDigit o os all))

digit : (d : ℕ) → d < 10 → is_plain_octet (48 + d) ≡ true
digit d h = octet_between (48 + d) (omega (arith, h)) (omega (arith, h))

one : (d : ℕ) → d < 10 → is_plain ((48 + d) ∷ []) ≡ true
one d h = both (is_plain_octet (48 + d)) true (digit d h) refl

pub plain_decimal : (n : ℕ) → n < 2 ^ 64 → is_plain (decimal n) ≡ true
plain_decimal = decimal_by_steps (λ n ds. is_plain ds ≡ true) one (λ n ds h p. plain_append ds ((48 + n % 10) ∷ []) p (one (n % 10) (omega arith)))
