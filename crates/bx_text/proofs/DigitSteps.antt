-- Digits, and the values of decimals.
use Rattle.std.proofs.Common.{◌≡◌, ℕ, zero, suc, ◌+◌, ◌-◌, ◌*◌, ◌^◌, ◌<◌, ◌≤◌, min, Bool, true, false, ◌&&◌, List, [], ◌∷◌, length, get_or, take, refl, arith}
use Rattle.std.specs.List.{list_all}
use Rattle.std.specs.Char.{is_ascii_digit, digit_value}
use Rattle.std.proofs.lemmas.Int.Digits.{digits_value_more}
use Rattle.std.proofs.lemmas.Bool.Decides.{nat_tests}
use Rattle.bx_text.specs.Digits.{decimal_value, capped}

pub and_both : (a b : Bool) → (a && b) ≡ true → (a ≡ true) × (b ≡ true)
and_both true b e = (refl, e)
and_both false b e = absurd cc

pub digit_between : (c : ℕ) → is_ascii_digit c ≡ true → (48 ≤ c) × (c ≤ 57)
digit_between c e = grind (arith, nat_tests)

pub digit_from_between : (c : ℕ) → 48 ≤ c → c ≤ 57 → is_ascii_digit c ≡ true
digit_from_between c low high = grind (arith, nat_tests)

pub digit_value_is : (c : ℕ) → 48 ≤ c → c ≤ 57 → digit_value c ≡ c - 48
digit_value_is c low high = grind (arith, nat_tests)

pub all_from_test : (ds : List ℕ) → list_all is_ascii_digit ds ≡ true → (k d : ℕ) → k < length ds → (48 ≤ get_or ds k d) × (get_or ds k d ≤ 57)
all_from_test [] e k d lt = absurd (omega arith)
all_from_test (c ∷ cs) e zero d lt = digit_between c (and_both _ _ e).0
all_from_test (c ∷ cs) e (suc k) d lt = all_from_test cs (and_both _ _ e).1 k d (omega arith)

pub test_from_all : (ds : List ℕ) → ((k d : ℕ) → k < length ds → (48 ≤ get_or ds k d) × (get_or ds k d ≤ 57)) → list_all is_ascii_digit ds ≡ true
test_from_all [] h = refl
test_from_all (c ∷ cs) h =
    let first = h 0 0 (omega arith) in
    rw (digit_from_between c first.0 first.1) (test_from_all cs (λ k d lt. h (suc k) d (omega arith)))

-- one more digit, as the code takes it
pub value_more : (ds : List ℕ) (i value : ℕ) → list_all is_ascii_digit ds ≡ true → i < length ds → value ≡ capped (decimal_value (take i ds))
    → min (min (value * 10) (2 ^ 64 - 1) + (get_or ds i 0 - 48)) (2 ^ 64 - 1) ≡ capped (decimal_value (take (i + 1) ds))
value_more ds i value digits lt so_far =
    let between = all_from_test ds digits i 0 lt in
    let step = digits_value_more 10 ds i lt in
    let digit = digit_value_is (get_or ds i 0) between.0 between.1 in
    omega (arith, step, digit)
