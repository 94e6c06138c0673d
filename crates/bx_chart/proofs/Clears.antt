-- What is put together of clear pieces is clear, and no bar stands in it.
use Rattle.std.proofs.Common.{◌≡◌, ◌≤◌, ◌<◌, ◌+◌, ◌%◌, ◌^◌, ◌==◌, ℕ, Bool, true, false, not, List, [], ◌∷◌, ◌++◌, All, refl, arith, ◌&&◌, ◌||◌, Result, Ok, Err, OnOk, OnErr, ap, ◌∙◌}
use Rattle.std.proofs.lemmas.Bool.{false≢true}
use Rattle.std.proofs.lemmas.Bool.Decides.{nat_tests}
use Rattle.std.proofs.lemmas.Fmt.{decimal_by_steps}
use Rattle.std.proofs.lemmas.List.Elements.{All-head, All-tail}
use Rattle.std.specs.Char.{IsAsciiDigit}
use Rattle.std.specs.Fmt.{decimal}
use Rattle.std.specs.Prelude.{codes}
use Rattle.bx_chart.specs.Barless.{begins_with, holds_octets, IsBarless}
use Rattle.bx_chart.specs.Clear.{is_clear, is_fine}

both : (a b : Bool) → a ≡ true → b ≡ true → (a && b) ≡ true
both a b h k = rw (h, k) refl

first_of : (a b : Bool) → (a && b) ≡ true → a ≡ true
first_of true b h = refl
first_of false b h = h

second_of : (a b : Bool) → (a && b) ≡ true → b ≡ true
second_of true b h = h
second_of false b h = absurd (false≢true h)

-- what stands after an octet, with more after it
fine_append : (a b : List ℕ) → is_fine a ≡ true → is_fine (a ++ b) ≡ true
fine_append [] b h = absurd (false≢true h)
fine_append (o ∷ []) b h = absurd (false≢true h)
fine_append (o ∷ p ∷ os) b h = h

guarded : (g : Bool) (a b : List ℕ) → (g || is_fine a) ≡ true → (g || is_fine (a ++ b)) ≡ true
guarded true a b h = refl
guarded false a b h = fine_append a b h

pub clear_append : (a b : List ℕ) → is_clear a ≡ true → is_clear b ≡ true → is_clear (a ++ b) ≡ true
clear_append [] b h k = k
clear_append (o ∷ os) b h k = both (not (60 == o) || is_fine (os ++ b)) (is_clear (os ++ b)) (guarded (not (60 == o)) os b (first_of (not (60 == o) || is_fine os) (is_clear os) h)) (clear_append os b (second_of (not (60 == o) || is_fine os) (is_clear os) h) k)

-- ---- digits

digit_is_clear : (o : ℕ) → o ≤ 57 → (60 == o) ≡ false
digit_is_clear o h = grind (arith, nat_tests, h)

pub clear_digits : (digits : List ℕ) → All IsAsciiDigit digits → is_clear digits ≡ true
clear_digits [] all = refl
clear_digits (o ∷ os) all = both (not (60 == o) || is_fine os) (is_clear os) (rw (digit_is_clear o (All-head IsAsciiDigit o os all).1) refl) (clear_digits os (All-tail IsAsciiDigit o os all))

one : (d : ℕ) → d < 10 → is_clear ((48 + d) ∷ []) ≡ true
one d h = rw (digit_is_clear (48 + d) (omega (arith, h))) refl

pub clear_decimal : (n : ℕ) → n < 2 ^ 64 → is_clear (decimal n) ≡ true
clear_decimal = decimal_by_steps (λ n ds. is_clear ds ≡ true) one (λ n ds h p. clear_append ds ((48 + n % 10) ∷ []) p (one (n % 10) (omega arith)))

-- ---- no bar

or_false : (a b : Bool) → a ≡ false → b ≡ false → (a || b) ≡ false
or_false a b h k = rw (h, k) refl

no_ti : (bang t i rest : Bool) → (not bang && not (t && i)) ≡ true → (t && (i && rest)) ≡ false
no_ti true t i rest h = absurd (false≢true h)
no_ti false false i rest h = refl
no_ti false true false rest h = refl
no_ti false true true rest h = absurd (false≢true h)

no_bang : (bang ti : Bool) → (not bang && not ti) ≡ true → (bang && true) ≡ false
no_bang true ti h = absurd (false≢true h)
no_bang false ti h = refl

and_false : (a : Bool) → (a && false) ≡ false
and_false true = refl
and_false false = refl

untitled_after : (os : List ℕ) → is_fine os ≡ true → begins_with (codes "title>row ") os ≡ false
untitled_after [] h = refl
untitled_after (a ∷ []) h = and_false (116 == a)
untitled_after (a ∷ b ∷ os) h = no_ti (33 == a) (116 == a) (105 == b) (begins_with (codes "tle>row ") os) h

uncommented_after : (os : List ℕ) → is_fine os ≡ true → begins_with (codes "!") os ≡ false
uncommented_after [] h = refl
uncommented_after (a ∷ []) h = absurd (false≢true h)
uncommented_after (a ∷ b ∷ os) h = no_bang (33 == a) ((116 == a) && (105 == b)) h

untitled_here : (g : Bool) (os : List ℕ) → (not g || is_fine os) ≡ true → (g && begins_with (codes "title>row ") os) ≡ false
untitled_here true os h = untitled_after os h
untitled_here false os h = refl

uncommented_here : (g : Bool) (os : List ℕ) → (not g || is_fine os) ≡ true → (g && begins_with (codes "!") os) ≡ false
uncommented_here true os h = uncommented_after os h
uncommented_here false os h = refl

untitled : (text : List ℕ) → is_clear text ≡ true → holds_octets (codes "<title>row ") text ≡ false
untitled [] h = refl
untitled (o ∷ os) h = or_false (begins_with (codes "<title>row ") (o ∷ os)) (holds_octets (codes "<title>row ") os) (untitled_here (60 == o) os (first_of (not (60 == o) || is_fine os) (is_clear os) h)) (untitled os (second_of (not (60 == o) || is_fine os) (is_clear os) h))

uncommented : (text : List ℕ) → is_clear text ≡ true → holds_octets (codes "<!") text ≡ false
uncommented [] h = refl
uncommented (o ∷ os) h = or_false (begins_with (codes "<!") (o ∷ os)) (holds_octets (codes "<!") os) (uncommented_here (60 == o) os (first_of (not (60 == o) || is_fine os) (is_clear os) h)) (uncommented os (second_of (not (60 == o) || is_fine os) (is_clear os) h))

pub barless : (text : List ℕ) → is_clear text ≡ true → IsBarless text
barless text h = record { untitled = untitled text h; uncommented = uncommented text h }

-- what is clear after a call
pub added : {T E : Type 0} (r : Result T E) (old piece new : List ℕ) → is_clear old ≡ true → is_clear piece ≡ true → OnOk r (new ≡ old ++ piece) → OnErr r (new ≡ old) → is_clear new ≡ true
added (Ok x) old piece new h k p q = ap is_clear p ∙ clear_append old piece h k
added (Err e) old piece new h k p q = ap is_clear q ∙ h
