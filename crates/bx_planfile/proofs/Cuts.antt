-- Lists that are cut at the first element which passes a test.
use Rattle.std.proofs.Common.{◌≡◌, ℕ, ◌+◌, ◌<◌, ◌≤◌, Bool, true, false, cond, ltb, List, [], ◌∷◌, length, take, drop, Some, None, refl, arith, subst}
use Rattle.std.specs.List.{slice_split, position, position_or_len}
use Rattle.std.proofs.lemmas.List.Splits.{slice_split_first, slice_split_none, length-slice_split}
use Rattle.std.proofs.lemmas.List.Sums.{fails_before_first}
use Rattle.std.proofs.lemmas.Bool.{ltb-true, ltb-false}

some_place : (b : Bool) (n k : ℕ) → cond b (Some n) None ≡ Some k → (b ≡ true) × (n ≡ k)
some_place true n k e = (refl, cc)
some_place false n k e = absurd cc

no_place : (b : Bool) (n : ℕ) → cond b (Some n) None ≡ None → b ≡ false
no_place true n e = absurd cc
no_place false n e = refl

-- the place is within the list
pub position_within : {X : Type 0} (p : X → Bool) (xs : List X) (k : ℕ) → position p xs ≡ Some k → (k < length xs) × (position_or_len p xs ≡ k)
position_within p xs k e =
    let s = some_place (ltb (position_or_len p xs) (length xs)) (position_or_len p xs) k e in
    let lt : position_or_len p xs < length xs = ltb-true _ _ s.0 in
    (rw (← s.1) lt, s.1)

-- the parts, where the test passes first at place k
pub split_at : {X : Type 0} (p : X → Bool) (xs : List X) (d : X) (k : ℕ) → position p xs ≡ Some k → slice_split p xs ≡ take k xs ∷ slice_split p (drop (k + 1) xs)
split_at {X} p xs d k e =
    let w = position_within p xs k e in
    let lt : position_or_len p xs < length xs = rw w.1 w.0 in
    let parts = slice_split_first p xs d lt in
    subst (λ (n : ℕ). slice_split p xs ≡ take n xs ∷ slice_split p (drop (n + 1) xs)) w.1 parts

-- and where it passes nowhere
pub split_whole : {X : Type 0} (p : X → Bool) (xs : List X) → position p xs ≡ None → slice_split p xs ≡ xs ∷ []
split_whole p xs e =
    let le : length xs ≤ position_or_len p xs = ltb-false _ _ (no_place (ltb (position_or_len p xs) (length xs)) (position_or_len p xs) e) in
    slice_split_none p xs (λ k d lt. fails_before_first p xs k d (omega arith))

-- there is always a part
pub some_part : {X : Type 0} (p : X → Bool) (xs : List X) → 0 < length (slice_split p xs)
some_part p xs = omega (arith, length-slice_split p xs)
