-- Names of rows that pass a test.
use Rattle.std.proofs.Common.{zero, suc, ◌≡◌, ℕ, ◌+◌, ◌-◌, ◌<◌, ◌≤◌, Bool, true, false, cond, eqb, ◌&&◌, ◌||◌, not, List, [], ◌∷◌, ◌++◌, refl, sym, ◌∙◌, arith, inl, inr}
use Rattle.std.specs.List.{All, AllPairs, sum_by, list_any}
use Rattle.std.specs.List.Sorted.{IsStrictlyIncreasing}
use Rattle.std.proofs.lemmas.Bool.{cases_lt, eq-eqb, ne_eqb, eqb-true}
use Rattle.std.proofs.lemmas.List.{append-nil}
use Rattle.std.proofs.lemmas.List.Folds.{list_any-append}
use Rattle.std.proofs.lemmas.List.Sums.{sum_by-append, sum_by-cons}
use Rattle.std.proofs.lemmas.List.Elements.{All-nil, All-push}
use Rattle.std.proofs.lemmas.List.Quantifiers.{all_pairs_push}
use Rattle.bx_base.specs.Sums.{sum_below}
use Rattle.bx_base.specs.Bookings.{Row, row_at}
use Rattle.bx_planner.specs.Named.{AreRowsThatPass, pay_of_rows, is_named, traded, picked}
use Rattle.bx_planner.specs.QuotesInside.{is_apart}

all_with : (P : ℕ → Type 0) (xs : List ℕ) (x : ℕ) (b : Bool) → All P xs → (b ≡ true → P x) → All P (xs ++ cond b (x ∷ []) [])
all_with P xs x true all h = All-push P xs x all (h refl)
all_with P xs x false all h = let s : xs ++ [] ≡ xs = append-nil xs in rw s all

pub all_picked : (P : ℕ → Type 0) (test : ℕ → Bool) (n : ℕ) → ((j : ℕ) → j < n → test j ≡ true → P (suc j)) → All P (picked test n)
all_picked P test zero h = All-nil P
all_picked P test (suc n) h = all_with P (picked test n) (suc n) (test n) (all_picked P test n (λ j b e. h j (omega arith) e)) (h n (omega arith))

pairs_with : (xs : List ℕ) (x : ℕ) (b : Bool) → AllPairs (λ x y. x < y) xs → All (λ y. y < x) xs → AllPairs (λ x y. x < y) (xs ++ cond b (x ∷ []) [])
pairs_with xs x true pairs all = all_pairs_push (λ x y. x < y) xs x pairs (λ k d h. all k d h)
pairs_with xs x false pairs all = let s : xs ++ [] ≡ xs = append-nil xs in rw s pairs

pairs_picked : (test : ℕ → Bool) (n : ℕ) → AllPairs (λ x y. x < y) (picked test n)
pairs_picked test zero = λ i j d l b. absurd (omega arith)
pairs_picked test (suc n) = pairs_with (picked test n) (suc n) (test n) (pairs_picked test n) (all_picked (λ y. y < suc n) test n (λ j b e. omega arith))

pub rising_picked : (test : ℕ → Bool) (n : ℕ) → IsStrictlyIncreasing (picked test n)
rising_picked test n = λ k b. pairs_picked test n k (k + 1) 0 (omega arith) b

-- the names are those of rows that pass another test
pub are_rows : (count : ℕ) (test other : ℕ → Bool) (n : ℕ) → ((j : ℕ) → j < n → test j ≡ true → (j < count) × (other j ≡ true)) → AreRowsThatPass count other (picked test n)
are_rows count test other n h =
    record {
      rising = rising_picked test n;
      each = all_picked (λ row. (1 ≤ row) × (row ≤ count) × (other (row - 1) ≡ true)) test n (λ j b e. (let g = h j b e in (omega arith, omega (arith, g.0), (let s : suc j - 1 ≡ j = omega arith in rw s g.1))));
    }

named_with : (xs : List ℕ) (x i : ℕ) (b : Bool) → list_any (λ row. eqb row i) (xs ++ cond b (x ∷ []) []) ≡ (list_any (λ row. eqb row i) xs || (b && eqb x i))
named_with xs x i true = list_any-append (λ row. eqb row i) xs (x ∷ []) ∙ or_last (list_any (λ row. eqb row i) xs) (eqb x i)
  where
    or_last : (a b : Bool) → (a || (b || false)) ≡ (a || b)
    or_last true b = refl
    or_last false true = refl
    or_last false false = refl
named_with xs x i false = let s : xs ++ [] ≡ xs = append-nil xs in rw s (or_none (list_any (λ row. eqb row i) xs))
  where
    or_none : (a : Bool) → a ≡ (a || false)
    or_none true = refl
    or_none false = refl

none_following : (test : ℕ → Bool) (n j : ℕ) → n ≤ j → is_named (picked test n) j ≡ false
none_following test zero j h = refl
none_following test (suc n) j h =
    let e : eqb (suc n) (j + 1) ≡ false = ne_eqb (suc n) (j + 1) (omega arith) in
    let before = none_following test n j (omega arith) in
    named_with (picked test n) (suc n) (j + 1) (test n) ∙ rw (before, e) (and_none (test n))
  where
    and_none : (b : Bool) → (false || (b && false)) ≡ false
    and_none true = refl
    and_none false = refl

-- a row is named just where it passes
pub named_picked : (test : ℕ → Bool) (n j : ℕ) → j < n → is_named (picked test n) j ≡ test j
named_picked test zero j h = absurd (omega arith)
named_picked test (suc n) j h =
    elim (cases_lt j n) [
      | inl a ↦ (let e : eqb (suc n) (j + 1) ≡ false = ne_eqb (suc n) (j + 1) (omega arith) in let before = named_picked test n j a in named_with (picked test n) (suc n) (j + 1) (test n) ∙ rw (before, e) (keeps (test j) (test n)))
      | inr a ↦ (let s : j ≡ n = omega arith in let e : eqb (suc n) (j + 1) ≡ true = eq-eqb (suc n) (j + 1) (omega arith) in let before = none_following test n j a in named_with (picked test n) (suc n) (j + 1) (test n) ∙ rw (before, e, s) (adds (test n)))
    ]
  where
    keeps : (a b : Bool) → (a || (b && false)) ≡ a
    keeps true b = refl
    keeps false true = refl
    keeps false false = refl

    adds : (b : Bool) → (false || (b && true)) ≡ b
    adds true = refl
    adds false = refl

pay_with : (f : ℕ → ℕ) (xs : List ℕ) (x : ℕ) (b : Bool) → sum_by f (xs ++ cond b (x ∷ []) []) ≡ sum_by f xs + cond b (f x) 0
pay_with f xs x true = omega (arith, sum_by-append f xs (x ∷ []), sum_by-cons f x [])
pay_with f xs x false = let s : xs ++ [] ≡ xs = append-nil xs in rw s (omega arith)

pub pay_picked : (rows : List Row) (test : ℕ → Bool) (n : ℕ) → pay_of_rows rows (picked test n) ≡ sum_below n (λ j. cond (test j) (row_at rows j).pay 0)
pay_picked rows test zero = refl
pay_picked rows test (suc n) =
    let here : (row_at rows (suc n - 1)).pay ≡ (row_at rows n).pay = (let s : suc n - 1 ≡ n = omega arith in rw s refl) in
    let last = pay_with (λ row. (row_at rows (row - 1)).pay) (picked test n) (suc n) (test n) in
    let same : ◌≡◌ {A = ℕ} (cond (test n) (row_at rows (suc n - 1)).pay 0) (cond (test n) (row_at rows n).pay 0) = rw here refl in
    omega (arith, pay_picked rows test n, last, same)

swapped : (same_place a b : Bool) → (same_place ≡ true → b ≡ true) → (same_place || ((not same_place && (b && not a)) || (a && not (not same_place && (a && not b))))) ≡ b
swapped true a true h = refl
swapped true a false h = sym (h refl)
swapped false true true h = refl
swapped false true false h = refl
swapped false false true h = refl
swapped false false false h = refl

-- the trade of what is apart is the other choice
pub trade_is_other : (one other : ℕ → Bool) (n i j : ℕ) → other i ≡ true → j < n → traded one i (picked (is_apart one other i) n) (picked (is_apart other one i) n) j ≡ other j
trade_is_other one other n i j h b =
    rw (named_picked (is_apart one other i) n j b, named_picked (is_apart other one i) n j b) (swapped (eqb j i) (one j) (other j) (λ e. let s : j ≡ i = (eqb-true j i e) in rw s h))
