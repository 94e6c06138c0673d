-- The list of prices of a line's places: one for each gap in which the heights fall.
use Rattle.std.proofs.Common.{zero, suc, ◌≡◌, ℕ, ◌+◌, ◌<◌, ◌≤◌, Bool, true, false, cond, eqb, List, [], ◌∷◌, ◌++◌, length, map, refl, sym, arith}
use Rattle.std.specs.Prelude.{ℤ}
use Rattle.std.specs.List.{All, AllPairs, sum_by}
use Rattle.std.specs.List.Sorted.{IsStrictlyIncreasing}
use Rattle.std.proofs.lemmas.Bool.Decides.{nat_tests}
use Rattle.std.proofs.lemmas.List.{map-append, length-map, length_push, append-nil, get_or-map}
use Rattle.std.proofs.lemmas.List.Sums.{sum_by-append, sum_by-cons}
use Rattle.std.proofs.lemmas.List.Elements.{All-nil, All-push}
use Rattle.std.proofs.lemmas.List.Quantifiers.{all_pairs_push}
use Rattle.std.proofs.lemmas.List.Kept.{AllPairs-from_increasing}
use Rattle.bx_base.specs.Sums.{sum_below}
use Rattle.bx_base.specs.Bound.{Charge, no_charge}
use Rattle.bx_planner.specs.Prices.{fall_at, kept, charge_at, charges}

sum_of_kept : (f : Charge → ℕ) → ((p : Charge) → p.amount ≡ 0 → f p ≡ 0) → (p : Charge) (b : Bool) → eqb p.amount 0 ≡ b → sum_by f (cond b [] (p ∷ [])) ≡ f p
sum_of_kept f h p true e = sym (h p (grind (arith, nat_tests)))
sum_of_kept f h p false e = omega (arith, sum_by-cons f p [])

-- sums over the prices are sums over the gaps
pub sum_of_charges : (f : Charge → ℕ) → ((p : Charge) → p.amount ≡ 0 → f p ≡ 0) → (moments : List ℕ) (heights : List ℤ) (n : ℕ) → sum_by f (charges moments heights n) ≡ sum_below n (λ v. f (charge_at moments heights v))
sum_of_charges f h moments heights zero = refl
sum_of_charges f h moments heights (suc n) =
    let p = charge_at moments heights n in
    omega (arith, sum_of_charges f h moments heights n, sum_by-append f (charges moments heights n) (kept p), sum_of_kept f h p (eqb p.amount 0) refl)

all_with : (P : Charge → Type 0) (xs : List Charge) (p : Charge) (b : Bool) → eqb p.amount 0 ≡ b → All P xs → (0 < p.amount → P p) → All P (xs ++ cond b [] (p ∷ []))
all_with P xs p true e all h = let s : xs ++ [] ≡ xs = append-nil xs in rw s all
all_with P xs p false e all h = All-push P xs p all (h (grind (arith, nat_tests)))

-- what holds of the price of each gap in which heights fall holds of each price
pub all_charges : (P : Charge → Type 0) (moments : List ℕ) (heights : List ℤ) (n : ℕ) → ((v : ℕ) → v < n → 0 < fall_at heights v → P (charge_at moments heights v)) → All P (charges moments heights n)
all_charges P moments heights zero h = All-nil P
all_charges P moments heights (suc n) h =
    let p = charge_at moments heights n in
    all_with P (charges moments heights n) p (eqb p.amount 0) refl (all_charges P moments heights n (λ v b. h v (omega arith))) (h n (omega arith))

few_with : (xs : List Charge) (p : Charge) (n : ℕ) (b : Bool) → length xs ≤ n → length (xs ++ cond b [] (p ∷ [])) ≤ suc n
few_with xs p n true h = let s : xs ++ [] ≡ xs = append-nil xs in rw s (omega arith)
few_with xs p n false h = omega (arith, length_push xs p)

pub few_charges : (moments : List ℕ) (heights : List ℤ) (n : ℕ) → length (charges moments heights n) ≤ n
few_charges moments heights zero = omega arith
few_charges moments heights (suc n) = let p = charge_at moments heights n in few_with (charges moments heights n) p n (eqb p.amount 0) (few_charges moments heights n)

pairs_with : (xs : List Charge) (p : Charge) (b : Bool) → AllPairs (λ x y. x < y) (map (λ (q : Charge). q.moment) xs) → All (λ q. q.moment < p.moment) xs → AllPairs (λ x y. x < y) (map (λ (q : Charge). q.moment) (xs ++ cond b [] (p ∷ [])))
pairs_with xs p true pairs all = let s : xs ++ [] ≡ xs = append-nil xs in rw s pairs
pairs_with xs p false pairs all = rw (map-append (λ (q : Charge). q.moment) xs (p ∷ [])) (all_pairs_push (λ x y. x < y) (map (λ (q : Charge). q.moment) xs) p.moment pairs (λ k d h. let within : k < length xs = omega (arith, h, length-map xs (λ (q : Charge). q.moment)) in rw (get_or-map (λ (q : Charge). q.moment) xs k no_charge d within) (all k no_charge within)))

rising_pairs : (moments : List ℕ) (heights : List ℤ) → IsStrictlyIncreasing moments → (n : ℕ) → n ≤ length moments → AllPairs (λ x y. x < y) (map (λ (q : Charge). q.moment) (charges moments heights n))
rising_pairs moments heights rising zero h = λ i j d l b. absurd (omega arith)
rising_pairs moments heights rising (suc n) h =
    let p = charge_at moments heights n in
    pairs_with (charges moments heights n) p (eqb p.amount 0) (rising_pairs moments heights rising n (omega arith)) (all_charges (λ q. q.moment < p.moment) moments heights n (λ v b s. AllPairs-from_increasing moments rising v n 0 b (omega arith)))

pub charges_rise : (moments : List ℕ) (heights : List ℤ) → IsStrictlyIncreasing moments → (n : ℕ) → n ≤ length moments → IsStrictlyIncreasing (map (λ (q : Charge). q.moment) (charges moments heights n))
charges_rise moments heights rising n h = λ k b. rising_pairs moments heights rising n h k (k + 1) 0 (omega arith) b
