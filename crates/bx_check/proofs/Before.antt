-- What prices come to before a moment: by the prefixes of their list, and between the start and the end of a row.
use Rattle.std.proofs.Common.{zero, suc, ◌≡◌, ℕ, ◌+◌, ◌<◌, ◌≤◌, cond, ◌&&◌, leb, ltb, List, [], ◌∷◌, length, map, get_or, take, refl, sym, ◌∙◌, ap, arith, inl, inr}
use Rattle.std.specs.List.{sum_by}
use Rattle.std.proofs.lemmas.Bool.{cases_lt}
use Rattle.std.proofs.lemmas.Bool.Decides.{nat_tests}
use Rattle.std.proofs.lemmas.List.{length-map, get_or-map}
use Rattle.std.proofs.lemmas.List.Sums.{sum_by-cons}
use Rattle.std.proofs.lemmas.List.Kept.{AllPairs-from_increasing}
use Rattle.bx_base.specs.Bookings.{Row, is_running}
use Rattle.bx_base.specs.Bound.{Charge, price_at, no_charge, sum_of_prices, cost_of}
use Rattle.bx_check.specs.Before.{sum_before, AreSums}
use Rattle.bx_check.specs.Check.{IsRising}

sum_by-split : (f g h : Charge → ℕ) (xs : List Charge) → ((p : Charge) → f p + g p ≡ h p) → sum_by f xs + sum_by g xs ≡ sum_by h xs
sum_by-split f g h [] e = refl
sum_by-split f g h (x ∷ xs) e = omega (arith, e x, sum_by-split f g h xs e, sum_by-cons f x xs, sum_by-cons g x xs, sum_by-cons h x xs)

between : (start end m a : ℕ) → start ≤ end → cond (leb start m && ltb m end) a 0 + cond (ltb m start) a 0 ≡ cond (ltb m end) a 0
between start end m a h = grind (arith, nat_tests)

-- what a row costs is what lies between its start and its end
pub cost_between : (prices : List Charge) (row : Row) → row.start ≤ row.end → cost_of prices row + sum_before prices row.start ≡ sum_before prices row.end
cost_between prices row h = sum_by-split (λ p. cond (is_running row p.moment) p.amount 0) (λ p. cond (ltb p.moment row.start) p.amount 0) (λ p. cond (ltb p.moment row.end) p.amount 0) prices (λ p. between row.start row.end p.moment p.amount h)

-- of a list in rising order an earlier price stands at an earlier moment
pub rises : (prices : List Charge) → IsRising prices → (i j : ℕ) → i < j → j < length prices → (price_at prices i).moment < (price_at prices j).moment
rises prices rising i j a b =
    let moment = λ (p : Charge). p.moment in
    let within : j < length (map moment prices) = omega (arith, b, length-map prices moment) in
    let order = AllPairs-from_increasing (map moment prices) rising i j 0 a within in
    omega (arith, order, get_or-map moment prices i no_charge 0 (omega (arith, a, b)), get_or-map moment prices j no_charge 0 b)

kept : (t m a : ℕ) → m < t → ◌≡◌ {A = ℕ} (cond (ltb m t) a 0) a
kept t m a h = grind (arith, nat_tests)

none : (t m a : ℕ) → t ≤ m → ◌≡◌ {A = ℕ} (cond (ltb m t) a 0) 0
none t m a h = grind (arith, nat_tests)

-- where just the first n prices stand before a moment, they come to the sum of the first n
pub before_first : (prices : List Charge) (t n : ℕ) → n ≤ length prices → ((k : ℕ) → k < n → (price_at prices k).moment < t) → ((k : ℕ) → n ≤ k → k < length prices → t ≤ (price_at prices k).moment) → sum_before prices t ≡ sum_of_prices (take n prices)
before_first [] t zero h before following = refl
before_first [] t (suc n) h before following = absurd (omega arith)
before_first (p ∷ ps) t zero h before following =
    let rest = before_first ps t zero (omega arith) (λ k b. absurd (omega (arith, b))) (λ k a b. following (suc k) (omega arith) (omega (arith, b))) in
    omega (arith, rest, none t p.moment p.amount (following zero (omega arith) (omega arith)), sum_by-cons (λ q. cond (ltb q.moment t) q.amount 0) p ps)
before_first (p ∷ ps) t (suc n) h before following =
    let rest = before_first ps t n (omega arith) (λ k b. before (suc k) (omega (arith, b))) (λ k a b. following (suc k) (omega (arith, a)) (omega (arith, b))) in
    omega (arith, rest, kept t p.moment p.amount (before zero (omega arith)), sum_by-cons (λ q. cond (ltb q.moment t) q.amount 0) p ps, sum_by-cons (λ (q : Charge). q.amount) p (take n ps))

-- all prices up to one that stands before a moment do
pub before_middle : (prices : List Charge) → IsRising prices → (m t : ℕ) → m < length prices → (price_at prices m).moment < t → (k : ℕ) → k < m + 1 → (price_at prices k).moment < t
before_middle prices rising m t b h k a =
    elim (cases_lt k m) [
      | inl x ↦ omega (arith, h, rises prices rising k m x b)
      | inr x ↦ (let e : k ≡ m = omega arith in rw e h)
    ]

-- all prices from one on that does not are not before it
pub after_middle : (prices : List Charge) → IsRising prices → (m t : ℕ) → t ≤ (price_at prices m).moment → (k : ℕ) → m ≤ k → k < length prices → t ≤ (price_at prices k).moment
after_middle prices rising m t h k a b =
    elim (cases_lt m k) [
      | inl x ↦ omega (arith, h, rises prices rising m k x b)
      | inr x ↦ (let e : k ≡ m = omega arith in rw e h)
    ]

-- how many prices stand before a moment
pub record IsCountBefore (prices : List Charge) (t n : ℕ) : Type 0 where
  pub limit : n ≤ length prices
  pub before : (k : ℕ) → k < n → (price_at prices k).moment < t
  pub following : (k : ℕ) → n ≤ k → k < length prices → t ≤ (price_at prices k).moment

sum_at : (prices : List Charge) (sums own : List ℕ) (t n : ℕ) → AreSums prices sums → own ≡ sums → IsCountBefore prices t n → get_or own n 0 ≡ sum_before prices t
sum_at prices sums own t n are e c = rw e (are.each n c.limit ∙ sym (before_first prices t n c.limit c.before c.following))

-- what a row costs is what the sums differ by
pub cost_from : (prices : List Charge) (row : Row) (sums first last : List ℕ) (start end s e : ℕ) → AreSums prices sums → first ≡ sums → last ≡ sums → start ≡ row.start → end ≡ row.end → row.start < row.end → IsCountBefore prices start s → IsCountBefore prices end e → cost_of prices row + get_or first s 0 ≡ get_or last e 0
cost_from prices row sums first last start end s e are f l p q h a b =
    let low = sum_at prices sums first start s are f a in
    let high = sum_at prices sums last end e are l b in
    let at_start = ap (λ (t : ℕ). sum_before prices t) p in
    let at_end = ap (λ (t : ℕ). sum_before prices t) q in
    omega (arith, low, high, at_start, at_end, cost_between prices row (omega (arith, h)))
