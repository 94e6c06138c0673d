-- What the marked rows of a list come to, by whatever each comes to: what it pays, or whether it runs at a moment.
use Rattle.std.proofs.Common.{◌≡◌, ℕ, zero, suc, ◌+◌, ◌≤◌, ◌&&◌, Bool, true, false, true≢false, cond, List, [], ◌∷◌, ◌++◌, map, replicate, length, refl, sym, ap, ◌∙◌, arith}
use Rattle.std.proofs.lemmas.List.{get_or_past}
use Rattle.bx_base.specs.Bookings.{Row, row_at, is_running}
use Rattle.bx_base.specs.Sums.{sum_below}
use Rattle.bx_base.proofs.SumLemmas.{sum_below-same, sum_below-zero}
use Rattle.bx_colour.specs.Colouring.{is_in, running_at}

abbrev pub total : (Row → ℕ) → List Row → List Bool → ℕ
total f [] marks = 0
total f (row ∷ rows) [] = 0
total f (row ∷ rows) (mark ∷ marks) = cond mark (f row) 0 + total f rows marks

-- the same of a set
abbrev pub marked : (Row → ℕ) → List Row → (ℕ → Bool) → ℕ
marked f rows set = sum_below (length rows) (λ i. cond (set i) (f (row_at rows i)) 0)

abbrev pub all_of : List Row → List Bool
all_of rows = map (λ (row : Row). true) rows

abbrev pub pays : Row → ℕ
pays row = row.pay

abbrev pub runs : ℕ → Row → ℕ
runs t row = cond (is_running row t) 1 0

abbrev pub one : Row → ℕ
one row = 1

pub sum_below-first : (n : ℕ) (f : ℕ → ℕ) → sum_below (suc n) f ≡ f 0 + sum_below n (λ i. f (suc i))
sum_below-first zero f = omega arith
sum_below-first (suc n) f = omega (arith, sum_below-first n f)

none_in : (f : Row → ℕ) (rows : List Row) (i : ℕ) → cond (is_in [] i) (f (row_at rows i)) 0 ≡ 0
none_in f rows i = ap (λ (b : Bool). cond b (f (row_at rows i)) 0) (get_or_past [] i false (omega arith))

pub marked-total : (f : Row → ℕ) (rows : List Row) (marks : List Bool) → marked f rows (is_in marks) ≡ total f rows marks
marked-total f [] marks = refl
marked-total f (row ∷ rows) [] = sum_below-zero (length (row ∷ rows)) (λ i. cond (is_in [] i) (f (row_at (row ∷ rows) i)) 0) (λ i lt. none_in f (row ∷ rows) i)
marked-total f (row ∷ rows) (mark ∷ marks) =
    let peeled : marked f (row ∷ rows) (is_in (mark ∷ marks)) ≡ cond mark (f row) 0 + marked f rows (is_in marks) = sum_below-first (length rows) (λ i. cond (is_in (mark ∷ marks) i) (f (row_at (row ∷ rows) i)) 0) in
    peeled ∙ ap (λ (n : ℕ). cond mark (f row) 0 + n) (marked-total f rows marks)

pub total-append : (f : Row → ℕ) (xs ys : List Row) (ms ns : List Bool) → length ms ≡ length xs → total f (xs ++ ys) (ms ++ ns) ≡ total f xs ms + total f ys ns
total-append f [] ys [] ns count = omega arith
total-append f (x ∷ xs) ys (m ∷ ms) ns count = let rest = total-append f xs ys ms ns (omega (arith, count)) in omega (arith, rest)
total-append f xs ys ms ns count = absurd (omega (arith, count))

pub marked-append : (f : Row → ℕ) (xs ys : List Row) (set : ℕ → Bool) → marked f (xs ++ ys) set ≡ marked f xs set + marked f ys (λ k. set (length xs + k))
marked-append f [] ys set =
    let same : marked f ys set ≡ marked f ys (λ k. set (0 + k)) = sum_below-same (length ys) (λ i. cond (set i) (f (row_at ys i)) 0) (λ i. cond (set (0 + i)) (f (row_at ys i)) 0) (λ i lt. let e : i ≡ 0 + i = omega arith in ap (λ (k : ℕ). cond (set k) (f (row_at ys i)) 0) e) in
    omega (arith, same)
marked-append f (x ∷ xs) ys set =
    let peeled : marked f (x ∷ (xs ++ ys)) set ≡ cond (set 0) (f x) 0 + marked f (xs ++ ys) (λ i. set (suc i)) = sum_below-first (length (xs ++ ys)) (λ i. cond (set i) (f (row_at (x ∷ (xs ++ ys)) i)) 0) in
    let first : marked f (x ∷ xs) set ≡ cond (set 0) (f x) 0 + marked f xs (λ i. set (suc i)) = sum_below-first (length xs) (λ i. cond (set i) (f (row_at (x ∷ xs) i)) 0) in
    let rest = marked-append f xs ys (λ i. set (suc i)) in
    let same = sum_below-same (length ys) (λ k. cond (set (suc (length xs + k))) (f (row_at ys k)) 0) (λ k. cond (set (suc (length xs) + k)) (f (row_at ys k)) 0) (λ k lt. let e : suc (length xs + k) ≡ suc (length xs) + k = omega arith in ap (λ (n : ℕ). cond (set n) (f (row_at ys k)) 0) e) in
    omega (arith, peeled, first, rest, same)

both : (a b : Bool) → cond {A = ℕ} (a && b) 1 0 ≡ cond a (cond b 1 0) 0
both true b = refl
both false b = refl

-- what runs at a moment
pub running_marked : (rows : List Row) (set : ℕ → Bool) (t : ℕ) → sum_below (length rows) (λ i. cond (set i && is_running (row_at rows i) t) 1 0) ≡ marked (runs t) rows set
running_marked rows set t = sum_below-same (length rows) (λ i. cond (set i && is_running (row_at rows i) t) 1 0) (λ i. cond (set i) (runs t (row_at rows i)) 0) (λ i lt. both (set i) (is_running (row_at rows i) t))

pub running_total : (rows : List Row) (marks : List Bool) (t : ℕ) → running_at rows marks t ≡ total (runs t) rows marks
running_total rows marks t = running_marked rows (is_in marks) t ∙ marked-total (runs t) rows marks

-- each of them is marked
pub all_marks : (rows : List Row) → replicate (length rows) true ≡ all_of rows
all_marks [] = refl
all_marks (row ∷ rows) = ap (λ (ms : List Bool). true ∷ ms) (all_marks rows)

-- what is marked pays, and so does more
pub pays_more : (a b : Bool) (pay : ℕ) → (a ≡ true → b ≡ true) → cond a pay 0 ≤ cond b pay 0
pays_more true true pay h = omega arith
pays_more true false pay h = absurd (true≢false (sym (h refl)))
pays_more false b pay h = omega arith
