-- How many octets are kept, as clients come, go and move.
use Rattle.std.proofs.Common.{◌≡◌, refl, ap, ◌∙◌, ℕ, zero, suc, ◌+◌, ◌-◌, ◌≤◌, ◌<◌, max, if◌then◌else◌, Bool, true, false, List, [], ◌∷◌, ◌++◌, length, take, drop, filter, get_or, set, arith}
use Rattle.bx_office_door.specs.Guests.{kept_of}
use Rattle.bx_office_door.specs.declared.guest.Guest.{Guest}

pub kept-append : (xs ys : List Guest) → kept_of (xs ++ ys) ≡ kept_of xs + kept_of ys
kept-append [] ys = omega arith
kept-append (x ∷ xs) ys = let e = kept-append xs ys in omega (arith, e)

-- one who comes has nothing yet
pub kept_came : (gs gs' : List Guest) (g : Guest) (most : ℕ) → gs' ≡ gs ++ g ∷ [] → g.client.kept ≡ 0 → kept_of gs ≤ most → kept_of gs' ≤ most
kept_came gs gs' g most is none le = let e = ap kept_of is ∙ kept-append gs (g ∷ []) in omega (arith, e, none, le)

kept_or : (b : Bool) (g : Guest) (rest : List Guest) (n : ℕ) → kept_of rest ≤ n → kept_of (if b then g ∷ rest else rest) ≤ g.client.kept + n
kept_or true g rest n le = omega (arith, le)
kept_or false g rest n le = omega (arith, le)

pub kept-filter : (p : Guest → Bool) (gs : List Guest) → kept_of (filter p gs) ≤ kept_of gs
kept-filter p [] = omega arith
kept-filter p (g ∷ gs) = kept_or (p g) g (filter p gs) (kept_of gs) (kept-filter p gs)

-- one goes on where it stands
pub kept-set : (gs : List Guest) (i : ℕ) (g d : Guest) → i < length gs → kept_of (set gs i g) + (get_or gs i d).client.kept ≡ kept_of gs + g.client.kept
kept-set [] i g d lt = absurd (omega (arith, lt))
kept-set (x ∷ gs) zero g d lt = omega arith
kept-set (x ∷ gs) (suc i) g d lt = let e = kept-set gs i g d (omega (arith, lt)) in omega (arith, e)

pub kept-part : (gs : List Guest) (i : ℕ) (d : Guest) → i < length gs → (get_or gs i d).client.kept ≤ kept_of gs
kept-part [] i d lt = absurd (omega (arith, lt))
kept-part (x ∷ gs) zero d lt = omega arith
kept-part (x ∷ gs) (suc i) d lt = let e = kept-part gs i d (omega (arith, lt)) in omega (arith, e)

-- .. with no more than it had, or than was free
pub kept_on : (gs gs' : List Guest) (i : ℕ) (g d : Guest) (most free : ℕ) → i < length gs → gs' ≡ set gs i g → free ≡ most - (kept_of gs - (get_or gs i d).client.kept) → g.client.kept ≤ max (get_or gs i d).client.kept free → kept_of gs ≤ most → kept_of gs' ≤ most
kept_on gs gs' i g d most free lt is e le within =
    let sum = ap kept_of is in
    let moved = kept-set gs i g d lt in
    let part = kept-part gs i d lt in
    omega (arith, sum, moved, part, e, le, within)

none_left : (n : ℕ) → kept_of (drop n []) ≡ 0
none_left zero = refl
none_left (suc n) = refl

none_first : (n : ℕ) → kept_of (take n []) ≡ 0
none_first zero = refl
none_first (suc n) = refl

-- who is left where one is taken out
kept_cut : (gs : List Guest) (i : ℕ) → kept_of (take i gs) + kept_of (drop (i + 1) gs) ≤ kept_of gs
kept_cut [] i = let first = none_first i in let left = none_left (i + 1) in omega (arith, first, left)
kept_cut (x ∷ gs) zero = omega arith
kept_cut (x ∷ gs) (suc i) =
    let more : suc i + 1 ≡ suc (i + 1) = omega arith in
    let left : kept_of (drop (suc i + 1) (x ∷ gs)) ≡ kept_of (drop (i + 1) gs) = ap (λ (n : ℕ). kept_of (drop n (x ∷ gs))) more in
    let e = kept_cut gs i in
    omega (arith, e, left)

-- one moves after the others, and has no more than it had
pub kept_moved : (gs gs' : List Guest) (i : ℕ) (g h : Guest) (most : ℕ) → i < length gs → g ≡ get_or gs i g → gs' ≡ (take i gs ++ drop (i + 1) gs) ++ h ∷ [] → h.client.kept ≡ 0 → kept_of gs ≤ most → kept_of gs' ≤ most
kept_moved gs gs' i g h most lt is out none le =
    let e = ap kept_of out ∙ kept-append (take i gs ++ drop (i + 1) gs) (h ∷ []) in
    let two = kept-append (take i gs) (drop (i + 1) gs) in
    let all = kept_cut gs i in
    omega (arith, e, two, all, none, le)

-- one is taken out
pub kept_out : (gs gs' : List Guest) (i most : ℕ) → gs' ≡ take i gs ++ drop (i + 1) gs → kept_of gs ≤ most → kept_of gs' ≤ most
kept_out gs gs' i most out le =
    let e = ap kept_of out ∙ kept-append (take i gs) (drop (i + 1) gs) in
    let all = kept_cut gs i in
    omega (arith, e, all, le)
