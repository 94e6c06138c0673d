-- Which numbers were given.
use Rattle.std.proofs.Common.{◌≡◌, refl, sym, subst, ap, ◌∙◌, inl, inr, ℕ, zero, suc, ◌+◌, ◌-◌, ◌==◌, ◌&&◌, ◌||◌, nat_le, not, ◌≤◌, if◌then◌else◌, Bool, true, false, List, [], ◌∷◌, ◌++◌, filter, get_or, set, arith, add-zero}
use Rattle.std.proofs.lemmas.List.{append_assoc}
use Rattle.std.proofs.lemmas.Bool.Decides.{nat_tests}
use Rattle.std.specs.List.{range_with_len}
use Rattle.bx_office_door.specs.Guests.{numbers_of, is_among, are_given, given_since, IsThinned}
use Rattle.bx_office_door.specs.declared.guest.Guest.{Guest}

-- ---- some of the numbers

pub thinned_all : (ns : List ℕ) → IsThinned ns ns
thinned_all [] = refl
thinned_all (n ∷ more) = inr (more, refl, thinned_all more)

thinned_kept : (b : Bool) (n : ℕ) (g : Guest) (more : List ℕ) (rest : List Guest) → n ≡ g.number → IsThinned more (numbers_of rest) → IsThinned (n ∷ more) (numbers_of (if b then g ∷ rest else rest))
thinned_kept true n g more rest e t = inr (numbers_of rest, ap (λ (m : ℕ). m ∷ numbers_of rest) (sym e), t)
thinned_kept false n g more rest e t = inl t

pub thinned_filter : (p : Guest → Bool) (gs : List Guest) → IsThinned (numbers_of gs) (numbers_of (filter p gs))
thinned_filter p [] = refl
thinned_filter p (g ∷ gs) = thinned_kept (p g) g.number g (numbers_of gs) (filter p gs) refl (thinned_filter p gs)

-- ---- each is given once

both : (a b c : Bool) → (a || b) ≡ false → (b ≡ false → c ≡ false) → (a || c) ≡ false
both true b c e f = e
both false b c e f = f e

right : (a b : Bool) → (a || b) ≡ false → b ≡ false
right true b e = cc
right false b e = e

none_among : (n : ℕ) (xs ys : List ℕ) → IsThinned xs ys → is_among n xs ≡ false → is_among n ys ≡ false
none_among n [] ys e f = ap (is_among n) e
none_among n (x ∷ xs) ys (inl p) f = none_among n xs ys p (right (x == n) (is_among n xs) f)
none_among n (x ∷ xs) ys (inr (rest, e, p)) f = ap (is_among n) e ∙ both (x == n) (is_among n xs) (is_among n rest) f (none_among n xs rest p)

each : (a b c a' b' c' : Bool) → (a && (b && c)) ≡ true → (a ≡ true → a' ≡ true) → (a ≡ true → b ≡ true → b' ≡ true) → (c ≡ true → c' ≡ true) → (a' && (b' && c')) ≡ true
each false b c a' b' c' e f g h = cc
each true false c a' b' c' e f g h = cc
each true true false a' b' c' e f g h = cc
each true true true a' b' c' e f g h = ap (λ (v : Bool). v && (b' && c')) (f refl) ∙ ap (λ (v : Bool). v && c') (g refl refl) ∙ h refl

last : (a b c : Bool) → (a && (b && c)) ≡ true → c ≡ true
last false b c e = cc
last true false c e = cc
last true true c e = e

not_so : (b b' : Bool) → (b ≡ false → b' ≡ false) → not b ≡ true → not b' ≡ true
not_so true b' f e = cc
not_so false b' f e = ap not (f refl)

pub given_thinned : (count : ℕ) (xs ys : List ℕ) → IsThinned xs ys → are_given count xs ≡ true → are_given count ys ≡ true
given_thinned count [] ys e f = ap (are_given count) e
given_thinned count (x ∷ xs) ys (inl p) f = given_thinned count xs ys p (last (nat_le x count) (not (is_among x xs)) (are_given count xs) f)
given_thinned count (x ∷ xs) ys (inr (rest, e, p)) f =
    ap (are_given count) e ∙ each (nat_le x count) (not (is_among x xs)) (are_given count xs) (nat_le x count) (not (is_among x rest)) (are_given count rest) f
    (λ a. a) (λ a b. not_so (is_among x xs) (is_among x rest) (none_among x xs rest p) b) (given_thinned count xs rest p)

-- ---- one more is given

fresh : (n m : ℕ) (xs : List ℕ) → (m == n) ≡ false → is_among n xs ≡ false → is_among n (xs ++ m ∷ []) ≡ false
fresh n m [] other e = ap (λ (b : Bool). b || false) other
fresh n m (x ∷ xs) other e = both (x == n) (is_among n xs) (is_among n (xs ++ m ∷ [])) e (fresh n m xs other)

within_more : (n c : ℕ) → nat_le n c ≡ true → nat_le n (c + 1) ≡ true
within_more n c e = grind (arith, nat_tests)

above : (n c : ℕ) → nat_le n c ≡ true → ((c + 1) == n) ≡ false
above n c e = grind (arith, nat_tests)

first_given : (c : ℕ) → (nat_le (c + 1) (c + 1) && (true && true)) ≡ true
first_given c = grind (arith, nat_tests)

pub given_more : (c : ℕ) (ns : List ℕ) → are_given c ns ≡ true → are_given (c + 1) (ns ++ (c + 1) ∷ []) ≡ true
given_more c [] e = first_given c
given_more c (n ∷ ns) e =
    each (nat_le n c) (not (is_among n ns)) (are_given c ns) (nat_le n (c + 1)) (not (is_among n (ns ++ (c + 1) ∷ []))) (are_given (c + 1) (ns ++ (c + 1) ∷ [])) e
    (within_more n c) (λ a b. not_so (is_among n ns) (is_among n (ns ++ (c + 1) ∷ [])) (fresh n (c + 1) ns (above n c a)) b) (given_more c ns)

-- ---- who comes stands after the others

pub numbers-push : (gs : List Guest) (g : Guest) → numbers_of (gs ++ g ∷ []) ≡ numbers_of gs ++ g.number ∷ []
numbers-push [] g = refl
numbers-push (x ∷ gs) g = ap (λ (ns : List ℕ). x.number ∷ ns) (numbers-push gs g)

range-push : (a n : ℕ) → range_with_len a (n + 1) ≡ range_with_len a n ++ (a + n) ∷ []
range-push a zero = ap (λ (m : ℕ). m ∷ []) (sym (add-zero a))
range-push a (suc n) =
    let e : range_with_len (a + 1) (n + 1) ≡ range_with_len (a + 1) n ++ (a + 1 + n) ∷ [] = range-push (a + 1) n in
    let same : a + 1 + n ≡ a + suc n = omega arith in
    let grown : suc n + 1 ≡ suc (n + 1) = omega arith in
    ap (range_with_len a) grown ∙ ap (λ (ns : List ℕ). a ∷ ns) (e ∙ ap (λ (m : ℕ). range_with_len (a + 1) n ++ m ∷ []) same)

pub given_one_more : (old c : ℕ) → old ≤ c → given_since old (c + 1) ≡ given_since old c ++ (c + 1) ∷ []
given_one_more old c le =
    let longer : (c + 1) - old ≡ (c - old) + 1 = omega arith in
    let there : old + 1 + (c - old) ≡ c + 1 = omega arith in
    ap (range_with_len (old + 1)) longer ∙ range-push (old + 1) (c - old) ∙ ap (λ (m : ℕ). range_with_len (old + 1) (c - old) ++ m ∷ []) there

pub came_more : (first gs gs' : List Guest) (old c n : ℕ) (g : Guest) → old ≤ c → numbers_of gs ≡ numbers_of first ++ given_since old c → gs' ≡ gs ++ g ∷ [] → g.number ≡ n → n ≡ c + 1 → numbers_of gs' ≡ numbers_of first ++ given_since old n
came_more first gs gs' old c n g le so is number next =
    let e : numbers_of gs' ≡ numbers_of gs ++ g.number ∷ [] = ap numbers_of is ∙ numbers-push gs g in
    let m : g.number ≡ c + 1 = number ∙ next in
    e ∙ ap (λ (ns : List ℕ). ns ++ g.number ∷ []) so ∙ ap (λ (x : ℕ). (numbers_of first ++ given_since old c) ++ x ∷ []) m ∙ append_assoc (numbers_of first) (given_since old c) ((c + 1) ∷ [])
    ∙ ap (λ (ns : List ℕ). numbers_of first ++ ns) (sym (given_one_more old c le)) ∙ ap (λ (x : ℕ). numbers_of first ++ given_since old x) (sym next)

-- each goes on where it stands
pub numbers-set : (gs : List Guest) (i : ℕ) (g d : Guest) → g.number ≡ (get_or gs i d).number → numbers_of (set gs i g) ≡ numbers_of gs
numbers-set [] i g d e = refl
numbers-set (x ∷ gs) zero g d e = ap (λ (n : ℕ). n ∷ numbers_of gs) e
numbers-set (x ∷ gs) (suc i) g d e = ap (λ (ns : List ℕ). x.number ∷ ns) (numbers-set gs i g d e)

pub came_given : (gs gs' : List Guest) (c n : ℕ) (g : Guest) → are_given c (numbers_of gs) ≡ true → gs' ≡ gs ++ g ∷ [] → g.number ≡ n → n ≡ c + 1 → are_given n (numbers_of gs') ≡ true
came_given gs gs' c n g e is number next =
    let m : g.number ≡ c + 1 = number ∙ next in
    let all : numbers_of gs' ≡ numbers_of gs ++ (c + 1) ∷ [] = ap numbers_of is ∙ numbers-push gs g ∙ ap (λ (x : ℕ). numbers_of gs ++ x ∷ []) m in
    ap (λ (ns : List ℕ). are_given n ns) all ∙ ap (λ (x : ℕ). are_given x (numbers_of gs ++ (c + 1) ∷ [])) next ∙ given_more c (numbers_of gs) e

pub attended : (ns0 ns1 ns2 ns3 : List ℕ) (c0 c1 c2 c3 : ℕ) → ns1 ≡ ns0 ++ given_since c0 c1 → ns2 ≡ ns1 → IsThinned ns2 ns3 → c2 ≡ c1 → c3 ≡ c2 → IsThinned (ns0 ++ given_since c0 c3) ns3
attended ns0 ns1 ns2 ns3 c0 c1 c2 c3 e f t g h =
    subst (λ (c : ℕ). IsThinned (ns0 ++ given_since c0 c) ns3) (sym (h ∙ g)) (subst (λ (ns : List ℕ). IsThinned ns ns3) (f ∙ e) t)

-- ---- one moves after the others

left : (a b : Bool) → (a || b) ≡ false → a ≡ false
left true b e = e
left false b e = refl

other_way : (m n : ℕ) → (m == n) ≡ false → (n == m) ≡ false
other_way m n e = grind (arith, nat_tests)

middle : (a n : ℕ) (xs ys : List ℕ) → is_among a (xs ++ n ∷ ys) ≡ false → (n == a) ≡ false
middle a n [] ys e = left (n == a) (is_among a ys) e
middle a n (x ∷ xs) ys e = middle a n xs ys (right (x == a) (is_among a (xs ++ n ∷ ys)) e)

thinned_out : (n : ℕ) (xs ys : List ℕ) → IsThinned (xs ++ n ∷ ys) (xs ++ ys)
thinned_out n [] ys = inl (thinned_all ys)
thinned_out n (x ∷ xs) ys = inr (xs ++ ys, refl, thinned_out n xs ys)

record Parts (a b c : Bool) : Type 0 where
  pub first : a ≡ true
  pub second : b ≡ true
  pub third : c ≡ true

parts : (a b c : Bool) → (a && (b && c)) ≡ true → Parts a b c
parts false b c e = cc
parts true false c e = cc
parts true true c e = record { first = refl; second = refl; third = e }

is_false : (b : Bool) → not b ≡ true → b ≡ false
is_false true e = cc
is_false false e = refl

-- the number of one that moves: it was given, and none of the others has it
record IsSingle (c n : ℕ) (xs : List ℕ) : Type 0 where
  pub given : nat_le n c ≡ true
  pub once : is_among n xs ≡ false

single_out : (c n : ℕ) (xs ys : List ℕ) → are_given c (xs ++ n ∷ ys) ≡ true → IsSingle c n (xs ++ ys)
single_out c n [] ys e = let p = parts (nat_le n c) (not (is_among n ys)) (are_given c ys) e in record { given = p.first; once = is_false (is_among n ys) p.second }
single_out c n (x ∷ xs) ys e =
    let p = parts (nat_le x c) (not (is_among x (xs ++ n ∷ ys))) (are_given c (xs ++ n ∷ ys)) e in
    let s = single_out c n xs ys p.third in
    let other : (x == n) ≡ false = other_way n x (middle x n xs ys (is_false (is_among x (xs ++ n ∷ ys)) p.second)) in
    record { given = s.given; once = ap (λ (b : Bool). b || is_among n (xs ++ ys)) other ∙ s.once }

given_back : (c n : ℕ) (xs : List ℕ) → are_given c xs ≡ true → nat_le n c ≡ true → is_among n xs ≡ false → are_given c (xs ++ n ∷ []) ≡ true
given_back c n [] e given once = ap (λ (b : Bool). b && (true && true)) given
given_back c n (x ∷ xs) e given once =
    let other : (n == x) ≡ false = other_way x n (left (x == n) (is_among n xs) once) in
    each (nat_le x c) (not (is_among x xs)) (are_given c xs) (nat_le x c) (not (is_among x (xs ++ n ∷ []))) (are_given c (xs ++ n ∷ [])) e
    (λ a. a) (λ a b. not_so (is_among x xs) (is_among x (xs ++ n ∷ [])) (fresh x n xs other) b) (λ r. given_back c n xs r given (right (x == n) (is_among n xs) once))

pub given_moved : (c n : ℕ) (xs ys : List ℕ) → are_given c (xs ++ n ∷ ys) ≡ true → are_given c (xs ++ ys ++ n ∷ []) ≡ true
given_moved c n xs ys e =
    let s = single_out c n xs ys e in
    given_back c n (xs ++ ys) (given_thinned c (xs ++ n ∷ ys) (xs ++ ys) (thinned_out n xs ys) e) s.given s.once

numbers-append : (xs ys : List Guest) → numbers_of (xs ++ ys) ≡ numbers_of xs ++ numbers_of ys
numbers-append [] ys = refl
numbers-append (x ∷ xs) ys = ap (λ (ns : List ℕ). x.number ∷ ns) (numbers-append xs ys)

-- the same of clients
pub guests_moved : (c : ℕ) (xs ys : List Guest) (g h : Guest) → h.number ≡ g.number → are_given c (numbers_of (xs ++ g ∷ ys)) ≡ true → are_given c (numbers_of (xs ++ ys ++ h ∷ [])) ≡ true
guests_moved c xs ys g h same e =
    let before : numbers_of (xs ++ g ∷ ys) ≡ numbers_of xs ++ g.number ∷ numbers_of ys = numbers-append xs (g ∷ ys) in
    let following : numbers_of (xs ++ ys ++ h ∷ []) ≡ numbers_of xs ++ numbers_of ys ++ g.number ∷ [] = numbers-push (xs ++ ys) h ∙ ap (λ (ns : List ℕ). ns ++ h.number ∷ []) (numbers-append xs ys) ∙ ap (λ (n : ℕ). numbers_of xs ++ numbers_of ys ++ n ∷ []) same in
    ap (are_given c) following ∙ given_moved c g.number (numbers_of xs) (numbers_of ys) (sym (ap (are_given c) before) ∙ e)

-- one is taken out
pub guests_out : (c : ℕ) (xs ys : List Guest) (g : Guest) → are_given c (numbers_of (xs ++ g ∷ ys)) ≡ true → are_given c (numbers_of (xs ++ ys)) ≡ true
guests_out c xs ys g e =
    let before : numbers_of (xs ++ g ∷ ys) ≡ numbers_of xs ++ g.number ∷ numbers_of ys = numbers-append xs (g ∷ ys) in
    ap (are_given c) (numbers-append xs ys) ∙ given_thinned c (numbers_of xs ++ g.number ∷ numbers_of ys) (numbers_of xs ++ numbers_of ys) (thinned_out g.number (numbers_of xs) (numbers_of ys)) (sym (ap (are_given c) before) ∙ e)
