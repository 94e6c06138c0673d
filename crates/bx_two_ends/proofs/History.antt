-- Lists of messages: what is in them, and what holds of each; what a step says; tests.
use Rattle.std.proofs.Common.{◌≡◌, ℕ, zero, suc, ◌==◌, ◌&&◌, ◌||◌, not, Bool, true, false, List, [], ◌∷◌, ◌++◌, Option, Some, None, refl, ap, ◌∙◌, sym, ◌⊎◌, inl, inr}
use Rattle.std.specs.List.{AllByRecursion, list_any}
use Rattle.std.proofs.lemmas.List.Folds.{list_any-append}
use Rattle.std.proofs.lemmas.Bool.{false≢true, true≢false, and_parts, and_from, eq-eqb, eqb-true, or_left, or_right, or_from, not-true}
use Rattle.bx_q931.specs.Outgoing.{Outgoing}
use Rattle.bx_q931.specs.declared.kind.Kind.{Kind}
use Rattle.bx_q931.specs.declared.kind.Kind.TheVariants.{Setup}
use Rattle.bx_two_ends.specs.World.{message_nth}
use Rattle.bx_two_ends.proofs.NetworkRows.{shows_connected, clears_as}
use Rattle.bx_day.proofs.Said.{OfSaid}
use Rattle.bx_calls.specs.Sending.{reply_list}

-- a message of the exchange for a call that it began, and one of the far end for such a call
abbrev pub from_beginner : ℕ → Outgoing → Bool
from_beginner r o = (o.reference == r) && not o.flag

abbrev pub from_other : ℕ → Outgoing → Bool
from_other r o = (o.reference == r) && o.flag

abbrev pub is_setup_kind : Kind → Bool
is_setup_kind Setup = true
is_setup_kind _ = false

abbrev pub sets_up : ℕ → Outgoing → Bool
sets_up r o = from_beginner r o && is_setup_kind o.kind

-- that the user has connected
abbrev pub shows : ℕ → Outgoing → Bool
shows r o = from_other r o && shows_connected o.kind o.state

abbrev pub clears : ℕ → Outgoing → Bool
clears r o = from_beginner r o && clears_as o.kind o.state

pub has_more : (p : Outgoing → Bool) (xs ys : List Outgoing) → list_any p xs ≡ true → list_any p (xs ++ ys) ≡ true
has_more p xs ys h = list_any-append p xs ys ∙ or_left (list_any p xs) (list_any p ys) h

pub has_new : (p : Outgoing → Bool) (xs ys : List Outgoing) → list_any p ys ≡ true → list_any p (xs ++ ys) ≡ true
has_new p xs ys h = list_any-append p xs ys ∙ or_right (list_any p xs) (list_any p ys) h

pub has_none : (p : Outgoing → Bool) (xs ys : List Outgoing) → list_any p xs ≡ false → list_any p ys ≡ false → list_any p (xs ++ ys) ≡ false
has_none p xs ys h k = list_any-append p xs ys ∙ or_from (list_any p xs) (list_any p ys) h k

pub none_all : (p : Outgoing → Bool) (xs : List Outgoing) → AllByRecursion (λ o. p o ≡ false) xs → list_any p xs ≡ false
none_all p [] h = refl
none_all p (x ∷ xs) h = or_from (p x) (list_any p xs) h.0 (none_all p xs h.1)

-- one of them, and what holds of it
pub found : (P : Outgoing → Type 0) (p : Outgoing → Bool) (xs : List Outgoing) → AllByRecursion P xs → list_any p xs ≡ true → (o : Outgoing) × (p o ≡ true) × P o
found P p [] h q = absurd (false≢true q)
found P p (x ∷ xs) h q = here (p x) refl q (λ r. found P p xs h.1 r)
  where
    here : (b : Bool) → p x ≡ b → (b || list_any p xs) ≡ true → (list_any p xs ≡ true → (o : Outgoing) × (p o ≡ true) × P o) → (o : Outgoing) × (p o ≡ true) × P o
    here true e q' f = (x, e, h.0)
    here false e q' f = f q'

pub all_joined : (P : Outgoing → Type 0) (xs ys : List Outgoing) → AllByRecursion P xs → AllByRecursion P ys → AllByRecursion P (xs ++ ys)
all_joined P [] ys h k = k
all_joined P (x ∷ xs) ys h k = (h.0, all_joined P xs ys h.1 k)

pub all_map : (P Q : Outgoing → Type 0) → ((o : Outgoing) → P o → Q o) → (xs : List Outgoing) → AllByRecursion P xs → AllByRecursion Q xs
all_map P Q f [] h = tt
all_map P Q f (x ∷ xs) h = (f x h.0, all_map P Q f xs h.1)

-- each is in the list
abbrev pub IsIn : List Outgoing → Outgoing → Type 0
IsIn xs o = (p : Outgoing → Bool) → p o ≡ true → list_any p xs ≡ true

more_in : (x : Outgoing) (xs ys : List Outgoing) → AllByRecursion (IsIn xs) ys → AllByRecursion (IsIn (x ∷ xs)) ys
more_in x xs ys h = all_map (IsIn xs) (IsIn (x ∷ xs)) (λ o k p q. or_right (p x) (list_any p xs) (k p q)) ys h

pub all_in : (xs : List Outgoing) → AllByRecursion (IsIn xs) xs
all_in [] = tt
all_in (x ∷ xs) = ((λ p q. or_left (p x) (list_any p xs) q), more_in x xs xs (all_in xs))

pub all_both : (P Q : Outgoing → Type 0) (xs : List Outgoing) → AllByRecursion P xs → AllByRecursion Q xs → AllByRecursion (λ o. P o × Q o) xs
all_both P Q [] h k = tt
all_both P Q (x ∷ xs) h k = ((h.0, k.0), all_both P Q xs h.1 k.1)

-- the message of an index
abbrev pub IfMessage : (Outgoing → Type 0) → Option Outgoing → Type 0
IfMessage P None = Unit {0}
IfMessage P (Some o) = P o

pub nth_holds : (P : Outgoing → Type 0) (xs : List Outgoing) (n : ℕ) → AllByRecursion P xs → IfMessage P (message_nth xs n)
nth_holds P [] n h = tt
nth_holds P (x ∷ xs) zero h = h.0
nth_holds P (x ∷ xs) (suc n) h = nth_holds P xs n h.1

-- the tests
pub beginner_parts : (r : ℕ) (o : Outgoing) → from_beginner r o ≡ true → (o.reference ≡ r) × (o.flag ≡ false)
beginner_parts r o h = let p = and_parts (o.reference == r) (not o.flag) h in (eqb-true o.reference r p.0, not-true o.flag p.1)

pub other_parts : (r : ℕ) (o : Outgoing) → from_other r o ≡ true → (o.reference ≡ r) × (o.flag ≡ true)
other_parts r o h = let p = and_parts (o.reference == r) o.flag h in (eqb-true o.reference r p.0, p.1)

pub is_from_beginner : (r : ℕ) (o : Outgoing) → o.reference ≡ r → o.flag ≡ false → from_beginner r o ≡ true
is_from_beginner r o a b = and_from (o.reference == r) (not o.flag) (eq-eqb o.reference r a) (ap not b)

pub is_from_other : (r : ℕ) (o : Outgoing) → o.reference ≡ r → o.flag ≡ true → from_other r o ≡ true
is_from_other r o a b = and_from (o.reference == r) o.flag (eq-eqb o.reference r a) b

-- a test that is not met
pub not_both : (a b : Bool) → (a ≡ true → b ≡ true → ⊥) → (a && b) ≡ false
not_both true true h = absurd (h refl refl)
not_both true false h = refl
not_both false b h = refl

-- ---- what a step says, if it says anything

pub said_map : (P Q : Outgoing → Type 0) → ((o : Outgoing) → P o → Q o) → (said : Option Outgoing) → OfSaid P said → OfSaid Q said
said_map P Q f None h = tt
said_map P Q f (Some o) h = f o h

pub said_both : (P Q R : Outgoing → Type 0) → ((o : Outgoing) → P o → Q o → R o) → (said : Option Outgoing) → OfSaid P said → OfSaid Q said → OfSaid R said
said_both P Q R f None p q = tt
said_both P Q R f (Some o) p q = f o p q

pub listed : (P : Outgoing → Type 0) (said : Option Outgoing) → OfSaid P said → AllByRecursion P (reply_list said)
listed P None h = tt
listed P (Some o) h = (h, tt)

-- ---- tests

pub implied_false : (b c : Bool) → (b ≡ true → c ≡ true) → c ≡ false → b ≡ false
implied_false true c f q = absurd (true≢false (sym (f refl) ∙ q))
implied_false false c f q = refl

pub or_three : (x y z : Bool) → (x || (y || z)) ≡ true → z ≡ false → (x ≡ true) ⊎ (y ≡ true)
or_three true y z h q = inl refl
or_three false true z h q = inr refl
or_three false false z h q = absurd (true≢false (sym h ∙ q))

pub or_first : (x y : Bool) → (x || y) ≡ true → y ≡ false → x ≡ true
or_first true y h q = refl
or_first false y h q = absurd (true≢false (sym h ∙ q))
