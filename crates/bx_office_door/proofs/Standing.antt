-- Who stands at the door.
use Rattle.std.proofs.Common.{◌≡◌, refl, ap, ◌∙◌, inl, inr, ℕ, ◌+◌, ◌==◌, ◌<◌, if◌then◌else◌, Bool, true, false, List, [], ◌∷◌, ◌++◌, length, take, drop, get_or, Option, Some, None, is_some, sym, arith}
use Rattle.std.proofs.lemmas.Bool.Decides.{nat_tests}
use Rattle.std.proofs.lemmas.List.{take_more, append_assoc, take-append-drop}
use Rattle.bx_office.specs.declared.client.Client.{Client}
use Rattle.bx_office.specs.declared.reply.Reply.{Reply}
use Rattle.bx_office_door.specs.Places.{IsFirstGuest}
use Rattle.bx_office_door.specs.Guests.{client_of, numbers_of, are_given, IsGuestTold, IsAnswered, IsAnsweredThere, IsSentAway}
use Rattle.bx_office_door.specs.declared.guest.Guest.{Guest}
use Rattle.bx_office_door.proofs.GivenNumbers.{guests_moved, guests_out}

passed : (b : Bool) (c : Client) (x y z : Option Client) → (if b then Some c else x) ≡ None → (x ≡ None → y ≡ z) → (if b then Some c else y) ≡ z
passed true c x y z e f = cc
passed false c x y z e f = f e

-- nobody of the number stands before
pub client_of-append : (n : ℕ) (xs ys : List Guest) → client_of n xs ≡ None → client_of n (xs ++ ys) ≡ client_of n ys
client_of-append n [] ys e = refl
client_of-append n (g ∷ xs) ys e = passed (g.number == n) g.client (client_of n xs) (client_of n (xs ++ ys)) (client_of n ys) e (client_of-append n xs ys)

differ : (m n : ℕ) → (m ≡ n → ⊥) → (m == n) ≡ false
differ m n e = grind (arith, nat_tests)

equal : (m n : ℕ) → m ≡ n → (m == n) ≡ true
equal m n e = grind (arith, nat_tests)

-- one more without it
pub none_more : (n : ℕ) (xs : List Guest) (i : ℕ) (g : Guest) → i < length xs → g ≡ get_or xs i g → (g.number ≡ n → ⊥) → client_of n (take i xs) ≡ None → client_of n (take (i + 1) xs) ≡ None
none_more n xs i g lt is other e =
    let one : client_of n (g ∷ []) ≡ None = ap (λ (b : Bool). if b then Some g.client else None) (differ g.number n other) in
    let cut : take (i + 1) xs ≡ take i xs ++ g ∷ [] = take_more xs i g lt ∙ ap (λ (x : Guest). take i xs ++ x ∷ []) (sym is) in
    ap (client_of n) cut ∙ client_of-append n (take i xs) (g ∷ []) e ∙ one

-- the list is cut at an index
cut_at : (xs : List Guest) (i : ℕ) (g : Guest) → i < length xs → g ≡ get_or xs i g → xs ≡ take i xs ++ g ∷ drop (i + 1) xs
cut_at xs i g lt is =
    let prefix : take (i + 1) xs ≡ take i xs ++ g ∷ [] = take_more xs i g lt ∙ ap (λ (x : Guest). take i xs ++ x ∷ []) (sym is) in
    sym (take-append-drop (i + 1) xs) ∙ ap (λ (ys : List Guest). ys ++ drop (i + 1) xs) prefix ∙ append_assoc (take i xs) (g ∷ []) (drop (i + 1) xs)

-- it is found there
pub is_found : (n : ℕ) (gs : List Guest) (i : ℕ) (g : Guest) → IsFirstGuest n gs i → g ≡ get_or gs i g → is_some (client_of n gs) ≡ true
is_found n gs i g f is =
    let named : g.number ≡ n = ap (λ (x : Guest). x.number) is ∙ f.here g in
    ap (λ (xs : List Guest). is_some (client_of n xs)) (cut_at gs i g f.inside is) ∙ ap is_some (client_of-append n (take i gs) (g ∷ drop (i + 1) gs) f.before) ∙ ap (λ (b : Bool). is_some (if b then Some g.client else client_of n (drop (i + 1) gs))) (equal g.number n named)

-- it is taken out, answered, and put after the others
pub answered : (n : ℕ) (reply : Reply) (gs gs' gs'' : List Guest) (i : ℕ) (g h : Guest) → IsFirstGuest n gs i → g ≡ get_or gs i g → gs' ≡ take i gs ++ drop (i + 1) gs → IsGuestTold reply g h → gs'' ≡ gs' ++ h ∷ [] → IsAnswered n reply gs gs''
answered n reply gs gs' gs'' i g h f is out told back = record {
  before = take i gs;
  guest = g;
  following = drop (i + 1) gs;
  told = h;
  stood = cut_at gs i g f.inside is;
  first = f.before;
  named = ap (λ (x : Guest). x.number) is ∙ f.here g;
  is = told;
  stands = back ∙ ap (λ (xs : List Guest). xs ++ h ∷ []) out;
}

-- then each number is still given once
pub still_given : (c : ℕ) (reply : Reply) (gs gs' gs'' : List Guest) (i : ℕ) (g h : Guest) → i < length gs → g ≡ get_or gs i g → gs' ≡ take i gs ++ drop (i + 1) gs → IsGuestTold reply g h → gs'' ≡ gs' ++ h ∷ [] → are_given c (numbers_of gs) ≡ true → are_given c (numbers_of gs'') ≡ true
still_given c reply gs gs' gs'' i g h lt is out told back e =
    let before : are_given c (numbers_of (take i gs ++ g ∷ drop (i + 1) gs)) ≡ true = sym (ap (λ (xs : List Guest). are_given c (numbers_of xs)) (cut_at gs i g lt is)) ∙ e in
    ap (λ (xs : List Guest). are_given c (numbers_of xs)) (back ∙ ap (λ (xs : List Guest). xs ++ h ∷ []) out) ∙ guests_moved c (take i gs) (drop (i + 1) gs) g h told.number before

-- who has hung up is taken out
pub sent_away : (n : ℕ) (gs gs' : List Guest) (i : ℕ) (g : Guest) → IsFirstGuest n gs i → g ≡ get_or gs i g → gs' ≡ take i gs ++ drop (i + 1) gs → IsSentAway n gs gs'
sent_away n gs gs' i g f is out = record {
  before = take i gs;
  guest = g;
  following = drop (i + 1) gs;
  stood = cut_at gs i g f.inside is;
  first = f.before;
  named = ap (λ (x : Guest). x.number) is ∙ f.here g;
  stand = out;
}

pub given_out : (c : ℕ) (gs gs' : List Guest) (i : ℕ) (g : Guest) → i < length gs → g ≡ get_or gs i g → gs' ≡ take i gs ++ drop (i + 1) gs → are_given c (numbers_of gs) ≡ true → are_given c (numbers_of gs') ≡ true
given_out c gs gs' i g lt is out e =
    ap (λ (xs : List Guest). are_given c (numbers_of xs)) out ∙ guests_out c (take i gs) (drop (i + 1) gs) g (sym (ap (λ (xs : List Guest). are_given c (numbers_of xs)) (cut_at gs i g lt is)) ∙ e)

-- whoever is there is answered
pub is_there : (n : ℕ) (reply : Reply) (old new : List Guest) (c : Client) → client_of n old ≡ Some c → IsAnsweredThere n reply old new → IsAnswered n reply old new
is_there n reply old new c e (inl p) = let none = p.0 in cc
is_there n reply old new c e (inr a) = a
