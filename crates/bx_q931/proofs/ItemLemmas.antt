-- Reading items.
use Rattle.std.proofs.Common.{◌≡◌, ◌≢◌, ◌<◌, ◌≤◌, ◌∙◌, ℕ, zero, suc, nat_lt, Bool, true, false, cond, List, [], ◌∷◌, length, take, drop, length-drop, Option, Some, None, option_map, refl, sym, ap, arith, inl, inr, ◌⊎◌}
use Rattle.std.specs.Option.{is_some, unwrap_or, IsSome}
use Rattle.std.proofs.lemmas.Bool.{false≢true}
use Rattle.bx_q931.specs.Items.{all_items, items_in, PlainItem, plain_item, sized_at, item_at, and_items, items_at}

-- which way a test went
pub chosen : {A : Type 0} (b : Bool) (x y z : A) → cond b x y ≡ z → ((b ≡ true) × (x ≡ z)) ⊎ ((b ≡ false) × (y ≡ z))
chosen true x y z e = inl (refl, e)
chosen false x y z e = inr (refl, e)

-- what is left is shorter
shorter_sized : (first : ℕ) (os : List ℕ) (p : PlainItem × List ℕ) → sized_at first os ≡ Some p → length p.1 < suc (length os)
shorter_sized first [] p e = cc
shorter_sized first (n ∷ rest) p e = elim (chosen (nat_lt (length rest) n) None (Some (plain_item first (take n rest), drop n rest)) (Some p) e) [
  | inl h ↦ cc (h.1)
  | inr h ↦ let after : drop n rest ≡ p.1 = cc (h.1) in omega (arith, length-drop n rest, ap length after)
]

pub shorter : (o : ℕ) (os : List ℕ) (p : PlainItem × List ℕ) → item_at (o ∷ os) ≡ Some p → length p.1 < length (o ∷ os)
shorter o os p e = elim (chosen (nat_lt o 128) (sized_at o os) (Some (plain_item o [], os)) (Some p) e) [
  | inl h ↦ shorter_sized o os p h.1
  | inr h ↦ let after : os ≡ p.1 = cc (h.1) in omega (arith, ap length after)
]

-- ---- as many items as there are octets are enough

and_same : (f g : List ℕ → Option (List PlainItem)) (r : Option (PlainItem × List ℕ)) → ((p : PlainItem × List ℕ) → r ≡ Some p → f p.1 ≡ g p.1) → and_items f r ≡ and_items g r
and_same f g None h = refl
and_same f g (Some p) h = ap (option_map (λ is. p.0 ∷ is)) (h p refl)

pub items_same : (n m : ℕ) (os : List ℕ) → length os ≤ n → length os ≤ m → items_at n os ≡ items_at m os
unfolding items_at
items_same zero zero os h k = refl
items_same zero (suc m) [] h k = refl
items_same zero (suc m) (o ∷ os) h k = absurd (omega arith)
items_same (suc n) zero [] h k = refl
items_same (suc n) zero (o ∷ os) h k = absurd (omega arith)
items_same (suc n) (suc m) [] h k = refl
items_same (suc n) (suc m) (o ∷ os) h k = and_same (items_at n) (items_at m) (item_at (o ∷ os)) (λ p e. let less = shorter o os p e in items_same n m p.1 (omega arith) (omega arith))

-- ---- one item, and then the others

pub items_next : (os : List ℕ) (p : PlainItem × List ℕ) → item_at os ≡ Some p → items_at (length os) os ≡ option_map (λ is. p.0 ∷ is) (items_at (length p.1) p.1)
unfolding items_at
items_next [] p e = cc
items_next (o ∷ os) p e = let less = shorter o os p e in ap (and_items (items_at (length os))) e ∙ ap (option_map (λ is. p.0 ∷ is)) (items_same (length os) (length p.1) p.1 (omega arith) (omega arith))

pub items_torn : (os : List ℕ) → os ≢ [] → item_at os ≡ None → items_at (length os) os ≡ None
unfolding items_at
items_torn [] h e = absurd (h refl)
items_torn (o ∷ os) h e = ap (and_items (items_at (length os))) e

-- ---- the same of octets that are whole items

after_next : (os rest : List ℕ) (i : PlainItem) (more : Option (List PlainItem)) → all_items os ≡ option_map (λ is. i ∷ is) more → IsSome (all_items os) → IsSome more × (items_in os ≡ i ∷ unwrap_or more [])
after_next os rest i None e h = absurd (false≢true (sym (ap is_some e) ∙ h))
after_next os rest i (Some is) e h = (refl, ap (λ o. unwrap_or o []) e)

pub whole_next : (os : List ℕ) (p : PlainItem × List ℕ) → item_at os ≡ Some p → IsSome (all_items os) → IsSome (all_items p.1) × (items_in os ≡ p.0 ∷ items_in p.1)
whole_next os p e h = after_next os p.1 p.0 (all_items p.1) (items_next os p e) h

pub whole_none : (os : List ℕ) → item_at os ≡ None → IsSome (all_items os) → items_in os ≡ []
unfolding items_at
whole_none [] e h = refl
whole_none (o ∷ os) e h = absurd (false≢true (sym (ap is_some (items_torn (o ∷ os) (λ q. cc) e)) ∙ h))

pub is_some-option_map : {A B : Type 0} (f : A → B) (o : Option A) → is_some (option_map f o) ≡ is_some o
is_some-option_map f None = refl
is_some-option_map f (Some x) = refl
