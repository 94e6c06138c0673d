-- Octets are read as items exactly where they spell them.
use Rattle.std.proofs.Common.{◌≡◌, ◌<◌, ◌∙◌, ℕ, zero, suc, nat_lt, true, List, [], ◌∷◌, ◌++◌, length, take, drop, take-append-drop, length-append, Option, Some, None, option_map, refl, sym, ap, subst, arith, inl, inr}
use Rattle.std.specs.List.{flat_map, AllByRecursion}
use Rattle.std.proofs.Math.Seq.{take-append_seam, drop-append_seam}
use Rattle.std.proofs.lemmas.List.{length-take-le}
use Rattle.std.proofs.lemmas.List.Elements.{All-from_recursion, recursion_from_All}
use Rattle.std.proofs.lemmas.Bool.{ltb-true, ltb-false, le-ltb, cases_Bool}
use Rattle.bx_q931.specs.Items.{PlainItem, plain_item, IsItem, item_octets, sized_at, item_at, and_items, items_at, all_items}
use Rattle.bx_q931.specs.Grammar.{AreItems}
use Rattle.bx_q931.proofs.ItemLemmas.{chosen, items_next}

-- ---- what is read is spelled so

sized_spelled : (first : ℕ) (os : List ℕ) (p : PlainItem × List ℕ) → nat_lt first 128 ≡ true → sized_at first os ≡ Some p → (first ∷ os ≡ item_octets p.0 ++ p.1) × IsItem p.0
sized_spelled first [] p t e = cc
sized_spelled first (n ∷ rest) p t e = elim (chosen (nat_lt (length rest) n) None (Some (plain_item first (take n rest), drop n rest)) (Some p) e) [
  | inl h ↦ cc (h.1)
  | inr h ↦
      let q : (plain_item first (take n rest), drop n rest) ≡ p = cc (h.1) in
      let len = length-take-le n rest (ltb-false (length rest) n h.0) in
      let below : first < 128 = ltb-true first 128 t in
      subst (λ (r : PlainItem × List ℕ). (first ∷ n ∷ rest ≡ item_octets r.0 ++ r.1) × IsItem r.0) q (
        rw t (rw len (ap (λ l. first ∷ n ∷ l) (sym (take-append-drop n rest)))),
        λ above. absurd (omega (arith, below, above)),
      )
]

item_spelled : (os : List ℕ) (p : PlainItem × List ℕ) → item_at os ≡ Some p → (os ≡ item_octets p.0 ++ p.1) × IsItem p.0
item_spelled [] p e = cc
item_spelled (o ∷ os) p e = elim (chosen (nat_lt o 128) (sized_at o os) (Some (plain_item o [], os)) (Some p) e) [
  | inl h ↦ sized_spelled o os p h.0 h.1
  | inr h ↦
      let q : (plain_item o [], os) ≡ p = cc (h.1) in
      subst (λ (r : PlainItem × List ℕ). (o ∷ os ≡ item_octets r.0 ++ r.1) × IsItem r.0) q (rw (h.0) refl, λ above. refl)
]

cons_some : (i : PlainItem) (o : Option (List PlainItem)) (is : List PlainItem) → option_map (λ js. i ∷ js) o ≡ Some is → (js : List PlainItem) × (o ≡ Some js) × (i ∷ js ≡ is)
cons_some i None is e = cc
cons_some i (Some js) is e = (js, refl, cc)

and_some : (f : List ℕ → Option (List PlainItem)) (r : Option (PlainItem × List ℕ)) (is : List PlainItem) → and_items f r ≡ Some is → (p : PlainItem × List ℕ) × (r ≡ Some p) × (js : List PlainItem) × (f p.1 ≡ Some js) × (p.0 ∷ js ≡ is)
and_some f None is e = cc
and_some f (Some p) is e = let more = cons_some p.0 (f p.1) is e in (p, refl, more.0, more.1, more.2)

abbrev Spells : List ℕ → List PlainItem → Type 0
Spells os is = (os ≡ flat_map item_octets is) × AllByRecursion IsItem is

items_spelled : (n : ℕ) (os : List ℕ) (is : List PlainItem) → items_at n os ≡ Some is → Spells os is
unfolding items_at
items_spelled zero [] is e = let q : [] ≡ is = cc in subst (Spells []) q (refl, tt)
items_spelled (suc n) [] is e = let q : [] ≡ is = cc in subst (Spells []) q (refl, tt)
items_spelled zero (o ∷ os) is e = cc
items_spelled (suc n) (o ∷ os) is e =
    let found = and_some (items_at n) (item_at (o ∷ os)) is e in
    let p = found.0 in
    let js = found.2 in
    let prefix = item_spelled (o ∷ os) p found.1 in
    let more = items_spelled n p.1 js found.3 in
    subst (Spells (o ∷ os)) found.4 (prefix.0 ∙ ap (λ l. item_octets p.0 ++ l) more.0, (prefix.1, more.1))

-- ---- what is spelled so is read

sized_again : (first : ℕ) (contents rest : List ℕ) → sized_at first (length contents ∷ contents ++ rest) ≡ Some (plain_item first contents, rest)
sized_again first contents rest =
    rw (le-ltb (length (contents ++ rest)) (length contents) (omega (arith, length-append contents rest)), take-append_seam contents rest, drop-append_seam contents rest) refl

item_again : (i : PlainItem) (rest : List ℕ) → IsItem i → item_at (item_octets i ++ rest) ≡ Some (i, rest)
item_again i rest h = elim (cases_Bool (nat_lt i.first 128)) [
  | inl t ↦ rw (t, t) (sized_again i.first i.contents rest)
  | inr f ↦ rw (f, f) (ap (λ contents. Some (plain_item i.first contents, rest)) (sym (h (ltb-false i.first 128 f))))
]

items_again : (is : List PlainItem) → AllByRecursion IsItem is → all_items (flat_map item_octets is) ≡ Some is
unfolding items_at
items_again [] h = refl
items_again (i ∷ is) h =
    let rest = flat_map item_octets is in
    items_next (item_octets i ++ rest) (i, rest) (item_again i rest h.0) ∙ ap (option_map (λ js. i ∷ js)) (items_again is h.1)

-- ---- both

pub items_read : (os : List ℕ) (is : List PlainItem) → AreItems os is → all_items os ≡ Some is
items_read os is h = ap all_items h.spelled ∙ items_again is (recursion_from_All IsItem is h.each)

pub items_are : (os : List ℕ) (is : List PlainItem) → all_items os ≡ Some is → AreItems os is
items_are os is e = let s = items_spelled (length os) os is e in record { spelled = s.0; each = All-from_recursion IsItem is s.1 }
