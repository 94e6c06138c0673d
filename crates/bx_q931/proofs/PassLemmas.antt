-- The pass that carries the codeset along gives each element the codeset that one finds by looking back.
use Rattle.std.proofs.Common.{◌≡◌, ◌≢◌, ◌/◌, ◌%◌, ◌<◌, ◌≤◌, ◌∙◌, ℕ, max, Bool, true, false, List, [], ◌∷◌, Option, Some, None, unwrap_or, refl, sym, ap, arith, inl, inr, ◌⊎◌}
use Rattle.std.proofs.lemmas.Bool.Decides.{nat_tests}
use Rattle.std.specs.Option.{IsSome}
use Rattle.bx_q931.specs.Items.{PlainItem, item_at, all_items, items_in}
use Rattle.bx_q931.specs.Elements.{PlainElement, plain_element, is_shift, is_locking, named_codeset, single_before, locked_before, codeset_after, elements_after, elements_of}
use Rattle.bx_q931.specs.Passing.{passed}
use Rattle.bx_q931.proofs.ItemLemmas.{whole_next, whole_none}

-- ---- what an item is

no_shift : (i : PlainItem) → i.first / 16 ≢ 9 → is_shift i ≡ false
no_shift i h = grind (arith, nat_tests)

shift : (i : PlainItem) → i.first / 16 ≡ 9 → is_shift i ≡ true
shift i h = grind (arith, nat_tests)

locking : (i : PlainItem) → i.first % 16 < 8 → is_locking i ≡ true
locking i h = grind (arith, nat_tests)

not_locking : (i : PlainItem) → 8 ≤ i.first % 16 → is_locking i ≡ false
not_locking i h = grind (arith, nat_tests)

-- ---- one item more in the pass

of_element : (locked : ℕ) (single : Option ℕ) (i : PlainItem) (is : List PlainItem) → is_shift i ≡ false → passed locked single (i ∷ is) ≡ plain_element (unwrap_or single locked) i ∷ passed locked None is
unfolding passed
of_element locked single i is h = rw h refl

of_locking : (locked : ℕ) (single : Option ℕ) (i : PlainItem) (is : List PlainItem) → is_shift i ≡ true → is_locking i ≡ true → passed locked single (i ∷ is) ≡ passed (max locked (named_codeset i)) single is
unfolding passed
of_locking locked single i is h k = rw (h, k) refl

of_single : (locked : ℕ) (single : Option ℕ) (i : PlainItem) (is : List PlainItem) → is_shift i ≡ true → is_locking i ≡ false → passed locked single (i ∷ is) ≡ passed locked (Some (named_codeset i)) is
unfolding passed
of_single locked single i is h k = rw (h, k) refl

of_none : (locked : ℕ) (single : Option ℕ) → passed locked single [] ≡ []
unfolding passed
of_none locked single = refl

-- ---- the pass is what one finds by looking back

bools : (b : Bool) → (b ≡ true) ⊎ (b ≡ false)
bools true = inl refl
bools false = inr refl

single_element : (i : PlainItem) (before : List PlainItem) → is_shift i ≡ false → single_before (i ∷ before) ≡ None
unfolding single_before
single_element i before h = rw h refl

single_locking : (i : PlainItem) (before : List PlainItem) → is_shift i ≡ true → is_locking i ≡ true → single_before (i ∷ before) ≡ single_before before
unfolding single_before
single_locking i before h k = rw (h, k) refl

single_single : (i : PlainItem) (before : List PlainItem) → is_shift i ≡ true → is_locking i ≡ false → single_before (i ∷ before) ≡ Some (named_codeset i)
unfolding single_before
single_single i before h k = rw (h, k) refl

locked_element : (i : PlainItem) (before : List PlainItem) → is_shift i ≡ false → locked_before (i ∷ before) ≡ locked_before before
unfolding locked_before
locked_element i before h = rw h refl

locked_locking : (i : PlainItem) (before : List PlainItem) → is_shift i ≡ true → is_locking i ≡ true → locked_before (i ∷ before) ≡ max (locked_before before) (named_codeset i)
unfolding locked_before
locked_locking i before h k = rw (h, k) refl

locked_single : (i : PlainItem) (before : List PlainItem) → is_shift i ≡ true → is_locking i ≡ false → locked_before (i ∷ before) ≡ locked_before before
unfolding locked_before
locked_single i before h k = rw (h, k) refl

after_element : (i : PlainItem) (before is : List PlainItem) → is_shift i ≡ false → elements_after before (i ∷ is) ≡ plain_element (codeset_after before) i ∷ elements_after (i ∷ before) is
unfolding elements_after
after_element i before is h = rw h refl

after_shift : (i : PlainItem) (before is : List PlainItem) → is_shift i ≡ true → elements_after before (i ∷ is) ≡ elements_after (i ∷ before) is
unfolding elements_after
after_shift i before is h = rw h refl

-- The pass starts with the codesets that stand before, and keeps them so at each item: an element drops
-- the shift for one element, a locking shift raises the locked codeset, and another shift names the next.
looking_back : (before is : List PlainItem) (locked : ℕ) (single : Option ℕ) → locked ≡ locked_before before → single ≡ single_before before → passed locked single is ≡ elements_after before is
unfolding passed elements_after
looking_back before [] locked single l s = refl
looking_back before (i ∷ is) locked single l s = elim (bools (is_shift i)) [
  | inr e ↦
      of_element locked single i is e
      ∙ (ap (λ c. plain_element c i ∷ passed locked None is) (rw (l, s) refl)
      ∙ (ap (λ es. plain_element (codeset_after before) i ∷ es) (looking_back (i ∷ before) is locked None (l ∙ sym (locked_element i before e)) (sym (single_element i before e)))
      ∙ sym (after_element i before is e)))
  | inl e ↦ elim (bools (is_locking i)) [
    | inl k ↦
        of_locking locked single i is e k
        ∙ (looking_back (i ∷ before) is (max locked (named_codeset i)) single (ap (λ n. max n (named_codeset i)) l ∙ sym (locked_locking i before e k)) (s ∙ sym (single_locking i before e k))
        ∙ sym (after_shift i before is e))
    | inr k ↦
        of_single locked single i is e k
        ∙ (looking_back (i ∷ before) is locked (Some (named_codeset i)) (l ∙ sym (locked_single i before e k)) (sym (single_single i before e k))
        ∙ sym (after_shift i before is e))
  ]
]

pub passed_is : (is : List PlainItem) → passed 0 None is ≡ elements_of is
unfolding locked_before single_before
passed_is is = looking_back [] is 0 None refl refl

-- ---- one item more in the octets

abbrev pub left : ℕ → Option ℕ → List ℕ → List PlainElement
left locked single os = passed locked single (items_in os)

pub left_element : (locked : ℕ) (single : Option ℕ) (os : List ℕ) (p : PlainItem × List ℕ) → item_at os ≡ Some p → IsSome (all_items os) → p.0.first / 16 ≢ 9 → left locked single os ≡ plain_element (unwrap_or single locked) p.0 ∷ left locked None p.1
left_element locked single os p e w h = ap (passed locked single) (whole_next os p e w).1 ∙ of_element locked single p.0 _ (no_shift p.0 h)

pub left_locking : (locked : ℕ) (single : Option ℕ) (os : List ℕ) (p : PlainItem × List ℕ) → item_at os ≡ Some p → IsSome (all_items os) → p.0.first / 16 ≡ 9 → p.0.first % 16 < 8 → left locked single os ≡ left (max locked (p.0.first % 8)) single p.1
left_locking locked single os p e w h k = ap (passed locked single) (whole_next os p e w).1 ∙ of_locking locked single p.0 _ (shift p.0 h) (locking p.0 k)

pub left_single : (locked : ℕ) (single : Option ℕ) (os : List ℕ) (p : PlainItem × List ℕ) → item_at os ≡ Some p → IsSome (all_items os) → p.0.first / 16 ≡ 9 → 8 ≤ p.0.first % 16 → left locked single os ≡ left locked (Some (p.0.first % 8)) p.1
left_single locked single os p e w h k = ap (passed locked single) (whole_next os p e w).1 ∙ of_single locked single p.0 _ (shift p.0 h) (not_locking p.0 k)

pub left_none : (locked : ℕ) (single : Option ℕ) (os : List ℕ) → item_at os ≡ None → IsSome (all_items os) → left locked single os ≡ []
left_none locked single os e w = ap (passed locked single) (whole_none os e w) ∙ of_none locked single
