-- No two batches are under one key.
use Rattle.std.proofs.Common.{◌≡◌, ◌-◌, ℕ, List, [], ◌∷◌, ◌++◌, length, Option, Some, None, refl, sym, ap, ◌∙◌, subst, arith}
use Rattle.std.proofs.lemmas.List.{length-append, get_or_append_left, get_or-append_right}
use Rattle.bx_day.specs.Day.{Day}
use Rattle.bx_sales.specs.declared.tag.Tag.{Tag}
use Rattle.bx_market.specs.Deals.{Deal, Ran, Asked, Answered, ToldOfChange, Lost, Moved}
use Rattle.bx_market.specs.declared.market.Request.{Request}
use Rattle.bx_office_world.specs.KnownKeys.{key_at, KnowsKey}
use Rattle.bx_office_world.specs.Keying.{LacksKey, IsKeyPut, IsKeyNew, request_tag, AskOnce}

-- a key more
known_left : (keys more : List (List ℕ)) (key : List ℕ) → KnowsKey keys key → KnowsKey (keys ++ more) key
known_left keys more key (i, inside, is) = (i, omega (arith, inside, length-append keys more), get_or_append_left keys more [] i inside ∙ is)

known_last : (keys : List (List ℕ)) (key : List ℕ) → KnowsKey (keys ++ key ∷ []) key
known_last keys key = (
  length keys,
  omega (arith, length-append keys (key ∷ [])),
  get_or-append_right keys (key ∷ []) (length keys) (length keys) [] refl (omega arith)
      ∙ (let z : length keys - length keys ≡ 0 = omega arith in ap (key_at (key ∷ [])) z),
)

known_put : (old new : List (List ℕ)) (tag : Option Tag) (key : List ℕ) → IsKeyPut old tag new → KnowsKey old key → KnowsKey new key
known_put old new None key same known = subst (λ (ks : List (List ℕ)). KnowsKey ks key) (sym same) known
known_put old new (Some tag) key same known = subst (λ (ks : List (List ℕ)). KnowsKey ks key) (sym same) (known_left old (tag.key ∷ []) key known)

unknown : (keys : List (List ℕ)) (key : List ℕ) → LacksKey keys key → KnowsKey keys key → ⊥
unknown keys key lacks (i, inside, is) = lacks i inside is

-- after a key is known no batch is under it
pub none_under : (between : List Deal) (e : Day) (second : Request) (other : Tag) (after : List Deal) (old new : List (List ℕ)) → AskOnce (between ++ Asked e (Some second) ∷ after) old new → request_tag second ≡ Some other → KnowsKey old other.key → ⊥
none_under [] e second other after old new (mid, fresh, put, rest) is known = unknown old other.key (subst (IsKeyNew old) is fresh) known
none_under (Asked d (Some request) ∷ between) e second other after old new (mid, fresh, put, rest) is known = none_under between e second other after mid new rest is (known_put old mid (request_tag request) other.key put known)
none_under (Asked d None ∷ between) e second other after old new rest is known = none_under between e second other after old new rest is known
none_under (Ran act ∷ between) e second other after old new rest is known = none_under between e second other after old new rest is known
none_under (Answered answers ∷ between) e second other after old new rest is known = none_under between e second other after old new rest is known
none_under (ToldOfChange answer ∷ between) e second other after old new rest is known = none_under between e second other after old new rest is known
none_under (Lost day ∷ between) e second other after old new rest is known = none_under between e second other after old new rest is known
none_under (Moved day whole ∷ between) e second other after old new rest is known = none_under between e second other after old new rest is known

pub not_two : (before between : List Deal) (d e : Day) (first second : Request) (tag other : Tag) (after : List Deal) (old new : List (List ℕ)) → AskOnce (before ++ Asked d (Some first) ∷ (between ++ Asked e (Some second) ∷ after)) old new
    → request_tag first ≡ Some tag → request_tag second ≡ Some other → tag.key ≡ other.key → ⊥
not_two [] between d e first second tag other after old new (mid, fresh, put, rest) one two same =
    let grown : mid ≡ old ++ tag.key ∷ [] = subst (λ (t : Option Tag). IsKeyPut old t mid) one put in
    none_under between e second other after mid new rest two (subst (λ (ks : List (List ℕ)). KnowsKey ks other.key) (sym grown) (subst (KnowsKey (old ++ tag.key ∷ [])) same (known_last old tag.key)))
not_two (Asked c (Some request) ∷ before) between d e first second tag other after old new (mid, fresh, put, rest) one two same = not_two before between d e first second tag other after mid new rest one two same
not_two (Asked c None ∷ before) between d e first second tag other after old new rest one two same = not_two before between d e first second tag other after old new rest one two same
not_two (Ran act ∷ before) between d e first second tag other after old new rest one two same = not_two before between d e first second tag other after old new rest one two same
not_two (Answered answers ∷ before) between d e first second tag other after old new rest one two same = not_two before between d e first second tag other after old new rest one two same
not_two (ToldOfChange answer ∷ before) between d e first second tag other after old new rest one two same = not_two before between d e first second tag other after old new rest one two same
not_two (Lost day ∷ before) between d e first second tag other after old new rest one two same = not_two before between d e first second tag other after old new rest one two same
not_two (Moved day whole ∷ before) between d e first second tag other after old new rest one two same = not_two before between d e first second tag other after old new rest one two same
