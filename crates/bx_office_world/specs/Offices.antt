-- An office between two of its acts.
use Rattle.std.specs.Prelude.{◌≡◌, List, [], ◌∷◌, ◌++◌, Option, Some, None}
use Rattle.std.proofs.Common.{refl, subst, ◌∙◌}
use Rattle.bx_office_door.specs.Lending.{Lending, AreLooks, WasLookedAt}
use Rattle.bx_office_door.specs.declared.door.Door.{Door}
use Rattle.bx_office_world.specs.KnownKeys.{known_keys}
use Rattle.bx_office_world.specs.declared.world.Office.{Office}

module _ {S : Type 0} (lent : S → Lending → S → Type 0) where
  -- nobody is answered, and nobody else is waited for: the door is only looked at
  pub record IsLeftAlone (old new : Office S) : Type 0 where
    pub door : WasLookedAt lent old.door new.door
    pub opened : new.desk.opened.now ≡ old.desk.opened.now
    pub waits : new.pending ≡ old.pending
    pub keys : known_keys new.ledger ≡ known_keys old.ledger

  looks_on : (xs ys : List (Option Door)) (a b c : S) → AreLooks lent xs a b → AreLooks lent ys b c → AreLooks lent (xs ++ ys) a c
  looks_on [] ys a b c same more = subst (λ (s : S). AreLooks lent ys s c) same more
  looks_on (None ∷ xs) ys a b c (mid, look, rest) more = (mid, look, looks_on xs ys mid b c rest more)
  looks_on (Some door ∷ xs) ys a b c (mid, look, rest) more = (mid, look, looks_on xs ys mid b c rest more)

  pub unlooked : (s : S) → WasLookedAt lent s s
  unlooked s = ([], refl)

  pub looked_on : (a b c : S) → WasLookedAt lent a b → WasLookedAt lent b c → WasLookedAt lent a c
  looked_on a b c (xs, p) (ys, q) = (xs ++ ys, looks_on xs ys a b c p q)

  pub left_alone : (office : Office S) → IsLeftAlone office office
  left_alone office = record { door = unlooked office.door; opened = refl; waits = refl; keys = refl }

  pub left_on : (a b c : Office S) → IsLeftAlone a b → IsLeftAlone b c → IsLeftAlone a c
  left_on a b c p q = record { door = looked_on a.door b.door c.door p.door q.door; opened = q.opened ∙ p.opened; waits = q.waits ∙ p.waits; keys = q.keys ∙ p.keys }
