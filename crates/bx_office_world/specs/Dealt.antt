-- Private: what lies between two states of a world with an office: the acts of the world inside; under a key one batch is asked for at most, and none where
-- something was asked for under it before; what was done at the door is just what was asked and told; what is noted is just what was logged.
use Rattle.std.specs.Prelude.{◌≡◌, ℕ, List, [], ◌∷◌, ◌++◌, Option, Some, None, option_map}
use Rattle.std.proofs.Common.{refl, sym, subst, ap, ◌∙◌}
use Rattle.bx_day.specs.declared.outcome.GivenUp.{GivenUp}
use Rattle.bx_live.specs.Acts.{Act}
use Rattle.bx_market.specs.Deals.{Deal, Ran, Asked, Answered, ToldOfChange, Lost, Moved, acts_of, all_ran}
use Rattle.bx_office_door.specs.Lending.{Lending, WasLookedAt}
use Rattle.bx_office_world.specs.Counters.{AtCounter}
use Rattle.bx_office_world.specs.GivingUp.{NotesGivenUp}
use Rattle.bx_office_world.specs.GivingUpInTurn.{noted_in_turn}
use Rattle.bx_office_world.specs.Keying.{AskOnce}
use Rattle.bx_office_world.specs.KnownKeys.{known_keys}
use Rattle.bx_office_world.specs.Offices.{IsLeftAlone, looked_on}
use Rattle.bx_office_world.specs.declared.desk.Opened.{Opened}
use Rattle.bx_office_world.specs.declared.serving.Pending.{Pending}
use Rattle.bx_office_world.specs.declared.world.Office.{Office}

pub acts_ran : (acts : List Act) → acts_of (all_ran acts) ≡ acts
acts_ran [] = refl
acts_ran (act ∷ acts) = ap (λ (xs : List Act). act ∷ xs) (acts_ran acts)

pub acts_more : (xs ys : List Deal) → acts_of (xs ++ ys) ≡ acts_of xs ++ acts_of ys
acts_more [] ys = refl
acts_more (Ran act ∷ xs) ys = ap (λ (zs : List Act). act ∷ zs) (acts_more xs ys)
acts_more (Asked day request ∷ xs) ys = acts_more xs ys
acts_more (Answered answers ∷ xs) ys = acts_more xs ys
acts_more (ToldOfChange answer ∷ xs) ys = acts_more xs ys
acts_more (Lost day ∷ xs) ys = acts_more xs ys
acts_more (Moved day whole ∷ xs) ys = acts_more xs ys

ran_once : (acts : List Act) (old new : List (List ℕ)) → new ≡ old → AskOnce (all_ran acts) old new
ran_once [] old new same = same
ran_once (act ∷ acts) old new same = ran_once acts old new same

ask_more : (xs ys : List Deal) (a b c : List (List ℕ)) → AskOnce xs a b → AskOnce ys b c → AskOnce (xs ++ ys) a c
ask_more [] ys a b c same more = subst (λ (k : List (List ℕ)). AskOnce ys k c) same more
ask_more (Asked day (Some request) ∷ xs) ys a b c (mid, new, put, rest) more = (mid, new, put, ask_more xs ys mid b c rest more)
ask_more (Asked day None ∷ xs) ys a b c rest more = ask_more xs ys a b c rest more
ask_more (Ran act ∷ xs) ys a b c rest more = ask_more xs ys a b c rest more
ask_more (Answered answers ∷ xs) ys a b c rest more = ask_more xs ys a b c rest more
ask_more (ToldOfChange answer ∷ xs) ys a b c rest more = ask_more xs ys a b c rest more
ask_more (Lost day ∷ xs) ys a b c rest more = ask_more xs ys a b c rest more
ask_more (Moved day whole ∷ xs) ys a b c rest more = ask_more xs ys a b c rest more

module _ {S : Type 0} (lent : S → Lending → S → Type 0) (opened : Opened) where
  -- what comes after looks at the door
  looked_first : (deals : List Deal) (a b : S) (p : Option Pending) (c : S) (q : Option Pending) → WasLookedAt lent a b → AtCounter lent opened deals b p c q → AtCounter lent opened deals a p c q
  looked_first [] a b p c q look (looks, waits) = (looked_on lent a b c look looks, waits)
  looked_first (Ran act ∷ deals) a b p c q look at = looked_first deals a b p c q look at
  looked_first (Asked day request ∷ deals) a b p c q look (next, seen, mid, looks, asked, wanted, rest) = (next, seen, mid, looked_on lent a b seen look looks, asked, wanted, rest)
  looked_first (Answered answers ∷ deals) a b p c q look (seen, mid, looks, told, rest) = (seen, mid, looked_on lent a b seen look looks, told, rest)
  looked_first (ToldOfChange answer ∷ deals) a b p c q look (seen, mid, looks, told, rest) = (seen, mid, looked_on lent a b seen look looks, told, rest)
  looked_first (Lost day ∷ deals) a b p c q look at = looked_first deals a b p c q look at
  looked_first (Moved day whole ∷ deals) a b p c q look at = looked_first deals a b p c q look at

  none_at : (acts : List Act) (old : S) (waits : Option Pending) (new : S) → WasLookedAt lent old new → AtCounter lent opened (all_ran acts) old waits new waits
  none_at [] old waits new look = (look, refl)
  none_at (act ∷ acts) old waits new look = none_at acts old waits new look

  more_at : (xs ys : List Deal) (a : S) (p : Option Pending) (b : S) (q : Option Pending) (c : S) (r : Option Pending) → AtCounter lent opened xs a p b q → AtCounter lent opened ys b q c r → AtCounter lent opened (xs ++ ys) a p c r
  more_at [] ys a p b q c r (look, waits) more = looked_first ys a b p c r look (subst (λ (x : Option Pending). AtCounter lent opened ys b x c r) waits more)
  more_at (Ran act ∷ xs) ys a p b q c r at more = more_at xs ys a p b q c r at more
  more_at (Asked day request ∷ xs) ys a p b q c r (next, seen, mid, looks, asked, wanted, rest) more = (next, seen, mid, looks, asked, wanted, more_at xs ys mid (option_map (λ n. n.0) next) b q c r rest more)
  more_at (Answered answers ∷ xs) ys a p b q c r (seen, mid, looks, told, rest) more = (seen, mid, looks, told, more_at xs ys mid None b q c r rest more)
  more_at (ToldOfChange answer ∷ xs) ys a p b q c r (seen, mid, looks, told, rest) more = (seen, mid, looks, told, more_at xs ys mid None b q c r rest more)
  more_at (Lost day ∷ xs) ys a p b q c r at more = more_at xs ys a p b q c r at more
  more_at (Moved day whole ∷ xs) ys a p b q c r at more = more_at xs ys a p b q c r at more

module _ {W S : Type 0} (did : W → List Act → W → Type 0) (lent : S → Lending → S → Type 0) where
  pub record IsDealt (s t : W) (old new : Office S) (deals : List Deal) : Type 0 where
    pub acts : did s (acts_of deals) t
    pub keys : AskOnce deals (known_keys old.ledger) (known_keys new.ledger)
    pub opened : new.desk.opened.now ≡ old.desk.opened.now
    pub told : AtCounter lent old.desk.opened.now deals old.door old.pending new.door new.pending
    pub given_up : NotesGivenUp (acts_of deals) old.desk.given_up.items new.desk.given_up.items

  pub dealt_so : (s t : W) (old new : Office S) (acts : List Act) → did s acts t → IsLeftAlone lent old new → NotesGivenUp acts old.desk.given_up.items new.desk.given_up.items → IsDealt s t old new (all_ran acts)
  dealt_so s t old new acts p alone noted = record {
    acts = subst (λ (xs : List Act). did s xs t) (sym (acts_ran acts)) p;
    keys = ran_once acts (known_keys old.ledger) (known_keys new.ledger) alone.keys;
    opened = alone.opened;
    told = rw alone.waits (none_at lent old.desk.opened.now acts old.door old.pending new.door alone.door);
    given_up = subst (λ (xs : List Act). NotesGivenUp xs old.desk.given_up.items new.desk.given_up.items) (sym (acts_ran acts)) noted;
  }

  pub dealt_on : ((s t u : W) (xs ys : List Act) → did s xs t → did t ys u → did s (xs ++ ys) u) → (s t u : W) (a b c : Office S) (xs ys : List Deal) → IsDealt s t a b xs → IsDealt t u b c ys → IsDealt s u a c (xs ++ ys)
  dealt_on more s t u a b c xs ys p q = record {
    acts = subst (λ (zs : List Act). did s zs u) (sym (acts_more xs ys)) (more s t u (acts_of xs) (acts_of ys) p.acts q.acts);
    keys = ask_more xs ys (known_keys a.ledger) (known_keys b.ledger) (known_keys c.ledger) p.keys q.keys;
    opened = q.opened ∙ p.opened;
    told = more_at lent a.desk.opened.now xs ys a.door a.pending b.door b.pending c.door c.pending p.told (subst (λ (o : Opened). AtCounter lent o ys b.door b.pending c.door c.pending) p.opened q.told);
    given_up = subst (λ (zs : List Act). NotesGivenUp zs a.desk.given_up.items c.desk.given_up.items) (sym (acts_more xs ys)) (noted_in_turn (acts_of xs) (acts_of ys) a.desk.given_up.items b.desk.given_up.items c.desk.given_up.items p.given_up q.given_up);
  }
