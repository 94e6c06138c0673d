-- One deal at the door of an office.
use Rattle.std.proofs.Common.{◌≡◌, refl, sym, subst, ◌∙◌, ℕ, Bool, List, [], ◌∷◌, Option, Some, None, option_map, Result}
use Rattle.bx_day.specs.Day.{Day}
use Rattle.bx_live.specs.Acts.{Act}
use Rattle.bx_market.specs.Deals.{Asked, Answered, ToldOfChange, Lost, Moved}
use Rattle.bx_market.specs.declared.market.Answer.{Answer}
use Rattle.bx_market.specs.declared.market.Request.{Request}
use Rattle.bx_office_door.specs.Lending.{Lending, WasLookedAt}
use Rattle.bx_sales.specs.declared.changing.NoChange.{NoChange}
use Rattle.bx_office_world.specs.Counters.{IsServedOnce, IsSaleTold, IsChangingTold}
use Rattle.bx_office_world.specs.Dealt.{IsDealt}
use Rattle.bx_office_world.specs.Keying.{AskOnce}
use Rattle.bx_office_world.specs.KeysTaken.{IsKeyTaken}
use Rattle.bx_office_world.specs.KnownKeys.{known_keys}
use Rattle.bx_office_world.specs.NextTaken.{IsNextTaken}
use Rattle.bx_office_world.specs.Offices.{unlooked}
use Rattle.bx_office_world.specs.Seen.{IsSeenAt}
use Rattle.bx_office_world.specs.declared.desk.Opened.{Opened}
use Rattle.bx_office_world.specs.declared.serving.Pending.{Pending}
use Rattle.bx_office_world.specs.declared.world.Office.{Office}

asked_once : (day : Day) (next : Option (Pending × Request)) (request : Option Request) (old new : List (List ℕ)) → request ≡ option_map (λ n. n.1) next → IsKeyTaken old next new → AskOnce (Asked day request ∷ []) old new
asked_once day None request old new is same = subst (λ (r : Option Request). AskOnce (Asked day r ∷ []) old new) (sym is) same
asked_once day (Some next) request old new is (fresh, put) = subst (λ (r : Option Request). AskOnce (Asked day r ∷ []) old new) (sym is) (new, fresh, put, refl)

module _ {S : Type 0} (lent : S → Lending → S → Type 0) where
  -- a look is one
  pub looked : (seen : Option (ℕ × ℕ)) (old new : S) → IsSeenAt lent seen old new → WasLookedAt lent old new
  looked None old new missed = (None ∷ [], (new, missed, refl))
  looked (Some seen) old new look =
      (Some look.before ∷ [], (new, record { before = look.before; after = look.after; mid = look.mid; taken = look.taken; used = (refl, look.used.0); put_back = look.put_back }, refl))

module _ {W S : Type 0} (did : W → List Act → W → Type 0) (lent : S → Lending → S → Type 0) (still : (w : W) → did w [] w) where
  -- who waits is served, after a look at the door
  pub asked : (w v : W) (old mid new : Office S) (day : Day) (request : Option Request) → v ≡ w → WasLookedAt lent old.door mid.door → mid.desk.opened.now ≡ old.desk.opened.now → known_keys mid.ledger ≡ known_keys old.ledger → mid.desk.given_up.items ≡ old.desk.given_up.items
      → IsNextTaken lent day mid new request → IsDealt did lent w v old new (Asked day request ∷ [])
  asked w v old mid new day request same look opened keys given_up taken = record {
    acts = subst (λ (x : W). did w [] x) (sym same) (still w);
    keys = asked_once day taken.next request (known_keys old.ledger) (known_keys new.ledger) taken.wanted (subst (λ (ks : List (List ℕ)). IsKeyTaken ks taken.next (known_keys new.ledger)) keys taken.keys);
    opened = taken.opened ∙ opened;
    told = (taken.next, mid.door, new.door, look, subst (λ (o : Opened). IsServedOnce lent o day taken.next mid.door new.door) opened taken.asked, taken.wanted, (unlooked lent new.door, taken.waits));
    given_up = taken.given_up ∙ given_up;
  }

  pub answered : (w v : W) (old new : Office S) (answers : List Answer) → v ≡ w → new.desk.opened.now ≡ old.desk.opened.now → known_keys new.ledger ≡ known_keys old.ledger → new.desk.given_up.items ≡ old.desk.given_up.items
      → IsSaleTold lent old.desk.opened.now old.pending answers old.door new.door → new.pending ≡ None → IsDealt did lent w v old new (Answered answers ∷ [])
  answered w v old new answers same opened keys given_up told nobody = record {
    acts = subst (λ (x : W). did w [] x) (sym same) (still w);
    keys = keys;
    opened = opened;
    told = (old.door, new.door, unlooked lent old.door, told, (unlooked lent new.door, nobody));
    given_up = given_up;
  }

  pub changed : (w v : W) (old new : Office S) (answer : Result (Unit {0}) NoChange) → v ≡ w → new.desk.opened.now ≡ old.desk.opened.now → known_keys new.ledger ≡ known_keys old.ledger → new.desk.given_up.items ≡ old.desk.given_up.items
      → IsChangingTold lent old.pending answer old.door new.door → new.pending ≡ None → IsDealt did lent w v old new (ToldOfChange answer ∷ [])
  changed w v old new answer same opened keys given_up told nobody = record {
    acts = subst (λ (x : W). did w [] x) (sym same) (still w);
    keys = keys;
    opened = opened;
    told = (old.door, new.door, unlooked lent old.door, told, (unlooked lent new.door, nobody));
    given_up = given_up;
  }

  -- that a channel is lost, or was left, changes nothing at the door
  pub shown_lost : (w : W) (office : Office S) (day : Day) → IsDealt did lent w w office office (Lost day ∷ [])
  shown_lost w office day = record { acts = still w; keys = refl; opened = refl; told = (unlooked lent office.door, refl); given_up = refl }

  pub shown_moved : (w : W) (office : Office S) (day : Day) (whole : Bool) → IsDealt did lent w w office office (Moved day whole ∷ [])
  shown_moved w office day whole = record { acts = still w; keys = refl; opened = refl; told = (unlooked lent office.door, refl); given_up = refl }
