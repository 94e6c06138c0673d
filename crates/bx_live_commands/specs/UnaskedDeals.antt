-- Private: the deals of a world without customers, one after another.
use Rattle.std.specs.Prelude.{◌≡◌, List, [], ◌∷◌, ◌++◌, Option, None}
use Rattle.std.proofs.Common.{sym, subst}
use Rattle.bx_day.specs.declared.outcome.GivenUp.{GivenUp}
use Rattle.bx_live.specs.Acts.{Act}
use Rattle.bx_live_commands.specs.Unasked.{AskNothing, IsUnattended}
use Rattle.bx_market.specs.Deals.{Deal, Ran, Asked, Answered, ToldOfChange, Lost, Moved, acts_of, all_ran}
use Rattle.bx_office_world.specs.Dealt.{acts_ran, acts_more}
use Rattle.bx_office_world.specs.GivingUp.{NotesGivenUp}
use Rattle.bx_office_world.specs.GivingUpInTurn.{noted_in_turn}

none_asked : (acts : List Act) → AskNothing (all_ran acts)
none_asked [] = tt
none_asked (act ∷ acts) = none_asked acts

none_asked_more : (xs ys : List Deal) → AskNothing xs → AskNothing ys → AskNothing (xs ++ ys)
none_asked_more [] ys none more = more
none_asked_more (Ran act ∷ xs) ys none more = none_asked_more xs ys none more
none_asked_more (Asked shown request ∷ xs) ys (wanted, none) more = (wanted, none_asked_more xs ys none more)
none_asked_more (Answered answers ∷ xs) ys none more = none_asked_more xs ys none more
none_asked_more (ToldOfChange answer ∷ xs) ys none more = none_asked_more xs ys none more
none_asked_more (Lost shown ∷ xs) ys none more = none_asked_more xs ys none more
none_asked_more (Moved now whole ∷ xs) ys none more = none_asked_more xs ys none more

module _ {W : Type 0} (did : W → List Act → W → Type 0) where
  pub unattended_so : (s t : W) (a b : List (Option GivenUp)) (acts : List Act) → did s acts t → NotesGivenUp acts a b → IsUnattended did s t a b (all_ran acts)
  unattended_so s t a b acts p noted = record {
    acts = subst (λ (xs : List Act). did s xs t) (sym (acts_ran acts)) p;
    unasked = none_asked acts;
    noted = subst (λ (xs : List Act). NotesGivenUp xs a b) (sym (acts_ran acts)) noted;
  }

  pub unattended_on : ((s t u : W) (xs ys : List Act) → did s xs t → did t ys u → did s (xs ++ ys) u) → (s t u : W) (a b c : List (Option GivenUp)) (xs ys : List Deal) → IsUnattended did s t a b xs → IsUnattended did t u b c ys → IsUnattended did s u a c (xs ++ ys)
  unattended_on more s t u a b c xs ys p q = record {
    acts = subst (λ (zs : List Act). did s zs u) (sym (acts_more xs ys)) (more s t u (acts_of xs) (acts_of ys) p.acts q.acts);
    unasked = none_asked_more xs ys p.unasked q.unasked;
    noted = subst (λ (zs : List Act). NotesGivenUp zs a c) (sym (acts_more xs ys)) (noted_in_turn (acts_of xs) (acts_of ys) a b c p.noted q.noted);
  }
