-- Lists of open steps while they grow.
use Rattle.std.proofs.Common.{◌≡◌, ℕ, ◌+◌, ◌-◌, ◌≤◌, List, [], ◌∷◌, ◌++◌, length, subst, arith, inl, inr}
use Rattle.std.specs.List.{Contains}
use Rattle.std.proofs.lemmas.Bool.{cases_lt}
use Rattle.std.proofs.lemmas.List.Elements.{Contains-append_left, Contains-push, Contains-push_cases}
use Rattle.bx_line.specs.Network.{Network, places_of}
use Rattle.bx_line.specs.Flows.{Flow}
use Rattle.bx_dist.specs.declared.part.Part.{Part}
use Rattle.bx_dist.specs.declared.step.Step.{Step}
use Rattle.bx_dist.specs.declared.step.Step.TheVariants.{Idle, Back, Take, Give}
use Rattle.bx_dist.specs.Residual.{IsOpen}
use Rattle.bx_rounds.specs.Rounds.{ListsOpenSteps, AreOpenSteps, AddsOpen}

pub adds_it : (part : Part) (line : Network) (flow : Flow) (step : Step) (old : List Step) → IsOpen part line flow step → AddsOpen part line flow step old (old ++ step ∷ [])
adds_it part line flow step old o =
    record {
      kept = λ s c. Contains-append_left old (step ∷ []) s c;
      added = λ _. Contains-push old step;
      open_alone = λ all s c. elim (Contains-push_cases old step s c) [ inl a ↦ all s a | inr e ↦ subst (IsOpen part line flow) e o ];
    }

pub adds_none : (part : Part) (line : Network) (flow : Flow) (step : Step) (old : List Step) → (IsOpen part line flow step → ⊥) → AddsOpen part line flow step old old
adds_none part line flow step old n = record { kept = λ s c. c; added = λ o. absurd (n o); open_alone = λ all. all }

module _ (part : Part) (line : Network) (flow : Flow) where
  pub listed_none : ListsOpenSteps part line flow 1 0 []
  listed_none =
      record {
        open_alone = λ s c. absurd (omega (arith, c.1));
        idle = λ u h. absurd (omega arith);
        back = λ u h. absurd (omega arith);
        take = λ r h o. absurd (omega (arith, h, o.there.named));
        give = λ r h o. absurd (omega (arith, h, o.there.named));
      }

  pub listed_gap : (v : ℕ) (a b c : List Step) → 1 ≤ v → ListsOpenSteps part line flow v 0 a → AddsOpen part line flow (Idle (v - 1)) a b → AddsOpen part line flow (Back (v - 1)) b c → ListsOpenSteps part line flow (v + 1) 0 c
  listed_gap v a b c some l p q =
      record {
        open_alone = q.open_alone (p.open_alone l.open_alone);
        idle = λ u h o. elim (cases_lt (u + 1) v) [ inl e ↦ q.kept (Idle u) (p.kept (Idle u) (l.idle u e o)) | inr e ↦ (let s : v - 1 ≡ u = omega arith in let at = subst (λ (w : ℕ). IsOpen part line flow (Idle w) → Contains b (Idle w)) s p.added in q.kept (Idle u) (at o)) ];
        back = λ u h o. elim (cases_lt (u + 1) v) [ inl e ↦ q.kept (Back u) (p.kept (Back u) (l.back u e o)) | inr e ↦ (let s : v - 1 ≡ u = omega arith in let at = subst (λ (w : ℕ). IsOpen part line flow (Back w) → Contains c (Back w)) s q.added in at o) ];
        take = λ r h o. absurd (omega (arith, h, o.there.named));
        give = λ r h o. absurd (omega (arith, h, o.there.named));
      }

  pub listed_row : (v n : ℕ) (a b c : List Step) → ListsOpenSteps part line flow v n a → AddsOpen part line flow (Take (n + 1)) a b → AddsOpen part line flow (Give (n + 1)) b c → ListsOpenSteps part line flow v (n + 1) c
  listed_row v n a b c l p q =
      record {
        open_alone = q.open_alone (p.open_alone l.open_alone);
        idle = λ u h o. q.kept (Idle u) (p.kept (Idle u) (l.idle u h o));
        back = λ u h o. q.kept (Back u) (p.kept (Back u) (l.back u h o));
        take = λ r h o. elim (cases_lt n r) [ inr e ↦ q.kept (Take r) (p.kept (Take r) (l.take r e o)) | inl e ↦ (let s : n + 1 ≡ r = omega arith in let at = subst (λ (w : ℕ). IsOpen part line flow (Take w) → Contains b (Take w)) s p.added in q.kept (Take r) (at o)) ];
        give = λ r h o. elim (cases_lt n r) [ inr e ↦ q.kept (Give r) (p.kept (Give r) (l.give r e o)) | inl e ↦ (let s : n + 1 ≡ r = omega arith in let at = subst (λ (w : ℕ). IsOpen part line flow (Give w) → Contains c (Give w)) s q.added in at o) ];
      }

  all_listed : (steps : List Step) → ListsOpenSteps part line flow (places_of line) (length line.arcs) steps → (step : Step) → IsOpen part line flow step → Contains steps step
  all_listed steps l (Idle v) o = l.idle v o o
  all_listed steps l (Back v) o = l.back v o.0 o
  all_listed steps l (Take r) o = l.take r o.there.within o
  all_listed steps l (Give r) o = l.give r o.there.within o

  pub listed_all : (steps : List Step) → ListsOpenSteps part line flow (places_of line) (length line.arcs) steps → AreOpenSteps part line flow steps
  listed_all steps l = record { open_alone = l.open_alone; all = all_listed steps l }

  pub listed_fewer : (v u n : ℕ) (steps : List Step) → u ≤ v → ListsOpenSteps part line flow v n steps → ListsOpenSteps part line flow u n steps
  listed_fewer v u n steps le l =
      record { open_alone = l.open_alone; idle = λ w h o. l.idle w (omega arith) o; back = λ w h o. l.back w (omega arith) o; take = l.take; give = l.give }
