-- A world that goes through acts, or events, one after another.
use Rattle.std.specs.Prelude.{◌≡◌, List, [], ◌∷◌, ◌++◌}
use Rattle.std.proofs.Common.{refl, sym, subst}

-- each act takes the world on by a step
abbrev pub Chain : {W A : Type 0} → (W → A → W → Type 0) → W → List A → W → Type 0
Chain step s [] t = s ≡ t
Chain step s (act ∷ []) t = step s act t
Chain step s (act ∷ after ∷ acts) t = (mid : _) × step s act mid × Chain step mid (after ∷ acts) t

module _ {W A : Type 0} (step : W → A → W → Type 0) where
  -- one act before others
  pub chain_one : (s mid t : W) (act : A) (acts : List A) → step s act mid → Chain step mid acts t → Chain step s (act ∷ acts) t
  chain_one s mid t act [] p e = subst (λ (x : W). step s act x) e p
  chain_one s mid t act (after ∷ acts) p q = (mid, p, q)

  pub chain_more : (s t u : W) (xs ys : List A) → Chain step s xs t → Chain step t ys u → Chain step s (xs ++ ys) u
  chain_more s t u [] ys e q = subst (λ (x : W). Chain step x ys u) (sym e) q
  chain_more s t u (x ∷ []) ys p q = chain_one s t u x ys p q
  chain_more s t u (x ∷ y ∷ xs) ys (mid, p, more) q = chain_one s mid u x ((y ∷ xs) ++ ys) p (chain_more mid t u (y ∷ xs) ys more q)

  -- the first act of some
  pub chain_first : (s t : W) (act : A) (acts : List A) → Chain step s (act ∷ acts) t → (mid : W) × step s act mid × Chain step mid acts t
  chain_first s t act [] p = (t, p, refl)
  chain_first s t act (after ∷ acts) p = p
