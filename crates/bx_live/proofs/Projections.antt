-- What a chain of acts is to a part of its world.
use Rattle.std.proofs.Common.{◌≡◌, List, [], ◌∷◌, refl, sym, ap, subst, Option, Some, None, ℕ, Bool}
use Rattle.bx_live.specs.Acts.{Act, Began, Dropped, Logged, Synced, Wrote, Read, Took, EndedDay}
use Rattle.bx_live.specs.Chains.{Chain, chain_one, chain_first}
use Rattle.bx_live.specs.Logs.{OnLog, OnDisk}

pub chain_map : {W V : Type 0} (step : W → Act → W → Type 0) (part : V → Act → V → Type 0) (f : W → V) → ((s t : W) (act : Act) → step s act t → part (f s) act (f t)) → (s t : W) (acts : List Act) → Chain step s acts t → Chain part (f s) acts (f t)
chain_map step part f so s t [] e = ap f e
chain_map step part f so s t (act ∷ []) p = so s t act p
chain_map step part f so s t (act ∷ after ∷ acts) (mid, p, more) = (f mid, so s mid act p, chain_map step part f so mid t (after ∷ acts) more)

-- ---- a journal that is kept stays kept

module _ {D : Type 0} (holds may_leave : D → List ℕ → Type 0) (moment : D → ℕ) (left_since : D → ℕ → List ℕ → Type 0) (has_failed : D → Bool) where
  abbrev Kept : Option D → Act → Option D → Type 0
  Kept = OnLog holds may_leave moment left_since has_failed

  abbrev Step : D → Act → D → Type 0
  Step = OnDisk holds may_leave moment left_since has_failed

  kept_by : (old : D) (act : Act) (o : Option D) → Kept (Some old) act o → (new : D) × (o ≡ Some new) × Step old act new
  kept_by old (Logged event done) (Some new) p = (new, refl, p)
  kept_by old (Logged event done) None p = absurd p
  kept_by old (Synced done) (Some new) p = (new, refl, p)
  kept_by old (Synced done) None p = absurd p
  kept_by old (Began second begin) o p = (old, sym p, refl)
  kept_by old (Dropped loss) o p = (old, sym p, refl)
  kept_by old (Wrote octets done) o p = (old, sym p, refl)
  kept_by old (Read room answer) o p = (old, sym p, refl)
  kept_by old (Took message) o p = (old, sym p, refl)
  kept_by old EndedDay o p = (old, sym p, refl)

  pub kept_on : (first : D) (o : Option D) (acts : List Act) → Chain Kept (Some first) acts o → (last : D) × (o ≡ Some last) × Chain Step first acts last
  kept_on first o [] e = (first, sym e, refl)
  kept_on first o (act ∷ acts) chain =
      let (mid, step, more) = chain_first Kept (Some first) o act acts chain in
      let k = kept_by first act mid step in
      let rest = kept_on k.0 o acts (subst (λ (x : Option D). Chain Kept x acts o) k.1 more) in
      (rest.0, rest.1, chain_one Step first k.0 rest.0 act acts k.2 rest.2)

  -- the same of a world whose journal this is
  pub kept_in : {W : Type 0} (step : W → Act → W → Type 0) (journal : W → Option D) → ((s t : W) (act : Act) → step s act t → Kept (journal s) act (journal t)) → (s t : W) (acts : List Act) (first : D) → Chain step s acts t → journal s ≡ Some first
      → (last : D) × (journal t ≡ Some last) × Chain Step first acts last
  kept_in step journal so s t acts first chain is = kept_on first (journal t) acts (subst (λ (x : Option D). Chain Kept x acts (journal t)) is (chain_map step Kept journal so s t acts chain))
