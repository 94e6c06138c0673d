-- Without a journal nothing fails to be logged.
use Rattle.std.proofs.Common.{◌≡◌, ℕ, true, false, List, [], ◌∷◌, Option, Some, None, refl, sym, subst, Bool}
use Rattle.bx_live.specs.Acts.{Act, Logged, Synced}
use Rattle.bx_live.specs.Chains.{Chain, chain_first}
use Rattle.bx_live.specs.Logs.{OnLog}
use Rattle.bx_world.specs.Kept.{keeps_log}

module _ {D : Type 0} (holds may_leave : D → List ℕ → Type 0) (moment : D → ℕ) (left_since : D → ℕ → List ℕ → Type 0) (has_failed : D → Bool) where
  abbrev pub Kept : Option D → Act → Option D → Type 0
  Kept = OnLog holds may_leave moment left_since has_failed

  -- without a journal there is none after an act
  none_by : (act : Act) (o : Option D) → Kept None act o → o ≡ None
  none_by (Logged event done) None p = refl
  none_by (Logged event done) (Some w) p = absurd p
  none_by (Synced done) None p = refl
  none_by (Synced done) (Some w) p = absurd p
  none_by act o p = sym p

  pub none_on : (acts : List Act) (o : Option D) → Chain Kept None acts o → o ≡ None
  none_on [] o e = sym e
  none_on (act ∷ acts) o chain =
      let (mid, step, more) = chain_first Kept None o act acts chain in
      none_on acts o (subst (λ (x : Option D). Chain Kept x acts o) (none_by act mid step) more)

  pub none_keeps : (acts : List Act) (o : Option D) → Chain Kept None acts o → keeps_log acts ≡ true
  none_keeps [] o e = refl
  none_keeps (act ∷ acts) o chain =
      let (mid, step, more) = chain_first Kept None o act acts chain in
      keeps_by act mid step (none_keeps acts o (subst (λ (x : Option D). Chain Kept x acts o) (none_by act mid step) more)) where
        keeps_by : (act : Act) (mid : Option D) → Kept None act mid → keeps_log acts ≡ true → keeps_log (act ∷ acts) ≡ true
        keeps_by (Logged event false) None p kept = cc
        keeps_by (Logged event false) (Some w) p kept = absurd p
        keeps_by (Synced false) None p kept = cc
        keeps_by (Synced false) (Some w) p kept = absurd p
        keeps_by act mid p kept = kept
