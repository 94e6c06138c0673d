-- A live day over a data link is never told that no second begins any more.
use Rattle.std.proofs.Common.{◌≡◌, ℕ, List, [], ◌∷◌, refl, false, Result, Ok, Err, OnOk, Bool}
use Rattle.bx_live.specs.declared.world.Begin.TheVariants.{Ended}
use Rattle.bx_live.specs.Acts.{Act, Began, Dropped, Synced, Took, ended}
use Rattle.bx_live.specs.Chains.{Chain, chain_first}
use Rattle.bx_line_world.specs.Wires.{WireAct}
use Rattle.bx_line_world.specs.Days.{GoesByLine}
use Rattle.bx_line_world.specs.declared.line_world.LineWorld.{LineWorld}

module _ {W D : Type 0} (did : W → List WireAct → W → Type 0) (holds may_leave : D → List ℕ → Type 0) (moment : D → ℕ) (left_since : D → ℕ → List ℕ → Type 0) (has_failed : D → Bool) where
  abbrev Goes : LineWorld W D → Act → LineWorld W D → Type 0
  Goes = GoesByLine did holds may_leave moment left_since has_failed

  pub never_ends : (first last : LineWorld W D) (acts : List Act) → Chain Goes first acts last → ended acts ≡ false
  never_ends first last [] chain = refl
  never_ends first last (Began second Ended ∷ acts) chain = let p = chain_first Goes first last (Began second Ended) acts chain in absurd p.1.line.begun
  never_ends first last (Dropped loss ∷ acts) chain = let p = chain_first Goes first last (Dropped loss) acts chain in never_ends p.0 last acts p.2
  never_ends first last (Synced done ∷ acts) chain = let p = chain_first Goes first last (Synced done) acts chain in never_ends p.0 last acts p.2
  never_ends first last (Took message ∷ acts) chain = let p = chain_first Goes first last (Took message) acts chain in never_ends p.0 last acts p.2
  never_ends first last (y ∷ acts) chain = let p = chain_first Goes first last y acts chain in never_ends p.0 last acts p.2

pub on_ok : {E : Type 0} (P Q : Type 0) (r : Result (Unit {0}) E) → P → OnOk r (P → Q) → OnOk r Q
on_ok P Q (Ok done) p f = f p
on_ok P Q (Err fault) p f = tt
