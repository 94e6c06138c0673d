-- The messages between two ends of which the exchange alone begins calls.
use Rattle.std.proofs.Common.{◌≡◌, ◌≢◌, ℕ, ◌==◌, Bool, true, false, List, [], ◌∷◌, ◌++◌, refl, ap, ◌∙◌, if◌then◌else◌}
use Rattle.std.specs.List.{AllByRecursion}
use Rattle.std.proofs.lemmas.Bool.{eq-eqb, ne_eqb}
use Rattle.bx_q931.specs.Outgoing.{Outgoing}
use Rattle.bx_q931.specs.declared.kind.Kind.TheVariants.{Setup}
use Rattle.bx_calls.specs.Saying.{setup_of}
use Rattle.bx_two_ends.proofs.OneChannel.{messages_on}
use Rattle.bx_two_ends.proofs.Delivery.{Sendable}

-- one of the exchange, where each reference has its channel
pub record IsToFar (chan : ℕ → ℕ) (o : Outgoing) : Type 0 where
  pub sendable : Sendable o
  pub flag : o.flag ≡ false
  pub setup : o.kind ≡ Setup → (number : List ℕ) × (o ≡ setup_of o.reference (chan o.reference) number)

-- one of the far end
pub record IsToNear (o : Outgoing) : Type 0 where
  pub sendable : Sendable o
  pub flag : o.flag ≡ true
  pub kind : o.kind ≢ Setup

-- ---- those of a channel

pub on_joined : (chan : ℕ → ℕ) (k : ℕ) (xs ys : List Outgoing) → messages_on chan k (xs ++ ys) ≡ messages_on chan k xs ++ messages_on chan k ys
on_joined chan k [] ys = refl
on_joined chan k (x ∷ xs) ys = at (chan x.reference == k) (on_joined chan k xs ys)
  where
    at : (b : Bool) → messages_on chan k (xs ++ ys) ≡ messages_on chan k xs ++ messages_on chan k ys → (if b then x ∷ messages_on chan k (xs ++ ys) else messages_on chan k (xs ++ ys)) ≡ (if b then x ∷ messages_on chan k xs else messages_on chan k xs) ++ messages_on chan k ys
    at true h = ap (λ os. x ∷ os) h
    at false h = h

pub on_all : (chan : ℕ → ℕ) (k : ℕ) (xs : List Outgoing) → AllByRecursion (λ (p : Outgoing). chan p.reference ≡ k) xs → messages_on chan k xs ≡ xs
on_all chan k [] h = refl
on_all chan k (x ∷ xs) h = ap (λ b. if b then x ∷ messages_on chan k xs else messages_on chan k xs) (eq-eqb (chan x.reference) k h.0) ∙ ap (λ os. x ∷ os) (on_all chan k xs h.1)

pub on_none : (chan : ℕ → ℕ) (k : ℕ) (xs : List Outgoing) → AllByRecursion (λ (p : Outgoing). chan p.reference ≢ k) xs → messages_on chan k xs ≡ []
on_none chan k [] h = refl
on_none chan k (x ∷ xs) h = ap (λ b. if b then x ∷ messages_on chan k xs else messages_on chan k xs) (ne_eqb (chan x.reference) k h.0) ∙ on_none chan k xs h.1
