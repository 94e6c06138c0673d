-- What is done by inputs whose names are files, and standard input.
use Rattle.std.proofs.Common.{◌≡◌, ◌≢◌, ◌≤◌, ◌↔◌, ◌⊎◌, inl, inr, ℕ, Bool, true, false, List, Option, Some, Result, Ok, Err, codes, refl, subst, arith, if◌then◌else◌}
use Rattle.std.proofs.lemmas.Bool.{false≢true}
use Rattle.std.specs.Prelude.{IsOk, IsErr, OnOk, IfErr}
use Rattle.bx_check_commands.specs.Inputs.{GivesOnce, GivesStandard}

-- what a command promises at its status

pub done_at : {T E P : Type 0} (r : Result T E) (status : ℕ) → (status ≡ 0) ↔ IsOk r → OnOk r P → status ≡ 0 → P
done_at (Ok value) status is what zero = what
done_at (Err fault) status (there, back) what zero = absurd (false≢true (there zero))

pub refused_at : {T E : Type 0} {Q : E → Type 0} (r : Result T E) (status : ℕ) → (status ≡ 0) ↔ IsOk r → IfErr r Q → status ≢ 0 → (fault : E) × Q fault
refused_at (Ok value) status (there, back) why some = absurd (some (back refl))
refused_at (Err fault) status is why some = (fault, why)

-- one that reads the inputs

module _ {X : Type 0} (remaining : X → Option (List ℕ)) (o : Option X) (x : X) (is : o ≡ Some x) where
  abbrev Gives : Option X → List ℕ → Option (List ℕ) → Type 0
  Gives p name text = name ≡ codes "-" → GivesOnce remaining p text

  standard : (P : (List ℕ → Option (List ℕ) → Type 0) → Type 0) → P (Gives o) → P (GivesStandard (remaining x))
  standard P what = subst (λ (p : Option X). P (Gives p)) is what

  pub done_by : {T E : Type 0} (P : (List ℕ → Option (List ℕ) → Type 0) → Type 0) (r : Result T E) (status : ℕ) → (status ≡ 0) ↔ IsOk r → OnOk r (P (Gives o)) → status ≡ 0 → P (GivesStandard (remaining x))
  done_by P r status both what zero = standard P (done_at r status both what zero)

  pub refused_by : {T E : Type 0} (Q : (List ℕ → Option (List ℕ) → Type 0) → E → Type 0) (r : Result T E) (status : ℕ) → (status ≡ 0) ↔ IsOk r → IfErr r (Q (Gives o)) → status ≢ 0 → (fault : E) × Q (GivesStandard (remaining x)) fault
  refused_by Q r status both why some =
      let (fault, cause) = refused_at r status both why some in
      (fault, standard (λ gives. Q gives fault) cause)

-- ---- its statuses

pub not_zero : (status : ℕ) → status ≡ 1 → status ≢ 0
not_zero status one zero = absurd (omega (arith, one, zero))

-- but for a live day it is 0 or 1
pub few_at : {T E : Type 0} (r : Result T E) (status : ℕ) → (status ≡ 0) ↔ IsOk r → (IsErr r → status ≡ 1) → (status ≤ 1) ⊎ (status ≡ 3)
few_at (Ok value) status (there, back) one = inl (let zero : status ≡ 0 = back refl in omega (arith, zero))
few_at (Err fault) status is one = inl (let some : status ≡ 1 = one refl in omega (arith, some))

pub never_three : {T E : Type 0} (r : Result T E) (status : ℕ) → (status ≡ 0) ↔ IsOk r → (IsErr r → status ≡ 1) → status ≡ 3 → ⊥
never_three (Ok value) status (there, back) one three = (let zero : status ≡ 0 = back refl in absurd (omega (arith, zero, three)))
never_three (Err fault) status is one three = (let some : status ≡ 1 = one refl in absurd (omega (arith, some, three)))

-- of a live day, by whether the fault lasts
module _ {E : Type 0} (lasts : E → Bool) (status : ℕ) where
  abbrev Tells : E → Type 0
  Tells fault = status ≡ (if lasts fault then 3 else 1)

  told : (fault : E) (b : Bool) → lasts fault ≡ b → Tells fault → status ≡ (if b then 3 else 1)
  told fault b is tells = subst (λ (x : Bool). status ≡ (if x then 3 else 1)) is tells

  pub live_few : {T : Type 0} (r : Result T E) → (status ≡ 0) ↔ IsOk r → IfErr r Tells → (status ≤ 1) ⊎ (status ≡ 3)
  live_few (Ok value) (there, back) tells = inl (let zero : status ≡ 0 = back refl in omega (arith, zero))
  live_few (Err fault) is tells = at (lasts fault) refl
    where
      at : (b : Bool) → lasts fault ≡ b → (status ≤ 1) ⊎ (status ≡ 3)
      at true last = inr (told fault true last tells)
      at false last = inl (let one : status ≡ 1 = told fault false last tells in omega (arith, one))

  pub live_refused : {T : Type 0} {Q : E → Type 0} (r : Result T E) → (status ≡ 0) ↔ IsOk r → IfErr r Tells → IfErr r Q → status ≡ 1 → (fault : E) × Q fault × (lasts fault ≡ false)
  live_refused (Ok value) (there, back) tells why one = (let zero : status ≡ 0 = back refl in absurd (omega (arith, zero, one)))
  live_refused (Err fault) is tells why one = (fault, why, at (lasts fault) refl)
    where
      at : (b : Bool) → lasts fault ≡ b → lasts fault ≡ false
      at true last = (let three : status ≡ 3 = told fault true last tells in absurd (omega (arith, three, one)))
      at false last = last

  pub live_for_good : {T : Type 0} {Q : E → Type 0} (r : Result T E) → (status ≡ 0) ↔ IsOk r → IfErr r Tells → IfErr r Q → status ≡ 3 → (fault : E) × Q fault × (lasts fault ≡ true)
  live_for_good (Ok value) (there, back) tells why three = (let zero : status ≡ 0 = back refl in absurd (omega (arith, zero, three)))
  live_for_good (Err fault) is tells why three = (fault, why, at (lasts fault) refl)
    where
      at : (b : Bool) → lasts fault ≡ b → lasts fault ≡ true
      at true last = last
      at false last = (let one : status ≡ 1 = told fault false last tells in absurd (omega (arith, one, three)))

-- of files that meet, by whether they are a live day's
pub live_at_three : (b : Bool) (status : ℕ) → status ≡ (if b then 3 else 1) → status ≡ 3 → b ≡ true
live_at_three true status is three = refl
live_at_three false status is three = (let one : status ≡ 1 = is in absurd (omega (arith, one, three)))
