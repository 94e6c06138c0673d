-- A second without a link, slot by slot.
use Rattle.std.proofs.Common.{◌≡◌, ℕ, zero, suc, ◌+◌, ◌≤◌, ◌<◌, List, [], ◌∷◌, length, map, Option, Some, None, arith, refl, sym, ap, ◌∙◌, slice_set, nat_le, Bool, false, if◌then◌else◌}
use Rattle.bx_calls.specs.PlainCalls.{PlainUserCall}
use Rattle.bx_calls.specs.UserTable.{user_unlinked}
use Rattle.bx_far.specs.BegunTicks.{later_slot}
use Rattle.bx_far.specs.FarDay.{FarDay, far_unlinked, far_without_link}
use Rattle.bx_far.specs.Inside.{call_slot_at}
use Rattle.bx_far.specs.Seats.{live_calls, AreSeated}

-- ---- the slots of which the first n had it

abbrev pub later_first : ℕ → ℕ → List (Option PlainUserCall) → List (Option PlainUserCall)
later_first t zero slots = slots
later_first t (suc n) [] = []
later_first t (suc n) (o ∷ os) = later_slot t o ∷ later_first t n os

pub later_at : (t n : ℕ) (slots : List (Option PlainUserCall)) → call_slot_at (later_first t n slots) n ≡ call_slot_at slots n
later_at t zero slots = refl
later_at t (suc n) [] = refl
later_at t (suc n) (o ∷ os) = later_at t n os

pub later_length : (t n : ℕ) (slots : List (Option PlainUserCall)) → length (later_first t n slots) ≡ length slots
later_length t zero slots = refl
later_length t (suc n) [] = refl
later_length t (suc n) (o ∷ os) = ap suc (later_length t n os)

later_next : (t n : ℕ) (call : PlainUserCall) (slots : List (Option PlainUserCall)) → n < length slots → call_slot_at slots n ≡ Some call → slice_set (later_first t n slots) n (Some (user_unlinked t call)) ≡ later_first t (suc n) slots
later_next t zero call [] lt e = absurd (omega (arith, lt))
later_next t zero call (x ∷ xs) lt e = ap (λ y. y ∷ xs) (sym (ap (later_slot t) e))
later_next t (suc n) call [] lt e = absurd (omega (arith, lt))
later_next t (suc n) call (x ∷ xs) lt e = ap (λ ys. later_slot t x ∷ ys) (later_next t n call xs (omega (arith, lt)) e)

later_past : (t n : ℕ) (slots : List (Option PlainUserCall)) → call_slot_at slots n ≡ None → later_first t n slots ≡ later_first t (suc n) slots
later_past t zero [] e = refl
later_past t zero (x ∷ xs) e = ap (λ y. y ∷ xs) (e ∙ sym (ap (later_slot t) e))
later_past t (suc n) [] e = refl
later_past t (suc n) (x ∷ xs) e = ap (λ ys. later_slot t x ∷ ys) (later_past t n xs e)

module _ (t i : ℕ) where
  one : suc i ≡ i + 1
  one = omega arith

  pub later_set : (call : PlainUserCall) (slots : List (Option PlainUserCall)) → i < length slots → call_slot_at slots i ≡ Some call → slice_set (later_first t i slots) i (Some (user_unlinked t call)) ≡ later_first t (i + 1) slots
  later_set call slots lt e = later_next t i call slots lt e ∙ ap (λ (n : ℕ). later_first t n slots) one

  pub later_none : (slots : List (Option PlainUserCall)) → call_slot_at slots i ≡ None → later_first t i slots ≡ later_first t (i + 1) slots
  later_none slots e = later_past t i slots e ∙ ap (λ (n : ℕ). later_first t n slots) one

pub later_all : (t n : ℕ) (slots : List (Option PlainUserCall)) → length slots ≤ n → later_first t n slots ≡ map (later_slot t) slots
later_all t zero [] le = refl
later_all t zero (x ∷ xs) le = absurd (omega (arith, le))
later_all t (suc n) [] le = refl
later_all t (suc n) (x ∷ xs) le = ap (λ ys. later_slot t x ∷ ys) (later_all t n xs (omega (arith, le)))

-- ---- all slots

pub later_calls : (t : ℕ) (slots : List (Option PlainUserCall)) → live_calls (map (later_slot t) slots) ≡ map (user_unlinked t) (live_calls slots)
later_calls t [] = refl
later_calls t (None ∷ xs) = later_calls t xs
later_calls t (Some call ∷ xs) = ap (λ ys. user_unlinked t call ∷ ys) (later_calls t xs)

pub later_seated : (t k : ℕ) (slots : List (Option PlainUserCall)) → AreSeated k slots → AreSeated k (map (later_slot t) slots)
later_seated t k [] h = tt
later_seated t k (None ∷ xs) h = (tt, later_seated t (suc k) xs h.1)
later_seated t k (Some call ∷ xs) h = (h.0, later_seated t (suc k) xs h.1)

pub later_size : (t : ℕ) (slots : List (Option PlainUserCall)) → length (map (later_slot t) slots) ≡ length slots
later_size t [] = refl
later_size t (x ∷ xs) = ap suc (later_size t xs)

pub unlinked_is : (d : FarDay) → nat_le 300000 d.moment ≡ false → far_without_link d ≡ far_unlinked d
unlinked_is d e = ap (λ (b : Bool). if b then d else far_unlinked d) e
