-- The note, row by row, and what is written of it.
use Rattle.std.proofs.Common.{◌≡◌, ◌≤◌, ℕ, zero, suc, ◌+◌, ◌||◌, Bool, true, false, List, [], ◌++◌, length, Option, Result, Ok, Err, inl, inr, refl, sym, ap, subst, ◌∙◌, append_assoc, arith, is_ok, if◌then◌else◌}
use Rattle.std.proofs.lemmas.List.{append-nil}
use Rattle.std.proofs.lemmas.Bool.{cases_lt, false≢true}
use Rattle.std.specs.Io.KnownBytes.{Appends}
use Rattle.bx_base.specs.PlanParts.{Parts}
use Rattle.bx_devices.specs.Octets.{AppendsPrefix}
use Rattle.bx_devices.specs.Devices.{writing_of}
use Rattle.bx_devices.specs.declared.watched.Watched.{Watched}
use Rattle.bx_text.proofs.GatheringSteps.{done}
use Rattle.bx_text.specs.Gathering.{HeldBlock, Gathers}
use Rattle.bx_text.specs.Writing.{Writes}
use Rattle.bx_plan_commands.specs.Notes.{is_too_short, is_begun, row_text, note_below, note_end, note_text, IsNoteWritten}

module _ (plan : Parts) (i : ℕ) where
  one : i + 1 ≡ suc i
  one = omega arith

  or_true : (b : Bool) → (b || true) ≡ true
  or_true true = refl
  or_true false = refl

  or_false : (b : Bool) → (b || false) ≡ b
  or_false true = refl
  or_false false = refl

  pub begun_here : is_too_short plan i ≡ true → is_begun plan (i + 1) ≡ true
  begun_here is = ap (is_begun plan) one ∙ ap (λ (b : Bool). is_begun plan i || b) is ∙ or_true (is_begun plan i)

  pub begun_as_before : is_too_short plan i ≡ false → is_begun plan (i + 1) ≡ is_begun plan i
  begun_as_before is = ap (is_begun plan) one ∙ ap (λ (b : Bool). is_begun plan i || b) is ∙ or_false (is_begun plan i)

  pub noted_here : is_too_short plan i ≡ true → note_below plan (i + 1) ≡ note_below plan i ++ row_text (is_begun plan i) (i + 1)
  noted_here is = ap (note_below plan) one ∙ ap (λ (b : Bool). note_below plan i ++ (if b then row_text (is_begun plan i) (i + 1) else [])) is

  pub noted_as_before : is_too_short plan i ≡ false → note_below plan (i + 1) ≡ note_below plan i
  noted_as_before is = ap (note_below plan) one ∙ ap (λ (b : Bool). note_below plan i ++ (if b then row_text (is_begun plan i) (i + 1) else [])) is ∙ append-nil (note_below plan i)

-- the note of fewer rows is a prefix of it
noted_prefix : (plan : Parts) (n m : ℕ) → n ≤ m → (rest : List ℕ) × (note_below plan m ≡ note_below plan n ++ rest)
noted_prefix plan n zero le = let none : n ≡ zero = omega (arith, le) in ([], ap (note_below plan) (sym none) ∙ sym (append-nil (note_below plan n)))
noted_prefix plan n (suc m) le = elim (cases_lt n (suc m)) [
  | inl less ↦
      let before = noted_prefix plan n m (omega (arith, less)) in
      let piece : List ℕ = if is_too_short plan m then row_text (is_begun plan m) (m + 1) else [] in
      (before.0 ++ piece, ap (λ (l : List ℕ). l ++ piece) before.1 ∙ append_assoc (note_below plan n) before.0 piece)
  | inr more ↦ let same : suc m ≡ n = omega (arith, more, le) in ([], ap (note_below plan) same ∙ sym (append-nil (note_below plan n)))
]

pub note_prefix : (plan : Parts) (n : ℕ) → n ≤ length plan.rows → (rest : List ℕ) × (note_text plan ≡ note_below plan n ++ rest)
note_prefix plan n le =
    let leading = noted_prefix plan n (length plan.rows) le in
    let tail : List ℕ = note_end (is_begun plan (length plan.rows)) in
    (leading.0 ++ tail, ap (λ (l : List ℕ). l ++ tail) leading.1 ∙ append_assoc (note_below plan n) leading.0 tail)

module _ {W E : Type 0} (contents : W → Option (List ℕ)) where
  pub put_so : {F : Type 0} (a b : HeldBlock W) (r : Result (Unit {0}) E) (text : List ℕ) → is_ok r ≡ true → Gathers contents a b r text → Gathers contents a b (done {E = F}) text
  put_so a b (Ok x) text is g = record { put = g.put; prefix = tt; faulted = tt; unfaulted = g.unfaulted; reads = g.reads }
  put_so a b (Err e) text is g = absurd (false≢true is)

  pub written_so : (plan : Parts) (a b : Watched W) (r : Result (Unit {0}) E) (text : List ℕ) → text ≡ note_text plan → Writes contents a b r text → IsNoteWritten plan (writing_of contents a b)
  written_so plan a b (Ok x) text same w = inl (subst (Appends _ _) same w.written)
  written_so plan a b (Err e) text same w = inr (w.faulted, subst (AppendsPrefix _ _) same w.prefix)
