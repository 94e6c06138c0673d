-- A picture, piece after piece.
use Rattle.std.proofs.Common.{◌≡◌, ℕ, List, ◌++◌, Result, Ok, Err, OnOk, ◌∙◌, ap, append_assoc, []}
use Rattle.bx_chart.specs.Frames.{row_words, service_words}

pub begun : (head words front first a front_text b : List ℕ) → first ≡ head → a ≡ first ++ words → b ≡ a ++ front_text → front_text ≡ front → b ≡ (head ++ words) ++ front
begun head words front first a front_text b p0 p1 p2 p3 = cc

pub finished : (old bars mid between hours tail a b d e f : List ℕ) → a ≡ old ++ bars → b ≡ a ++ mid → d ≡ b ++ between → e ≡ d ++ hours → f ≡ e ++ tail → f ≡ ((((old ++ bars) ++ mid) ++ between) ++ hours) ++ tail
finished old bars mid between hours tail a b d e f p0 p1 p2 p3 p4 = cc

pub whole : (opened bars mid between hours tail first bars_text drawn all text : List ℕ) → first ≡ opened → bars_text ≡ drawn → drawn ≡ bars → all ≡ hours → text ≡ ((((first ++ bars_text) ++ mid) ++ between) ++ all) ++ tail
    → text ≡ ((((opened ++ bars) ++ mid) ++ between) ++ hours) ++ tail
whole opened bars mid between hours tail first bars_text drawn all text p0 p1 p2 p3 p4 = cc

-- what holds where a call is done
pub on_ok : {T E A B : Type 0} (r : Result T E) → (A → B) → OnOk r A → OnOk r B
on_ok (Ok x) f a = f a
on_ok (Err e) f a = tt

-- one piece after another
pub two : (old a b first second : List ℕ) → first ≡ old ++ a → second ≡ first ++ b → second ≡ old ++ (a ++ b)
two old a b first second p q = q ∙ ap (λ (t : List ℕ). t ++ b) p ∙ append_assoc old a b

-- words and a number are one piece
pub worded : (old words number first : List ℕ) → first ≡ old ++ words ++ number → first ≡ old ++ (words ++ number)
worded old words number first p = p ∙ append_assoc old words number

-- four pieces of an empty one
pub headed : (t0 t1 t2 t3 t4 o p o' p' style counts : List ℕ) → t0 ≡ [] → t1 ≡ t0 ++ o' → o' ≡ o → t2 ≡ t1 ++ style → t3 ≡ t2 ++ p' → p' ≡ p → t4 ≡ t3 ++ counts → t4 ≡ ((o ++ style) ++ p) ++ counts
headed t0 t1 t2 t3 t4 o p o' p' style counts e0 e1 e2 e3 e4 e5 e6 = cc

-- three pieces, by what they count
pub counted : (total : List ℕ) (a a' r r' m m' s s' : ℕ) → a ≡ a' → r ≡ r' → m ≡ m' → s ≡ s' → (total ++ row_words a r m) ++ service_words s ≡ (total ++ row_words a' r' m') ++ service_words s'
counted total a a' r r' m m' s s' e1 e2 e3 e4 = cc

-- three texts that are added one after the other to none
pub fronted : (t0 t1 t2 t3 a b d : List ℕ) → t0 ≡ [] → t1 ≡ t0 ++ a → t2 ≡ t1 ++ b → t3 ≡ t2 ++ d → t3 ≡ a ++ b ++ d
fronted t0 t1 t2 t3 a b d e0 e1 e2 e3 = cc
