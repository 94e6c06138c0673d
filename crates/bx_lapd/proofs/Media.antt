-- Frames on the way: which messages the I frames carry, and what the N(R) of all of them acknowledge.
--
-- Counts from the establishment on stand after the numbers modulo 128. Of one direction: of the messages given, r were delivered, and
-- the first h were ever sent. `Comes`: each I frame on the way has a count i whose message it carries, and r is at most 7 above it, also
-- when the frames before it have come. `Confirms`: the N(R) on the way back are counts that never fall, from those acknowledged up to r.
use Rattle.std.proofs.Common.{◌≡◌, ◌∙◌, ℕ, zero, suc, ◌+◌, ◌%◌, ◌≤◌, max, Bool, false, List, [], ◌∷◌, ◌++◌, length, take, drop, Option, Some, None, refl, sym, ap, subst, append_assoc, append-nil, arith}
use Rattle.arrayvec.specs.ArrayVec.{ArrayVec}
use Rattle.bx_lapd.specs.declared.words.Supervisory.{Supervisory}
use Rattle.bx_lapd.specs.declared.frame.Frame.{Frame}
use Rattle.bx_lapd.specs.declared.frame.Frame.TheVariants.{Information, Numbered, Plain}
use Rattle.bx_lapd.specs.Links.{numbered_frames}
use Rattle.bx_lapd.proofs.Numbers.{next_number}

-- ---- messages by their counts

abbrev pub message_at : List (ArrayVec ℕ) → ℕ → Option (ArrayVec ℕ)
message_at [] n = None
message_at (m ∷ ms) zero = Some m
message_at (m ∷ ms) (suc n) = message_at ms n

pub at_more : (g more : List (ArrayVec ℕ)) (i : ℕ) (m : ArrayVec ℕ) → message_at g i ≡ Some m → message_at (g ++ more) i ≡ Some m
at_more [] more i m e = cc
at_more (x ∷ g) more zero m e = e
at_more (x ∷ g) more (suc i) m e = at_more g more i m e

pub at_within : (g : List (ArrayVec ℕ)) (i : ℕ) (m : ArrayVec ℕ) → message_at g i ≡ Some m → suc i ≤ length g
at_within [] i m e = cc
at_within (x ∷ g) zero m e = omega arith
at_within (x ∷ g) (suc i) m e = let h = at_within g i m e in omega arith

pub take_at_next : (g : List (ArrayVec ℕ)) (i : ℕ) (m : ArrayVec ℕ) → message_at g i ≡ Some m → take (suc i) g ≡ take i g ++ m ∷ []
take_at_next [] i m e = cc
take_at_next (x ∷ g) zero m e = cc
take_at_next (x ∷ g) (suc i) m e = ap (λ ys. x ∷ ys) (take_at_next g i m e)

-- these messages stand from this count on
abbrev pub Stand : List (ArrayVec ℕ) → ℕ → List (ArrayVec ℕ) → Type 0
Stand g s [] = Unit {0}
Stand g s (m ∷ ms) = (message_at g s ≡ Some m) × Stand g (suc s) ms

stand_after : (x : ArrayVec ℕ) (g : List (ArrayVec ℕ)) (s : ℕ) (ms : List (ArrayVec ℕ)) → Stand g s ms → Stand (x ∷ g) (suc s) ms
stand_after x g s [] h = tt
stand_after x g s (m ∷ ms) h = (h.0, stand_after x g (suc s) ms h.1)

pub stand_drop : (k s : ℕ) (g : List (ArrayVec ℕ)) → Stand g s (take k (drop s g))
stand_drop zero s g = tt
stand_drop (suc k) zero [] = tt
stand_drop (suc k) zero (x ∷ g) = (refl, stand_after x g zero (take k g) (stand_drop k zero g))
stand_drop (suc k) (suc s) [] = tt
stand_drop (suc k) (suc s) (x ∷ g) = stand_after x g s (take (suc k) (drop s g)) (stand_drop (suc k) s g)

-- ---- I frames on the way

abbrev pub Comes : List (ArrayVec ℕ) → ℕ → ℕ → List Frame → Type 0
Comes g r h [] = r ≤ h
Comes g r h (Information poll ns nr m ∷ fs) = (i : ℕ) × (ns ≡ i % 128) × (message_at g i ≡ Some m) × (r ≤ i + 7) × Comes g (max r (suc i)) h fs
Comes g r h (Numbered kind command poll nr ∷ fs) = Comes g r h fs
Comes g r h (Plain kind poll ∷ fs) = ⊥

pub comes_less : (g : List (ArrayVec ℕ)) (q r h : ℕ) (fs : List Frame) → q ≤ r → Comes g r h fs → Comes g q h fs
comes_less g q r h [] l c = omega arith
comes_less g q r h (Information poll ns nr m ∷ fs) l c = (c.0, c.1, c.2, omega (arith, c.3), comes_less g (max q (suc c.0)) (max r (suc c.0)) h fs (omega arith) c.4)
comes_less g q r h (Numbered kind command poll nr ∷ fs) l c = comes_less g q r h fs l c
comes_less g q r h (Plain kind poll ∷ fs) l c = c

pub comes_within : (g : List (ArrayVec ℕ)) (r h : ℕ) (fs : List Frame) → Comes g r h fs → r ≤ h
comes_within g r h [] c = c
comes_within g r h (Information poll ns nr m ∷ fs) c = let w : max r (suc c.0) ≤ h = comes_within g (max r (suc c.0)) h fs c.4 in omega arith
comes_within g r h (Numbered kind command poll nr ∷ fs) c = comes_within g r h fs c
comes_within g r h (Plain kind poll ∷ fs) c = absurd c

pub comes_high : (g : List (ArrayVec ℕ)) (r h k : ℕ) (fs : List Frame) → h ≤ k → Comes g r h fs → Comes g r k fs
comes_high g r h k [] l c = omega arith
comes_high g r h k (Information poll ns nr m ∷ fs) l c = (c.0, c.1, c.2, c.3, comes_high g (max r (suc c.0)) h k fs l c.4)
comes_high g r h k (Numbered kind command poll nr ∷ fs) l c = comes_high g r h k fs l c
comes_high g r h k (Plain kind poll ∷ fs) l c = c

pub comes_given : (g more : List (ArrayVec ℕ)) (r h : ℕ) (fs : List Frame) → Comes g r h fs → Comes (g ++ more) r h fs
comes_given g more r h [] c = c
comes_given g more r h (Information poll ns nr m ∷ fs) c = (c.0, c.1, at_more g more c.0 m c.2, c.3, comes_given g more (max r (suc c.0)) h fs c.4)
comes_given g more r h (Numbered kind command poll nr ∷ fs) c = comes_given g more r h fs c
comes_given g more r h (Plain kind poll ∷ fs) c = c

pub comes_numbered_frame : (g : List (ArrayVec ℕ)) (r h : ℕ) (fs : List Frame) (kind : Supervisory) (command poll : Bool) (nr : ℕ) → Comes g r h fs → Comes g r h (fs ++ Numbered kind command poll nr ∷ [])
comes_numbered_frame g r h [] kind command poll nr c = c
comes_numbered_frame g r h (Information p ns x m ∷ fs) kind command poll nr c = (c.0, c.1, c.2, c.3, comes_numbered_frame g (max r (suc c.0)) h fs kind command poll nr c.4)
comes_numbered_frame g r h (Numbered j b p x ∷ fs) kind command poll nr c = comes_numbered_frame g r h fs kind command poll nr c
comes_numbered_frame g r h (Plain j p ∷ fs) kind command poll nr c = c

-- one more goes out: its count is s, and what was ever sent is at most 7 above it
comes_one : (g : List (ArrayVec ℕ)) (r h k s : ℕ) (fs : List Frame) (ns nr : ℕ) (m : ArrayVec ℕ) → ns ≡ s % 128 → message_at g s ≡ Some m → h ≤ s + 7 → h ≤ k → suc s ≤ k → Comes g r h fs → Comes g r k (fs ++ Information false ns nr m ∷ [])
comes_one g r h k s [] ns nr m e f w l j c = (s, e, f, omega arith, omega arith)
comes_one g r h k s (Information p x y z ∷ fs) ns nr m e f w l j c = (c.0, c.1, c.2, c.3, comes_one g (max r (suc c.0)) h k s fs ns nr m e f w l j c.4)
comes_one g r h k s (Numbered i b p x ∷ fs) ns nr m e f w l j c = comes_one g r h k s fs ns nr m e f w l j c
comes_one g r h k s (Plain i p ∷ fs) ns nr m e f w l j c = c

joined : (fs gs : List Frame) (f : Frame) → (fs ++ f ∷ []) ++ gs ≡ fs ++ f ∷ gs
joined fs gs f = append_assoc fs (f ∷ []) gs

pub comes_more : (g : List (ArrayVec ℕ)) (r h k s : ℕ) (fs : List Frame) (ns nr : ℕ) (ms : List (ArrayVec ℕ)) → ns ≡ s % 128 → Stand g s ms → h ≤ s + 7 → h ≤ k → s + length ms ≤ k → Comes g r h fs → Comes g r k (fs ++ numbered_frames ns nr ms)
comes_more g r h k s fs ns nr [] e st w l j c = subst (Comes g r k) (sym (append-nil fs)) (comes_high g r h k fs l c)
comes_more g r h k s fs ns nr (m ∷ ms) e st w l j c =
    let one = comes_one g r h (max h (suc s)) s fs ns nr m e st.0 w (omega arith) (omega arith) c in
    subst (Comes g r k) (joined fs (numbered_frames ((ns + 1) % 128) nr ms) (Information false ns nr m))
    (comes_more g r (max h (suc s)) k (suc s) (fs ++ Information false ns nr m ∷ []) ((ns + 1) % 128) nr ms (ap (λ x. (x + 1) % 128) e ∙ next_number s) st.1 (omega arith) (omega arith) (omega arith) one)

-- ---- N(R) on the way back

abbrev pub Confirms : ℕ → ℕ → List Frame → Type 0
Confirms a r [] = a ≤ r
Confirms a r (Information poll ns nr m ∷ fs) = (n : ℕ) × (nr ≡ n % 128) × (a ≤ n) × Confirms n r fs
Confirms a r (Numbered kind command poll nr ∷ fs) = (n : ℕ) × (nr ≡ n % 128) × (a ≤ n) × Confirms n r fs
Confirms a r (Plain kind poll ∷ fs) = ⊥

pub confirms_less : (a b r : ℕ) (fs : List Frame) → a ≤ b → Confirms b r fs → Confirms a r fs
confirms_less a b r [] l c = omega arith
confirms_less a b r (Information poll ns nr m ∷ fs) l c = (c.0, c.1, omega (arith, c.2), c.3)
confirms_less a b r (Numbered kind command poll nr ∷ fs) l c = (c.0, c.1, omega (arith, c.2), c.3)
confirms_less a b r (Plain kind poll ∷ fs) l c = c

pub confirms_within : (a r : ℕ) (fs : List Frame) → Confirms a r fs → a ≤ r
confirms_within a r [] c = c
confirms_within a r (Information poll ns nr m ∷ fs) c = let w = confirms_within c.0 r fs c.3 in omega (arith, c.2, w)
confirms_within a r (Numbered kind command poll nr ∷ fs) c = let w = confirms_within c.0 r fs c.3 in omega (arith, c.2, w)
confirms_within a r (Plain kind poll ∷ fs) c = absurd c

pub confirms_more : (a r q : ℕ) (fs : List Frame) → r ≤ q → Confirms a r fs → Confirms a q fs
confirms_more a r q [] l c = omega arith
confirms_more a r q (Information poll ns nr m ∷ fs) l c = (c.0, c.1, c.2, confirms_more c.0 r q fs l c.3)
confirms_more a r q (Numbered kind command poll nr ∷ fs) l c = (c.0, c.1, c.2, confirms_more c.0 r q fs l c.3)
confirms_more a r q (Plain kind poll ∷ fs) l c = c

pub confirms_numbered_frame : (a r : ℕ) (fs : List Frame) (kind : Supervisory) (command poll : Bool) (nr : ℕ) → nr ≡ r % 128 → Confirms a r fs → Confirms a r (fs ++ Numbered kind command poll nr ∷ [])
confirms_numbered_frame a r [] kind command poll nr e c = (r, e, c, omega arith)
confirms_numbered_frame a r (Information p ns x m ∷ fs) kind command poll nr e c = (c.0, c.1, c.2, confirms_numbered_frame c.0 r fs kind command poll nr e c.3)
confirms_numbered_frame a r (Numbered j b p x ∷ fs) kind command poll nr e c = (c.0, c.1, c.2, confirms_numbered_frame c.0 r fs kind command poll nr e c.3)
confirms_numbered_frame a r (Plain j p ∷ fs) kind command poll nr e c = c

confirms_one : (a r : ℕ) (fs : List Frame) (ns nr : ℕ) (m : ArrayVec ℕ) → nr ≡ r % 128 → Confirms a r fs → Confirms a r (fs ++ Information false ns nr m ∷ [])
confirms_one a r [] ns nr m e c = (r, e, c, omega arith)
confirms_one a r (Information p x y z ∷ fs) ns nr m e c = (c.0, c.1, c.2, confirms_one c.0 r fs ns nr m e c.3)
confirms_one a r (Numbered j b p x ∷ fs) ns nr m e c = (c.0, c.1, c.2, confirms_one c.0 r fs ns nr m e c.3)
confirms_one a r (Plain j p ∷ fs) ns nr m e c = c

pub confirms_numbered : (a r : ℕ) (fs : List Frame) (ns nr : ℕ) (ms : List (ArrayVec ℕ)) → nr ≡ r % 128 → Confirms a r fs → Confirms a r (fs ++ numbered_frames ns nr ms)
confirms_numbered a r fs ns nr [] e c = subst (Confirms a r) (sym (append-nil fs)) c
confirms_numbered a r fs ns nr (m ∷ ms) e c =
    subst (Confirms a r) (joined fs (numbered_frames ((ns + 1) % 128) nr ms) (Information false ns nr m))
    (confirms_numbered a r (fs ++ Information false ns nr m ∷ []) ((ns + 1) % 128) nr ms e (confirms_one a r fs ns nr m e c))
