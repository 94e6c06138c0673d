-- Frames on the way over establishments: each I frame has the place i of its message among all that were given, and the place b of the
-- message that had number 0 when it was sent. After an unnumbered frame each I frame is of a later establishment.
use Rattle.std.proofs.Common.{◌≡◌, ◌∙◌, ◌⊎◌, inl, inr, ℕ, suc, ◌+◌, ◌-◌, ◌%◌, ◌<◌, ◌≤◌, max, Bool, true, false, List, [], ◌∷◌, ◌++◌, length, take, drop, Option, Some, None, refl, sym, ap, subst, take-append-drop, arith}
use Rattle.std.proofs.lemmas.List.{take-take}
use Rattle.arrayvec.specs.ArrayVec.{ArrayVec}
use Rattle.bx_lapd.specs.declared.frame.Frame.{Frame}
use Rattle.bx_lapd.specs.declared.frame.Frame.TheVariants.{Information, Numbered, Plain}
use Rattle.bx_lapd.specs.Links.{numbered_frames}
use Rattle.bx_lapd.specs.Once.{IsPartOf}
use Rattle.bx_lapd.proofs.Media.{message_at, at_more, take_at_next, Stand}

-- ---- parts of lists

pub part_more : (xs ys zs : List (ArrayVec ℕ)) → IsPartOf xs ys → IsPartOf xs (ys ++ zs)
part_more [] ys zs p = tt
part_more (x ∷ xs) [] zs p = absurd p
part_more (x ∷ xs) (y ∷ ys) zs (inl p) = inl (p.0, part_more xs ys zs p.1)
part_more (x ∷ xs) (y ∷ ys) zs (inr p) = inr (part_more (x ∷ xs) ys zs p)

part_one : (m : ArrayVec ℕ) (ys : List (ArrayVec ℕ)) → IsPartOf (m ∷ []) (ys ++ m ∷ [])
part_one m [] = inl (refl, tt)
part_one m (y ∷ ys) = inr (part_one m ys)

part_push : (m : ArrayVec ℕ) (xs ys : List (ArrayVec ℕ)) → IsPartOf xs ys → IsPartOf (xs ++ m ∷ []) (ys ++ m ∷ [])
part_push m [] ys p = part_one m ys
part_push m (x ∷ xs) [] p = absurd p
part_push m (x ∷ xs) (y ∷ ys) (inl p) = inl (p.0, part_push m xs ys p.1)
part_push m (x ∷ xs) (y ∷ ys) (inr p) = inr (part_push m (x ∷ xs) ys p)

pub part_taken : (xs g : List (ArrayVec ℕ)) (r i : ℕ) → r ≤ i → IsPartOf xs (take r g) → IsPartOf xs (take i g)
part_taken xs g r i l p =
    subst (IsPartOf xs) (take-append-drop r (take i g))
    (part_more xs (take r (take i g)) (drop r (take i g)) (subst (IsPartOf xs) (sym (take-take r i g l)) p))

-- the message of a later place comes after
pub part_next : (got g : List (ArrayVec ℕ)) (r i : ℕ) (m : ArrayVec ℕ) → r ≤ i → message_at g i ≡ Some m → IsPartOf got (take r g) → IsPartOf (got ++ m ∷ []) (take (suc i) g)
part_next got g r i m l at p = subst (IsPartOf (got ++ m ∷ [])) (sym (take_at_next g i m at)) (part_push m got (take i g) (part_taken got g r i l p))

-- ---- lanes

-- a frame with place i and base b, after others: the last base before was c, or none counts any more; below r all has come or been seen
abbrev pub Fits : Option ℕ → ℕ → ℕ → ℕ → Type 0
Fits None b r i = r ≤ b
Fits (Some c) b r i = ((c ≡ b) × (r ≤ i + 7)) ⊎ (r ≤ b)

abbrev pub Lane : List (ArrayVec ℕ) → Option ℕ → ℕ → (Option ℕ → ℕ → Type 0) → List Frame → Type 0
Lane g c r E [] = E c r
Lane g c r E (Information poll ns nr m ∷ fs) = (i : ℕ) × (b : ℕ) × (b ≤ i) × (ns ≡ (i - b) % 128) × (message_at g i ≡ Some m) × Fits c b r i × (nr < 128) × Lane g (Some b) (max r (suc i)) E fs
Lane g c r E (Numbered kind command poll nr ∷ fs) = (nr < 128) × Lane g c r E fs
Lane g c r E (Plain kind poll ∷ fs) = Lane g None r E fs

-- what is known of the last base is weaker
abbrev pub Weaker : Option ℕ → Option ℕ → ℕ → Type 0
Weaker c None r = Unit {0}
Weaker c (Some b) r = (c ≡ Some b) ⊎ (r ≤ b)

pub fits_later : (c : Option ℕ) (b r i : ℕ) → r ≤ b → Fits c b r i
fits_later None b r i l = l
fits_later (Some c) b r i l = inr l

fits_weaker : (c d : Option ℕ) (b q r i : ℕ) → q ≤ r → Weaker c d q → Fits d b r i → Fits c b q i
fits_weaker c None b q r i l w f = fits_later c b q i (omega arith)
fits_weaker c (Some d) b q r i l (inl e) (inl f) = subst (λ x. Fits x b q i) (sym e) (let g : Fits (Some d) b q i = inl (f.0, omega (arith, f.1)) in g)
fits_weaker c (Some d) b q r i l (inr h) (inl f) = fits_later c b q i (omega (arith, f.0))
fits_weaker c (Some d) b q r i l w (inr f) = fits_later c b q i (omega arith)

abbrev pub Falls : (Option ℕ → ℕ → Type 0) → Type 0
Falls E = (c d : Option ℕ) (q r : ℕ) → q ≤ r → Weaker c d q → E d r → E c q

pub lane_weaker : (g : List (ArrayVec ℕ)) (c d : Option ℕ) (q r : ℕ) (E : Option ℕ → ℕ → Type 0) (fs : List Frame) → Falls E → q ≤ r → Weaker c d q → Lane g d r E fs → Lane g c q E fs
lane_weaker g c d q r E [] falls l w h = falls c d q r l w h
lane_weaker g c d q r E (Information poll ns nr m ∷ fs) falls l w h =
    (h.0, h.1, h.2, h.3, h.4, fits_weaker c d h.1 q r h.0 l w h.5, h.6, lane_weaker g (Some h.1) (Some h.1) (max q (suc h.0)) (max r (suc h.0)) E fs falls (omega arith) (inl refl) h.7)
lane_weaker g c d q r E (Numbered kind command poll nr ∷ fs) falls l w h = (h.0, lane_weaker g c d q r E fs falls l w h.1)
lane_weaker g c d q r E (Plain kind poll ∷ fs) falls l w h = lane_weaker g None None q r E fs falls l tt h

-- a frame that is lost or ignored
fits_weak : (c : Option ℕ) (b r i : ℕ) → Fits c b r i → Weaker c (Some b) r
fits_weak None b r i f = inr f
fits_weak (Some c) b r i (inl f) = inl (ap Some f.0)
fits_weak (Some c) b r i (inr f) = inr f

pub lane_loses : (g : List (ArrayVec ℕ)) (c : Option ℕ) (r : ℕ) (E : Option ℕ → ℕ → Type 0) (f : Frame) (fs : List Frame) → Falls E → Lane g c r E (f ∷ fs) → Lane g c r E fs
lane_loses g c r E (Information poll ns nr m) fs falls h = lane_weaker g c (Some h.1) r (max r (suc h.0)) E fs falls (omega arith) (fits_weak c h.1 r h.0 h.5) h.7
lane_loses g c r E (Numbered kind command poll nr) fs falls h = h.1
lane_loses g c r E (Plain kind poll) fs falls h = lane_weaker g c None r r E fs falls (omega arith) tt h

pub lane_given : (g more : List (ArrayVec ℕ)) (c : Option ℕ) (r : ℕ) (E : Option ℕ → ℕ → Type 0) (fs : List Frame) → Lane g c r E fs → Lane (g ++ more) c r E fs
lane_given g more c r E [] h = h
lane_given g more c r E (Information poll ns nr m ∷ fs) h = (h.0, h.1, h.2, h.3, at_more g more h.0 m h.4, h.5, h.6, lane_given g more (Some h.1) (max r (suc h.0)) E fs h.7)
lane_given g more c r E (Numbered kind command poll nr ∷ fs) h = (h.0, lane_given g more c r E fs h.1)
lane_given g more c r E (Plain kind poll ∷ fs) h = lane_given g more None r E fs h

-- more goes out after
pub lane_append : (g : List (ArrayVec ℕ)) (c : Option ℕ) (r : ℕ) (E F : Option ℕ → ℕ → Type 0) (fs more : List Frame) → Lane g c r E fs → ((d : Option ℕ) (q : ℕ) → E d q → Lane g d q F more) → Lane g c r F (fs ++ more)
lane_append g c r E F [] more h k = k c r h
lane_append g c r E F (Information poll ns nr m ∷ fs) more h k = (h.0, h.1, h.2, h.3, h.4, h.5, h.6, lane_append g (Some h.1) (max r (suc h.0)) E F fs more h.7 k)
lane_append g c r E F (Numbered kind command poll nr ∷ fs) more h k = (h.0, lane_append g c r E F fs more h.1 k)
lane_append g c r E F (Plain kind poll ∷ fs) more h k = lane_append g None r E F fs more h k

-- ---- the end that sends

-- the last base was this one, or all of before is below this base
abbrev pub AtBase : Option ℕ → ℕ → ℕ → Type 0
AtBase None b r = r ≤ b
AtBase (Some c) b r = (c ≡ b) ⊎ (r ≤ b)

-- of an end that is up with base b, or is down; the first h messages were ever sent
abbrev pub Ends : Bool → ℕ → ℕ → Option ℕ → ℕ → Type 0
Ends true b h c r = (r ≤ h) × AtBase c b r
Ends false b h c r = r ≤ h

at_later : (c : Option ℕ) (b r : ℕ) → r ≤ b → AtBase c b r
at_later None b r l = l
at_later (Some c) b r l = inr l

pub ends_later : (c : Option ℕ) (b h r : ℕ) → r ≤ h → r ≤ b → Ends true b h c r
ends_later c b h r l k = (l, at_later c b r k)

at_weaker : (b : ℕ) (c d : Option ℕ) (q r : ℕ) → q ≤ r → Weaker c d q → AtBase d b r → AtBase c b q
at_weaker b c None q r l w a = at_later c b q (omega arith)
at_weaker b c (Some d) q r l (inl e) (inl a) = subst (λ x. AtBase x b q) (sym e) (let g : AtBase (Some d) b q = inl a in g)
at_weaker b c (Some d) q r l (inr h) (inl a) = at_later c b q (omega (arith, a))
at_weaker b c (Some d) q r l w (inr a) = at_later c b q (omega arith)

pub ends_falls : (up : Bool) (b h : ℕ) → Falls (Ends up b h)
ends_falls true b h c d q r l w e = (omega (arith, e.0), at_weaker b c d q r l w e.1)
ends_falls false b h c d q r l w e = omega arith

fits_base : (c : Option ℕ) (b r i : ℕ) → r ≤ i + 7 → AtBase c b r → Fits c b r i
fits_base None b r i l a = a
fits_base (Some c) b r i l (inl a) = inl (a, l)
fits_base (Some c) b r i l (inr a) = inr a

-- these go out from place s on, with this base
pub lane_numbered : (g : List (ArrayVec ℕ)) (b h k s : ℕ) (ns nr : ℕ) (ms : List (ArrayVec ℕ)) (c : Option ℕ) (r : ℕ) → b ≤ s → ns ≡ (s - b) % 128 → nr < 128 → Stand g s ms → h ≤ s + 7 → h ≤ k → s + length ms ≤ k → Ends true b h c r → Lane g c r (Ends true b k) (numbered_frames ns nr ms)
lane_numbered g b h k s ns nr [] c r bs e small st w l j x = (omega (arith, x.0), x.1)
lane_numbered g b h k s ns nr (m ∷ ms) c r bs e small st w l j x =
    let next : ((ns + 1) % 128) ≡ ((suc s - b) % 128) = ap (λ v. (v + 1) % 128) e ∙ (let y : ((s - b) % 128 + 1) % 128 ≡ (suc s - b) % 128 = omega arith in y) in (
      s,
      b,
      bs,
      e,
      st.0,
      fits_base c b r s (omega (arith, x.0)) x.1,
      small,
      lane_numbered g b (max h (suc s)) k (suc s) ((ns + 1) % 128) nr ms (Some b) (max r (suc s)) (omega arith) next small st.1 (omega arith) (omega arith) (omega arith) (omega (arith, x.0), inl refl),
    )
