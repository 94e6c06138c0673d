-- Events one after another.
use Rattle.std.proofs.Common.{◌≡◌, ℕ, ◌+◌, Bool, true, false, List, [], ◌∷◌, ◌++◌, refl, sym, ap, ◌∙◌, append_assoc, arith}
use Rattle.bx_events.specs.Events.{Event, Tick, Receive}
use Rattle.bx_frames.specs.Courses.{after, told, ticks_of, ticks_last}

module _ {D : Type 0} (next : D → Event → D) where
  pub after_more : (xs ys : List Event) (d : D) → after next (xs ++ ys) d ≡ after next ys (after next xs d)
  after_more [] ys d = refl
  after_more (x ∷ xs) ys d = after_more xs ys (next d x)

  pub told_more : (text : D → Event → List ℕ) (xs ys : List Event) (d : D) → told next text (xs ++ ys) d ≡ told next text xs d ++ told next text ys (after next xs d)
  told_more text [] ys d = refl
  told_more text (x ∷ xs) ys d =
      ap (λ (l : List ℕ). text d x ++ l) (told_more text xs ys (next d x)) ∙ sym (append_assoc (text d x) (told next text xs (next d x)) (told next text ys (after next xs (next d x))))

pub ticks_more : (xs ys : List Event) → ticks_of (xs ++ ys) ≡ ticks_of xs + ticks_of ys
ticks_more [] ys = omega arith
ticks_more (Tick ∷ xs) ys = omega (arith, ticks_more xs ys)
ticks_more (Receive octets ∷ xs) ys = ticks_more xs ys

-- ---- which event is the last

pub last_more : (said : Bool) (xs ys : List Event) → ticks_last said (xs ++ ys) ≡ ticks_last (ticks_last said xs) ys
last_more said [] ys = refl
last_more said (Tick ∷ xs) ys = last_more true xs ys
last_more said (Receive octets ∷ xs) ys = last_more false xs ys

pub last_of_some : (said : Bool) (ys : List Event) → ticks_last false ys ≡ true → ticks_last said ys ≡ true
last_of_some said [] e = cc
last_of_some said (Tick ∷ ys) e = e
last_of_some said (Receive octets ∷ ys) e = e

pub last_following : (xs ys : List Event) → ticks_last false ys ≡ true → ticks_last false (xs ++ ys) ≡ true
last_following xs ys e = last_more false xs ys ∙ last_of_some (ticks_last false xs) ys e

-- where there is no tick, the last event is none
pub no_last : (ys : List Event) → ticks_of ys ≡ 0 → ticks_last false ys ≡ true → ⊥
no_last [] e f = cc
no_last (Tick ∷ ys) e f = omega (arith, e)
no_last (Receive octets ∷ ys) e f = no_last ys e f
