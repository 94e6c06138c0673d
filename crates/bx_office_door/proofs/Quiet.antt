-- Nobody waits for an answer before the day begins.
use Rattle.std.proofs.Common.{◌≡◌, refl, ap, ◌∙◌, subst, ℕ, zero, suc, ◌+◌, ◌<◌, ◌≤◌, if◌then◌else◌, Bool, true, false, List, [], ◌∷◌, length, take, filter, set, Option, Some, None, is_some, Vec, arith}
use Rattle.std.specs.declared.alloc.Global.{Global}
use Rattle.std.proofs.lemmas.List.{take_all}
use Rattle.bx_office.specs.declared.client.Stage.{Stage}
use Rattle.bx_office.specs.declared.client.Stage.TheVariants.{Asked}
use Rattle.bx_office.specs.declared.early.Eve.{Eve}
use Rattle.bx_office.specs.declared.gate.Route.{Route}
use Rattle.bx_office_door.specs.Eves.{IsEveAt}
use Rattle.bx_office_door.specs.Guests.{asked_at, asked_or, first_asked}
use Rattle.bx_office_door.specs.Waiting.{waits_for_answer}
use Rattle.bx_office_door.specs.declared.guest.Guest.{Guest}

quiet_stage : (s : Stage) → waits_for_answer s ≡ false → asked_at s ≡ None
quiet_stage (Asked route) e = cc
quiet_stage _ e = refl

passes : (a : Option Route) (n : ℕ) (p q : Option (ℕ × Route)) → asked_or a n p ≡ None → (p ≡ None → q ≡ None) → asked_or a n q ≡ None
passes (Some route) n p q e f = cc
passes None n p q e f = f e

after_quiet : (g : Guest) (later : Option (ℕ × Route)) → waits_for_answer g.client.stage ≡ false → asked_or (asked_at g.client.stage) g.number later ≡ later
after_quiet g later e = ap (λ (a : Option Route). asked_or a g.number later) (quiet_stage g.client.stage e)

-- one more is quiet
pub quiet_more : (gs : List Guest) (i : ℕ) (g : Guest) → i < length gs → first_asked (take i gs) ≡ None → waits_for_answer g.client.stage ≡ false → first_asked (take (i + 1) (set gs i g)) ≡ None
quiet_more [] i g lt e q = absurd (omega (arith, lt))
quiet_more (x ∷ gs) zero g lt e q = after_quiet g None q
quiet_more (x ∷ gs) (suc i) g lt e q =
    let more : suc i + 1 ≡ suc (i + 1) = omega arith in
    ap (λ (n : ℕ). first_asked (take n (x ∷ set gs i g))) more
    ∙ passes (asked_at x.client.stage) x.number (first_asked (take i gs)) (first_asked (take (i + 1) (set gs i g))) e (λ f. quiet_more gs i g (omega (arith, lt)) f q)

-- all are
pub quiet_all : (gs : List Guest) (n : ℕ) → length gs ≤ n → first_asked (take n gs) ≡ None → first_asked gs ≡ None
quiet_all gs n le e = subst (λ (xs : List Guest). first_asked xs ≡ None) (take_all n gs le) e

later : (a : Option Route) (n : ℕ) (p : Option (ℕ × Route)) → asked_or a n p ≡ None → p ≡ None
later (Some route) n p e = cc
later None n p e = e

quiet_or : (b : Bool) (g : Guest) (rest kept : List Guest) → first_asked (g ∷ rest) ≡ None → (first_asked rest ≡ None → first_asked kept ≡ None) → first_asked (if b then g ∷ kept else kept) ≡ None
quiet_or true g rest kept e f = passes (asked_at g.client.stage) g.number (first_asked rest) (first_asked kept) e f
quiet_or false g rest kept e f = f (later (asked_at g.client.stage) g.number (first_asked rest) e)

pub quiet-filter : (p : Guest → Bool) (gs : List Guest) → first_asked gs ≡ None → first_asked (filter p gs) ≡ None
quiet-filter p [] e = refl
quiet-filter p (g ∷ gs) e = quiet_or (p g) g gs (filter p gs) e (quiet-filter p gs)

-- there is something to be said before the day begins
pub eve_there : (opens now : ℕ) (heard : Bool) (figures : Option (Vec ℕ Global)) (eve : Option Eve) → IsEveAt opens now heard figures eve → now < opens → is_some eve ≡ true
eve_there opens now heard figures None over lt = absurd (omega (arith, over, lt))
eve_there opens now heard figures (Some eve) is lt = refl
