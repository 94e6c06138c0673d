-- Distances fit the residual network, also after a unit took a least walk to the last place: each of its steps is tight, so the
-- reverse of each costs nothing once reduced.
use Rattle.std.proofs.Common.{◌≡◌, ℕ, ◌+◌, ◌-◌, ◌<◌, Bool, true, false, List, [], ◌∷◌, ◌++◌, set, ℤ, pos, neg_ℤ, ◌+ℤ◌, ◌≤ℤ◌, ◌⊎◌, inl, inr, ap, sym, ◌∙◌, subst, arith, refl}
use Rattle.std.proofs.lemmas.Int.{ints}
use Rattle.bx_line.specs.declared.arc.Arc.{Arc}
use Rattle.bx_line.specs.Network.{Network, IsNetwork, IsArc, places_of}
use Rattle.bx_line.specs.Flows.{Flow, idle_at}
use Rattle.bx_dist.specs.declared.part.Part.{Part}
use Rattle.bx_dist.specs.declared.step.Step.{Step}
use Rattle.bx_dist.specs.declared.step.Step.TheVariants.{Idle, Back, Take, Give}
use Rattle.bx_dist.specs.Residual.{IsOpen, HasRow, IsRowAt, Fits, height_at, step_from, step_to, step_cost, row_arc}
use Rattle.bx_dist.specs.Walks.{IsWalk, walk_length, Lengths, AreLeast, AreDistances}
use Rattle.bx_dist.specs.Tight.{IsTight}
use Rattle.bx_dist.specs.Sending.{after_step, after_walk, sent}
use Rattle.bx_dist.proofs.Fitting.{walk_long}
use Rattle.bx_dist.proofs.Sending.{elsewhere}

abbrev pub AllTight : Network → List ℤ → List Step → Type 0
AllTight line heights [] = Unit {0}
AllTight line heights (step ∷ walk) = IsTight line heights step × AllTight line heights walk

-- a walk that is as long as the heights rise has tight steps alone
pub tight_from_least : (part : Part) (line : Network) (flow : Flow) (heights : List ℤ) → Fits part line flow heights → (from to : ℕ) (walk : List Step) → IsWalk part line flow from to walk → (height_at heights from +ℤ walk_length line walk) ≤ℤ height_at heights to → AllTight line heights walk
tight_from_least part line flow heights fits from to [] w least = tt
tight_from_least part line flow heights fits from to (step ∷ walk) w least =
    let rest = walk_long part line flow heights fits (step_to line step) to walk w.2 in
    let here = fits step w.0 in
    let start = ap (height_at heights) w.1 in
    (omega (arith, ints, rest, here, start, least), tight_from_least part line flow heights fits (step_to line step) to walk w.2 (omega (arith, ints, rest, here, start, least)))

pub walk_and_step : (part : Part) (line : Network) (flow : Flow) (from to : ℕ) (walk : List Step) (step : Step) → IsWalk part line flow from to walk → IsOpen part line flow step → step_from line step ≡ to → IsWalk part line flow from (step_to line step) (walk ++ step ∷ [])
walk_and_step part line flow from to [] step w o e = (o, e ∙ sym w, refl)
walk_and_step part line flow from to (s ∷ walk) step w o e = (w.0, w.1, walk_and_step part line flow (step_to line s) to walk step w.2 o e)

pub length_and_step : (line : Network) (walk : List Step) (step : Step) → walk_length line (walk ++ step ∷ []) ≡ (walk_length line walk +ℤ step_cost line step)
length_and_step line [] step = omega (arith, ints)
length_and_step line (s ∷ walk) step = omega (arith, ints, length_and_step line walk step)

pub row_within : (part : Part) (line : Network) → IsNetwork line → (row : ℕ) → HasRow part line row → IsArc (places_of line) (row_arc line row)
row_within part line n row r = n.arcs (row - 1) (omega (arith, r.named, r.within))

pub step_within : (part : Part) (line : Network) (flow : Flow) → IsNetwork line → (step : Step) → IsOpen part line flow step → (step_from line step < places_of line) × (step_to line step < places_of line)
step_within part line flow n (Idle v) o = (omega arith, o)
step_within part line flow n (Back v) o = (o.0, omega (arith, o.0))
step_within part line flow n (Take r) o = let a = row_within part line n r o.there in (omega (arith, a.rising, a.within), a.within)
step_within part line flow n (Give r) o = let a = row_within part line n r o.there in (a.within, omega (arith, a.rising, a.within))

-- distances fit
pub distances_fit : (part : Part) (line : Network) (flow : Flow) (lengths : List ℤ) → IsNetwork line → AreLeast part line flow lengths → Fits part line flow lengths
distances_fit part line flow lengths n a step o =
    let within = step_within part line flow n step o in
    let r = a.reached (step_from line step) within.0 in
    let more = a.least (step_to line step) (r.0 ++ step ∷ []) within.1 (walk_and_step part line flow 0 (step_from line step) r.0 step r.1 o refl) in
    omega (arith, ints, r.2, more, length_and_step line r.0 step)

-- the first place is at distance 0
pub first_distance : (part : Part) (line : Network) (flow : Flow) (lengths : List ℤ) → IsNetwork line → 0 < places_of line → AreLeast part line flow lengths → height_at lengths 0 ≡ pos 0
first_distance part line flow lengths n h a =
    let r = a.reached 0 h in
    let up = walk_long part line flow lengths (distances_fit part line flow lengths n a) 0 0 r.0 r.1 in
    let down = a.least 0 [] h refl in
    omega (arith, ints, r.2, up, down)

-- a row of another state after a write was that one before, or is the row that was written
row_before : (part : Part) (line : Network) (flow : Flow) (r q : ℕ) (new now : Bool) → IsRowAt part line (record flow { accepted = set flow.accepted (r - 1) new }) q now → (q - 1 ≡ r - 1) ⊎ IsRowAt part line flow q now
row_before part line flow r q new now p =
    elim (elsewhere flow.accepted (r - 1) (q - 1) new false) [ inl e ↦ inl e | inr same ↦ inr (record { there = p.there; state = sym same ∙ p.state }) ]

same_row : (line : Network) (r q : ℕ) → q - 1 ≡ r - 1 → row_arc line q ≡ row_arc line r
same_row line r q e = cc

module _ (part : Part) (line : Network) (flow : Flow) (heights : List ℤ) (fits : Fits part line flow heights) where
  fits_back : (v u n : ℕ) → height_at heights (v + 1) ≡ height_at heights v → IsOpen part line (record flow { idle = set flow.idle v n }) (Back u) → height_at heights u ≤ℤ height_at heights (u + 1)
  fits_back v u n tight o =
      elim (elsewhere flow.idle v u n 0) [
        | inl e ↦ (let l = ap (height_at heights) e in let m = ap (λ (w : ℕ). height_at heights (w + 1)) e in omega (arith, ints, tight, l, m))
        | inr same ↦ (let f = fits (Back u) (o.0, subst (λ (k : ℕ). 0 < k) same o.1) in omega (arith, ints, f))
      ]

  -- heights that fit, and are tight along a step, fit what is open after it
  pub fits_after : (step : Step) → IsTight line heights step → Fits part line (after_step flow step) heights
  fits_after (Idle v) tight (Idle u) o = fits (Idle u) o
  fits_after (Idle v) tight (Take q) o = fits (Take q) (record { there = o.there; state = o.state })
  fits_after (Idle v) tight (Give q) o = fits (Give q) (record { there = o.there; state = o.state })
  fits_after (Idle v) tight (Back u) o = let f = fits_back v u (idle_at flow v + 1) (omega (arith, ints, tight)) o in omega (arith, ints, f)
  fits_after (Back v) tight (Idle u) o = fits (Idle u) o
  fits_after (Back v) tight (Take q) o = fits (Take q) (record { there = o.there; state = o.state })
  fits_after (Back v) tight (Give q) o = fits (Give q) (record { there = o.there; state = o.state })
  fits_after (Back v) tight (Back u) o = let f = fits_back v u (idle_at flow v - 1) (omega (arith, ints, tight)) o in omega (arith, ints, f)
  fits_after (Take r) tight (Idle u) o = fits (Idle u) o
  fits_after (Take r) tight (Back u) o = fits (Back u) o
  fits_after (Take r) tight (Take q) o =
      elim (row_before part line flow r q true false o) [ inl e ↦ subst (λ (a : Arc). height_at heights a.to ≤ℤ (height_at heights a.from +ℤ neg_ℤ (pos a.pay))) (sym (same_row line r q e)) (omega (arith, ints, tight)) | inr p ↦ fits (Take q) p ]
  fits_after (Take r) tight (Give q) o =
      elim (row_before part line flow r q true true o) [ inl e ↦ subst (λ (a : Arc). height_at heights a.from ≤ℤ (height_at heights a.to +ℤ pos a.pay)) (sym (same_row line r q e)) (omega (arith, ints, tight)) | inr p ↦ fits (Give q) p ]
  fits_after (Give r) tight (Idle u) o = fits (Idle u) o
  fits_after (Give r) tight (Back u) o = fits (Back u) o
  fits_after (Give r) tight (Take q) o =
      elim (row_before part line flow r q false false o) [ inl e ↦ subst (λ (a : Arc). height_at heights a.to ≤ℤ (height_at heights a.from +ℤ neg_ℤ (pos a.pay))) (sym (same_row line r q e)) (omega (arith, ints, tight)) | inr p ↦ fits (Take q) p ]
  fits_after (Give r) tight (Give q) o =
      elim (row_before part line flow r q false true o) [ inl e ↦ subst (λ (a : Arc). height_at heights a.from ≤ℤ (height_at heights a.to +ℤ pos a.pay)) (sym (same_row line r q e)) (omega (arith, ints, tight)) | inr p ↦ fits (Give q) p ]

fits_after_walk : (part : Part) (line : Network) (flow : Flow) (heights : List ℤ) → Fits part line flow heights → (walk : List Step) → AllTight line heights walk → Fits part line (after_walk flow walk) heights
fits_after_walk part line flow heights fits [] tight = fits
fits_after_walk part line flow heights fits (step ∷ walk) tight = fits_after_walk part line (after_step flow step) heights (fits_after part line flow heights fits step tight.0) walk tight.1

same_but_units : (part : Part) (line : Network) (flow : Flow) (units : ℕ) (heights : List ℤ) → Fits part line flow heights → Fits part line (record flow { units = units }) heights
same_but_units part line flow units heights f (Idle v) o = f (Idle v) o
same_but_units part line flow units heights f (Back v) o = f (Back v) o
same_but_units part line flow units heights f (Take r) o = f (Take r) (record { there = o.there; state = o.state })
same_but_units part line flow units heights f (Give r) o = f (Give r) (record { there = o.there; state = o.state })

-- distances fit what is open after a unit took the least walk to the last place
pub distances_fit_after : (part : Part) (line : Network) (flow : Flow) (d : Lengths) → IsNetwork line → AreDistances part line flow d → Fits part line (sent flow d.walk) d.lengths
distances_fit_after part line flow d n a =
    let fits = distances_fit part line flow d.lengths n a.lengths in
    let first = first_distance part line flow d.lengths n a.path.some_place a.lengths in
    same_but_units part line (after_walk flow d.walk) (flow.units + 1) d.lengths (fits_after_walk part line flow d.lengths fits d.walk (tight_from_least part line flow d.lengths fits 0 (places_of line - 1) d.walk a.path.leads (omega (arith, ints, a.shortest, first))))
