-- Potentials that fit, and what they say of walks.
use Rattle.std.proofs.Common.{◌≡◌, ℕ, ◌+◌, ◌-◌, ◌<◌, ◌≤◌, ◌↔◌, Bool, true, false, List, length, [], ◌∷◌, ℤ, pos, nat_abs, ◌+ℤ◌, ◌-ℤ◌, ◌≤ℤ◌, to_z, of_z, w64, ap, subst, arith}
use Rattle.std.specs.Prelude.{int_le}
use Rattle.std.proofs.lemmas.Int.{ints}
use Rattle.bx_line.specs.Network.{Network, places_of}
use Rattle.bx_line.specs.Flows.{Flow, carries_unit}
use Rattle.bx_dist.specs.declared.part.Part.{Part}
use Rattle.bx_dist.specs.declared.part.Part.TheVariants.{Whole}
use Rattle.bx_dist.specs.declared.step.Step.{Step}
use Rattle.bx_dist.specs.declared.step.Step.TheVariants.{Idle, Back, Take, Give}
use Rattle.bx_dist.specs.Residual.{IsOpen, IsRowAt, Fits, height_at, step_to}
use Rattle.bx_dist.specs.Inside.{RowFits, GapFits}
use Rattle.bx_dist.specs.Walks.{IsWalk, walk_length}

-- each walk is at least as long as heights that fit rise along it
pub walk_long : (part : Part) (line : Network) (flow : Flow) (heights : List ℤ) → Fits part line flow heights → (from to : ℕ) (walk : List Step) → IsWalk part line flow from to walk → height_at heights to ≤ℤ (height_at heights from +ℤ walk_length line walk)
walk_long part line flow heights fits from to [] w = omega (arith, ints, ap (height_at heights) w)
walk_long part line flow heights fits from to (step ∷ walk) w =
    let rest = walk_long part line flow heights fits (step_to line step) to walk w.2 in
    let here = fits step w.0 in
    let start = ap (height_at heights) w.1 in
    omega (arith, ints, rest, here, start)

-- a row of a part is a row of the whole
whole_row : (part : Part) (line : Network) (flow : Flow) (row : ℕ) (b : Bool) → IsRowAt part line flow row b → IsRowAt Whole line flow row b
whole_row part line flow row b r = record { there = record { named = r.there.named; within = r.there.within; in_part = tt }; state = r.state }

pub open_in_whole : (part : Part) (line : Network) (flow : Flow) (step : Step) → IsOpen part line flow step → IsOpen Whole line flow step
open_in_whole part line flow (Idle v) o = o
open_in_whole part line flow (Back v) o = o
open_in_whole part line flow (Take r) o = whole_row part line flow r false o
open_in_whole part line flow (Give r) o = whole_row part line flow r true o

-- fitting, row by row and gap by gap
pub fits_from_parts : (line : Network) (flow : Flow) (heights : List ℤ) → ((i : ℕ) → i < length line.arcs → RowFits line flow heights (i + 1)) → ((v : ℕ) → v + 1 < places_of line → GapFits flow heights v) → Fits Whole line flow heights
fits_from_parts line flow heights r g (Idle v) o = omega (arith, ints, (g v o).onward)
fits_from_parts line flow heights r g (Back v) o = omega (arith, ints, (g v o.0).back o.1)
fits_from_parts line flow heights r g (Take row) o =
    let e : row - 1 + 1 ≡ row = omega (arith, o.there.named) in
    let fit = subst (RowFits line flow heights) e (r (row - 1) (omega (arith, o.there.named, o.there.within))) in
    omega (arith, ints, fit.onward o.state)
fits_from_parts line flow heights r g (Give row) o =
    let e : row - 1 + 1 ≡ row = omega (arith, o.there.named) in
    let fit = subst (RowFits line flow heights) e (r (row - 1) (omega (arith, o.there.named, o.there.within))) in
    omega (arith, ints, fit.back o.state)

pub RowFits-from_fits : (line : Network) (flow : Flow) (heights : List ℤ) → Fits Whole line flow heights → (row : ℕ) → 1 ≤ row → row ≤ length line.arcs → RowFits line flow heights row
RowFits-from_fits line flow heights f row named within =
    let at : (b : Bool) → carries_unit flow (row - 1) ≡ b → IsRowAt Whole line flow row b = λ b e. record { there = record { named = named; within = within; in_part = tt }; state = e } in
    record { onward = λ e. omega (arith, ints, f (Take row) (at false e)); back = λ e. omega (arith, ints, f (Give row) (at true e)) }

pub GapFits-from_fits : (line : Network) (flow : Flow) (heights : List ℤ) → Fits Whole line flow heights → (v : ℕ) → v + 1 < places_of line → GapFits flow heights v
GapFits-from_fits line flow heights f v h = record { onward = omega (arith, ints, f (Idle v) h); back = λ e. omega (arith, ints, f (Back v) (h, e)) }

-- the tests in 64 bits
pub test_up : (x y : ℤ) (p : ℕ) → nat_abs x ≤ 550000000000000000 → nat_abs y ≤ 550000000000000000 → p ≤ 17001000000000 → (int_le (to_z w64 (of_z w64 x)) (to_z w64 (of_z w64 (to_z w64 (of_z w64 y) +ℤ to_z w64 p))) ≡ true) ↔ (x ≤ℤ (y +ℤ pos p))
test_up x y p a b q = (λ h. grind (arith, ints), λ h. grind (arith, ints))

pub test_down : (x y : ℤ) (p : ℕ) → nat_abs x ≤ 550000000000000000 → nat_abs y ≤ 550000000000000000 → p ≤ 17001000000000 → (int_le (to_z w64 (of_z w64 x)) (to_z w64 (of_z w64 (to_z w64 (of_z w64 y) -ℤ to_z w64 p))) ≡ true) ↔ (x ≤ℤ (y -ℤ pos p))
test_down x y p a b q = (λ h. grind (arith, ints), λ h. grind (arith, ints))
