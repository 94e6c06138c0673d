-- Potentials of the line of counts fit the whole line, where each place has that of its count: an arc of a row leads between
-- the counts of its ends, and an idle arc leads from a count to the same, or to the next. In the first case its ends have one
-- potential, and in the second just as many units are idle there as on the line of counts.
use Rattle.std.proofs.Common.{◌≡◌, ℕ, ◌+◌, ◌-◌, ◌<◌, ◌≤◌, ℤ, Bool, true, false, List, length, get_or, sym, ap, subst, arith, inl, inr}
use Rattle.std.specs.Prelude.{pos, neg_ℤ, ◌+ℤ◌, ◌≤ℤ◌}
use Rattle.std.proofs.lemmas.Int.{ints}
use Rattle.std.proofs.lemmas.Bool.{cases_lt}
use Rattle.bx_line.specs.declared.arc.Arc.{Arc}
use Rattle.bx_line.specs.Cliques.{counted_arc}
use Rattle.bx_line.specs.Flows.{Flow, IsFlow, idle_at}
use Rattle.bx_line.specs.Network.{Network, IsNetwork, places_of}
use Rattle.bx_line.proofs.Spanning.{next_count, place_of_count, idle_equal}
use Rattle.bx_dist.specs.declared.part.Part.TheVariants.{Whole}
use Rattle.bx_dist.specs.declared.step.Step.TheVariants.{Idle, Back, Take, Give}
use Rattle.bx_dist.specs.Residual.{ArePotentials, Fits, IsRowAt, height_at, row_arc}
use Rattle.bx_flow.specs.Shorter.{FitsShorter}

between : (from to here there cost : ℤ) → from ≡ here → to ≡ there → there ≤ℤ (here +ℤ cost) → to ≤ℤ (from +ℤ cost)
between from to here there cost e f h = rw (e, f) h

level : (here there : ℤ) → here ≡ there → there ≤ℤ (here +ℤ pos 0)
level here there e = omega (arith, ints)

module _ (line : Network) (counts : List ℕ) (flow : Flow) (heights : List ℤ) (network : IsNetwork line) (short : FitsShorter line counts flow heights) (whole : Flow) (lifted : List ℤ) (is_flow : IsFlow line whole) (rows : whole.accepted ≡ flow.accepted) (units : whole.units ≡ flow.units) (each : (v : ℕ) → v < places_of line → height_at lifted v ≡ height_at heights (get_or counts v 0)) where
  abbrev count : ℕ → ℕ
  count v = get_or counts v 0

  -- where the count stays
  stays : (v : ℕ) → count (v + 1) ≤ count v → v + 1 < places_of line → height_at heights (count v) ≡ height_at heights (count (v + 1))
  stays v h b = let same : count v ≡ count (v + 1) = omega (arith, (next_count line counts short.shorter network short.cliques short.shortened v b).0) in ap (height_at heights) same

  -- where it rises
  rises : (v : ℕ) → count v < count (v + 1) → v + 1 < places_of line → count (v + 1) ≡ count v + 1
  rises v h b = omega (arith, (next_count line counts short.shorter network short.cliques short.shortened v b).1)

  within : (v : ℕ) → count v < count (v + 1) → v + 1 < places_of line → count v + 1 < places_of short.shorter
  within v h b = omega (arith, rises v h b, place_of_count line counts short.shorter network short.cliques short.shortened (v + 1) b)

  onward : (v : ℕ) → v + 1 < places_of line → height_at lifted (v + 1) ≤ℤ (height_at lifted v +ℤ pos 0)
  onward v b =
      between (height_at lifted v) (height_at lifted (v + 1)) (height_at heights (count v)) (height_at heights (count (v + 1))) (pos 0) (each v (omega arith)) (each (v + 1) b) (
      elim (cases_lt (count v) (count (v + 1))) [
        | inl a ↦ rw (rises v a b) (short.fits.fits (Idle (count v)) (within v a b))
        | inr a ↦ level (height_at heights (count v)) (height_at heights (count (v + 1))) (stays v a b)
      ])

  backward : (v : ℕ) → v + 1 < places_of line → 0 < idle_at whole v → height_at lifted v ≤ℤ (height_at lifted (v + 1) +ℤ pos 0)
  backward v b some =
      between (height_at lifted (v + 1)) (height_at lifted v) (height_at heights (count (v + 1))) (height_at heights (count v)) (pos 0) (each (v + 1) b) (each v (omega arith)) (
      elim (cases_lt (count v) (count (v + 1))) [
        | inl a ↦ (
            let same = idle_equal line counts short.shorter network short.cliques short.shortened v b (rises v a b) flow whole short.limits short.is_flow is_flow rows units in
            rw (rises v a b) (short.fits.fits (Back (count v)) (within v a b, omega (arith, same, some))))
        | inr a ↦ level (height_at heights (count (v + 1))) (height_at heights (count v)) (sym (stays v a b))
      ])

  -- the same row on the line of counts
  row_there : (row : ℕ) (b : Bool) → IsRowAt Whole line whole row b → IsRowAt Whole short.shorter flow row b
  row_there row b r =
      record {
        there = record { named = r.there.named; within = omega (arith, r.there.within, short.shortened.arcs.one_each); in_part = tt };
        state = rw rows at r.state;
      }

  arc_there : (row : ℕ) (b : Bool) → IsRowAt Whole line whole row b → row_arc short.shorter row ≡ counted_arc counts (row_arc line row)
  arc_there row b r = short.shortened.arcs.each (row - 1) (omega (arith, r.there.named, r.there.within))

  taken : (row : ℕ) → IsRowAt Whole line whole row false → height_at lifted (row_arc line row).to ≤ℤ (height_at lifted (row_arc line row).from +ℤ neg_ℤ (pos (row_arc line row).pay))
  taken row r =
      let arc = row_arc line row in
      let limits = network.arcs (row - 1) (omega (arith, r.there.named, r.there.within)) in
      let there = subst (λ (a : Arc). height_at heights a.to ≤ℤ (height_at heights a.from +ℤ neg_ℤ (pos a.pay))) (arc_there row false r) (short.fits.fits (Take row) (row_there row false r)) in
      between (height_at lifted arc.from) (height_at lifted arc.to) (height_at heights (count arc.from)) (height_at heights (count arc.to)) (neg_ℤ (pos arc.pay)) (each arc.from (omega (arith, limits.rising, limits.within))) (each arc.to limits.within) there

  given : (row : ℕ) → IsRowAt Whole line whole row true → height_at lifted (row_arc line row).from ≤ℤ (height_at lifted (row_arc line row).to +ℤ pos (row_arc line row).pay)
  given row r =
      let arc = row_arc line row in
      let limits = network.arcs (row - 1) (omega (arith, r.there.named, r.there.within)) in
      let there = subst (λ (a : Arc). height_at heights a.from ≤ℤ (height_at heights a.to +ℤ pos a.pay)) (arc_there row true r) (short.fits.fits (Give row) (row_there row true r)) in
      between (height_at lifted arc.to) (height_at lifted arc.from) (height_at heights (count arc.to)) (height_at heights (count arc.from)) (pos arc.pay) (each arc.to limits.within) (each arc.from (omega (arith, limits.rising, limits.within))) there

  lifted_fits : Fits Whole line whole lifted
  lifted_fits (Idle v) h = onward v h
  lifted_fits (Back v) h = backward v h.0 h.1
  lifted_fits (Take row) r = taken row r
  lifted_fits (Give row) r = given row r

  pub lifted_potentials : length lifted ≡ places_of line → ArePotentials line whole lifted
  lifted_potentials size = record { one_each = size; sized = is_flow.sized; fits = lifted_fits }
