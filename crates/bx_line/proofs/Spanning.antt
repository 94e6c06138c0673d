-- What a flow of the line of counts is on the whole line.
--
-- The rows over a gap of the whole line are over one gap of the line of counts: that after the count of the place, where
-- a set grows there, else that before it. So no gap of the whole line has more rows than there are units. Where the count
-- rises from a place to the next, the rows over the gap between are just those over the gap after the count.
use Rattle.std.proofs.Common.{◌≡◌, ℕ, ◌+◌, ◌-◌, ◌<◌, ◌≤◌, Bool, true, false, cond, ◌&&◌, List, length, get_or, refl, sym, ap, arith, inl, inr}
use Rattle.std.proofs.lemmas.Bool.{cases_lt}
use Rattle.std.proofs.lemmas.Bool.Decides.{nat_tests}
use Rattle.bx_base.specs.Sums.{sum_below}
use Rattle.bx_base.proofs.SumLemmas.{sum_below-le, sum_below-same, sum_below-zero}
use Rattle.bx_line.specs.declared.arc.Arc.{Arc}
use Rattle.bx_line.specs.declared.incidence.Incidence.TheVariants.{Leaving, Arriving}
use Rattle.bx_line.specs.Network.{Network, IsNetwork, places_of, arc_at, spans}
use Rattle.bx_line.specs.Flows.{Flow, IsFlow, carries_unit, idle_at, crossing_at}
use Rattle.bx_line.specs.Cliques.{AreCliques, IsShortened, counted_arc, is_growing}
use Rattle.bx_line.proofs.CliquesRise.{counts_rise, has_row-from, start_grows, ended_or_grows, ends_apart, rise_few}
use Rattle.bx_line.proofs.Crossings.{crosses_from_flow}
use Rattle.bx_line.proofs.Shortening.{count_within, no_places}

pub is_over : (arc : Arc) (gap : ℕ) → arc.from ≤ gap → gap < arc.to → spans arc gap ≡ true
is_over arc gap h k = grind (arith, nat_tests)

pub over_from : (arc : Arc) (gap : ℕ) → spans arc gap ≡ true → arc.from ≤ gap
over_from arc gap h = grind (arith, nat_tests)

pub over_to : (arc : Arc) (gap : ℕ) → spans arc gap ≡ true → gap < arc.to
over_to arc gap h = grind (arith, nat_tests)

none_over : (b : Bool) (arc : Arc) (gap : ℕ) → arc.to ≤ gap → ◌≡◌ {A = ℕ} (cond (b && spans arc gap) 1 0) 0
none_over true arc gap h = grind (arith, nat_tests)
none_over false arc gap h = refl

at_most : (b over there : Bool) → (over ≡ true → there ≡ true) → cond {A = ℕ} (b && over) 1 0 ≤ cond (b && there) 1 0
at_most true true there h = rw (h refl) (omega arith)
at_most true false there h = omega arith
at_most false over there h = omega arith

one_truth : (over there : Bool) → (over ≡ true → there ≡ true) → (there ≡ true → over ≡ true) → over ≡ there
one_truth true there h k = sym (h refl)
one_truth false true h k = k refl
one_truth false false h k = refl

-- no gap has more rows than there are units
crossing_few : (line : Network) (flow : Flow) → IsNetwork line → IsFlow line flow → (gap : ℕ) → crossing_at line flow gap ≤ flow.units
crossing_few line flow network is_flow gap =
    elim (cases_lt (gap + 1) (places_of line)) [
      | inl h ↦ omega (arith, (crosses_from_flow line flow network is_flow).crosses gap h)
      | inr h ↦ (let none = sum_below-zero (length line.arcs) (λ i. cond (carries_unit flow i && spans (arc_at line i) gap) 1 0) (λ i b. none_over (carries_unit flow i) (arc_at line i) gap (let arc = network.arcs i b in omega (arith, arc.within))) in omega (arith, none))
    ]

-- the same rows over a gap
crossing_same : (line : Network) (flow other : Flow) (gap : ℕ) → other.accepted ≡ flow.accepted → crossing_at line other gap ≡ crossing_at line flow gap
crossing_same line flow other gap e = rw e refl

module _ (line : Network) (counts : List ℕ) (shorter : Network) (network : IsNetwork line) (cliques : AreCliques line counts) (shortened : IsShortened line counts shorter) where
  -- the count of a place
  abbrev count : ℕ → ℕ
  count v = get_or counts v 0

  -- where a row is over a gap in which a set grows
  over_growing : (i v : ℕ) → i < length line.arcs → v + 1 < places_of line → is_growing line (v + 1) ≡ true → spans (arc_at line i) v ≡ true → spans (arc_at shorter i) (count v) ≡ true
  over_growing i v h b grows over =
      let arc = network.arcs i h in
      let from = over_from (arc_at line i) v over in
      let to = over_to (arc_at line i) v over in
      let before = counts_rise line counts cliques (arc_at line i).from v from (omega arith) in
      let apart = ends_apart line (v + 1) grows (arc_at line i).to (omega arith) (has_row-from Arriving line i h) in
      let following : count v < count (arc_at line i).to = omega (arith, apart, cliques.each v (omega arith), cliques.each (arc_at line i).to arc.within) in
      rw (shortened.arcs.each i h) (is_over (counted_arc counts (arc_at line i)) (count v) before following)

  -- and where none does
  over_ended : (i v : ℕ) → i < length line.arcs → v + 1 < places_of line → is_growing line (v + 1) ≡ false → spans (arc_at line i) v ≡ true → spans (arc_at shorter i) (count v - 1) ≡ true
  over_ended i v h b rests over =
      let arc = network.arcs i h in
      let from = over_from (arc_at line i) v over in
      let to = over_to (arc_at line i) v over in
      let grows = start_grows line (arc_at line i).from (has_row-from Leaving line i h) in
      let before : count (arc_at line i).from < count v = elim (ended_or_grows line ((arc_at line i).from + 1) grows (v + 1) (omega arith)) [
        | inl e ↦ omega (arith, e, cliques.each v (omega arith), cliques.each (arc_at line i).from (omega arith))
        | inr g ↦ absurd (cc)
      ] in
      let following = counts_rise line counts cliques v (arc_at line i).to (omega arith) arc.within in
      rw (shortened.arcs.each i h) (is_over (counted_arc counts (arc_at line i)) (count v - 1) (omega (arith, before)) (omega (arith, before, following)))

  module _ (flow : Flow) where
    -- the rows over a gap are over another one of the line of counts
    crossing_below : (v gap : ℕ) → ((i : ℕ) → i < length line.arcs → spans (arc_at line i) v ≡ true → spans (arc_at shorter i) gap ≡ true) → crossing_at line flow v ≤ crossing_at shorter flow gap
    crossing_below v gap over =
        let n = length line.arcs in
        let most = sum_below-le n (λ i. cond (carries_unit flow i && spans (arc_at line i) v) 1 0) (λ i. cond (carries_unit flow i && spans (arc_at shorter i) gap) 1 0) (λ i h. at_most (carries_unit flow i) (spans (arc_at line i) v) (spans (arc_at shorter i) gap) (over i h)) in
        let same = ap (λ (m : ℕ). sum_below m (λ i. cond {A = ℕ} (carries_unit flow i && spans (arc_at shorter i) gap) 1 0)) shortened.arcs.one_each in
        omega (arith, most, same)

    below_units : (v : ℕ) → IsNetwork shorter → IsFlow shorter flow → v + 1 < places_of line → (b : Bool) → is_growing line (v + 1) ≡ b → crossing_at line flow v ≤ flow.units
    below_units v limits is_flow h true e = omega (arith, crossing_below v (count v) (λ i b. over_growing i v b h e), crossing_few shorter flow limits is_flow (count v))
    below_units v limits is_flow h false e = omega (arith, crossing_below v (count v - 1) (λ i b. over_ended i v b h e), crossing_few shorter flow limits is_flow (count v - 1))

    pub crossing_fits : IsNetwork shorter → IsFlow shorter flow → (v : ℕ) → v + 1 < places_of line → crossing_at line flow v ≤ flow.units
    crossing_fits limits is_flow v h = below_units v limits is_flow h (is_growing line (v + 1)) refl

  -- the count of the next place is the same, or one more
  pub next_count : (v : ℕ) → v + 1 < places_of line → (count v ≤ count (v + 1)) × (count (v + 1) ≤ count v + 1)
  next_count v h =
      let here = cliques.each v (omega arith) in
      let next = cliques.each (v + 1) h in
      let few = rise_few line (v + 1) in
      (omega (arith, here, next, few.0), omega (arith, here, next, few.1))

  -- a count is one of the places of the line of counts
  pub place_of_count : (v : ℕ) → v < places_of line → count v < places_of shorter
  place_of_count v h = omega (arith, count_within line counts network cliques v h, shortened.places)

  -- a line without gaps has no units
  pub no_units : (flow : Flow) → IsNetwork shorter → IsFlow shorter flow → places_of line < 2 → flow.units ≡ 0
  no_units flow limits is_flow few =
      elim (cases_lt 0 (places_of line)) [
        | inl h ↦ absurd (omega (arith, few, network.two_ends h))
        | inr h ↦ (crosses_from_flow shorter flow limits is_flow).no_gap (omega (arith, shortened.places, no_places counts (omega (arith, h, cliques.one_each))))
      ]

  module _ (v : ℕ) (within : v + 1 < places_of line) (rises : count (v + 1) ≡ count v + 1) where
    over_both : (i : ℕ) → i < length line.arcs → spans (arc_at line i) v ≡ true → spans (arc_at shorter i) (count v) ≡ true
    over_both i h over =
        let arc = network.arcs i h in
        let from = over_from (arc_at line i) v over in
        let to = over_to (arc_at line i) v over in
        let before = counts_rise line counts cliques (arc_at line i).from v from (omega arith) in
        let following = counts_rise line counts cliques (v + 1) (arc_at line i).to (omega arith) arc.within in
        rw (shortened.arcs.each i h) (is_over (counted_arc counts (arc_at line i)) (count v) before (omega (arith, following, rises)))

    over_back : (i : ℕ) → i < length line.arcs → spans (arc_at shorter i) (count v) ≡ true → spans (arc_at line i) v ≡ true
    over_back i h over =
        let arc = network.arcs i h in
        let there = rw (shortened.arcs.each i h) at over in
        let from = over_from (counted_arc counts (arc_at line i)) (count v) there in
        let to = over_to (counted_arc counts (arc_at line i)) (count v) there in
        let before : (arc_at line i).from ≤ v = elim (cases_lt v (arc_at line i).from) [
          | inl a ↦ absurd (omega (arith, counts_rise line counts cliques (v + 1) (arc_at line i).from (omega arith) (omega (arith, arc.rising, arc.within)), from, rises))
          | inr a ↦ a
        ] in
        let following : v < (arc_at line i).to = elim (cases_lt v (arc_at line i).to) [
          | inl a ↦ a
          | inr a ↦ absurd (omega (arith, counts_rise line counts cliques (arc_at line i).to v a (omega arith), to))
        ] in
        is_over (arc_at line i) v before following

    crossing_equal : (flow : Flow) → crossing_at line flow v ≡ crossing_at shorter flow (count v)
    crossing_equal flow =
        let n = length line.arcs in
        let each = sum_below-same n (λ i. cond (carries_unit flow i && spans (arc_at line i) v) 1 0) (λ i. cond (carries_unit flow i && spans (arc_at shorter i) (count v)) 1 0) (λ i h. ap (λ (b : Bool). cond {A = ℕ} (carries_unit flow i && b) 1 0) (one_truth (spans (arc_at line i) v) (spans (arc_at shorter i) (count v)) (over_both i h) (over_back i h))) in
        let same = ap (λ (m : ℕ). sum_below m (λ i. cond {A = ℕ} (carries_unit flow i && spans (arc_at shorter i) (count v)) 1 0)) shortened.arcs.one_each in
        omega (arith, each, same)

    -- as many units are idle there
    pub idle_equal : (flow whole : Flow) → IsNetwork shorter → IsFlow shorter flow → IsFlow line whole → whole.accepted ≡ flow.accepted → whole.units ≡ flow.units → idle_at whole v ≡ idle_at flow (count v)
    idle_equal flow whole limits short_flow whole_flow rows units =
        let here = (crosses_from_flow line whole network whole_flow).crosses v within in
        let there = (crosses_from_flow shorter flow limits short_flow).crosses (count v) (omega (arith, place_of_count (v + 1) within, rises)) in
        omega (arith, here, there, units, crossing_same line flow whole v rows, crossing_equal flow)
