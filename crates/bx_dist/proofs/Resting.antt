-- A flow from the rows that carry a unit: what is idle in each gap is the rest of all units.
use Rattle.std.proofs.Common.{◌≡◌, ℕ, ◌+◌, ◌<◌, ◌≤◌, Bool, true, false, cond, ◌&&◌, List, length, get_or, replicate, refl, ◌∙◌, ap, arith}
use Rattle.std.proofs.lemmas.List.{get_or-replicate, length-replicate}
use Rattle.bx_base.specs.Sums.{sum_below}
use Rattle.bx_base.proofs.SumLemmas.{sum_below-next, sum_below-more}
use Rattle.bx_line.specs.Network.{Network, IsNetwork, places_of, gaps_of, arc_at, spans}
use Rattle.bx_line.specs.Flows.{Flow, flow_of, carries_unit, crossing_at, IsFlow}
use Rattle.bx_line.proofs.Crossings.{flow_from_crosses}
use Rattle.bx_line.proofs.Spanning.{over_to}

-- one where the row carries a unit over the gap
abbrev pub crosses : Network → Flow → ℕ → ℕ → ℕ
crosses line flow v i = cond (carries_unit flow i && spans (arc_at line i) v) 1 0

-- what is left idle in each gap by the first n rows
pub record HasRest (line : Network) (flow : Flow) (n : ℕ) (idle : List ℕ) : Type 0 where
  pub size : length idle ≡ gaps_of line
  pub each : (v : ℕ) → v < gaps_of line → get_or idle v 0 + sum_below n (crosses line flow v) ≡ flow.units

pub rest_first : (line : Network) (flow : Flow) (count : ℕ) (idle : List ℕ) → count ≡ gaps_of line → idle ≡ replicate count flow.units → HasRest line flow 0 idle
rest_first line flow count idle e is =
    rw (is, e) (record { size = length-replicate (gaps_of line) flow.units; each = λ v h. omega (arith, get_or-replicate (gaps_of line) v flow.units 0 h) })

carried_over : (b over : Bool) → b ≡ true → cond {A = ℕ} (b && over) 1 0 ≡ cond over 1 0
carried_over b over e = rw e refl

left_over : (b over : Bool) → b ≡ false → ◌≡◌ {A = ℕ} (cond (b && over) 1 0) 0
left_over b over e = rw e refl

one_over : (b over : Bool) → b ≡ true → over ≡ true → ◌≡◌ {A = ℕ} (cond (b && over) 1 0) 1
one_over b over e f = rw (e, f) refl

module _ (line : Network) (flow : Flow) (n : ℕ) (idle : List ℕ) (rest : HasRest line flow n idle) where
  -- where a row that carries a unit leads, one is idle
  pub some_idle : IsNetwork line → n < length line.arcs → ((gap : ℕ) → gap + 1 < places_of line → crossing_at line flow gap ≤ flow.units) → carries_unit flow n ≡ true → (v : ℕ) → spans (arc_at line n) v ≡ true → 1 ≤ get_or idle v 0
  some_idle network within room carried v over =
      let arc = network.arcs n within in
      let to = over_to (arc_at line n) v over in
      let here : v + 1 < places_of line = omega (arith, arc.within) in
      let one = one_over (carries_unit flow n) (spans (arc_at line n) v) carried over in
      omega (arith, rest.each v (omega arith), sum_below-next n (crosses line flow v), sum_below-more (n + 1) (length line.arcs) (crosses line flow v) (omega arith), one, room v here)

  pub rest_more : (new : List ℕ) → carries_unit flow n ≡ true → length new ≡ length idle → ((v : ℕ) → v < length idle → get_or new v 0 + cond (spans (arc_at line n) v) 1 0 ≡ get_or idle v 0) → HasRest line flow (n + 1) new
  rest_more new carried size each =
      record {
        size = size ∙ rest.size;
        each = λ v h. omega (arith, rest.each v h, each v (omega (arith, rest.size)), sum_below-next n (crosses line flow v), carried_over (carries_unit flow n) (spans (arc_at line n) v) carried);
      }

  pub rest_same : carries_unit flow n ≡ false → HasRest line flow (n + 1) idle
  rest_same left =
      record {
        size = rest.size;
        each = λ v h. omega (arith, rest.each v h, sum_below-next n (crosses line flow v), left_over (carries_unit flow n) (spans (arc_at line n) v) left);
      }

pub flow_from_rest : (line : Network) (flow : Flow) (n : ℕ) (idle : List ℕ) → IsNetwork line → (places_of line < 2 → flow.units ≡ 0) → length flow.accepted ≡ length line.arcs → n ≡ length line.arcs → HasRest line flow n idle → IsFlow line (flow_of flow.accepted idle flow.units)
flow_from_rest line flow n idle network no_gap rows all rest =
    flow_from_crosses line (flow_of flow.accepted idle flow.units) network (record {
      sized = record { rows = rows; gaps = rest.size };
      crosses = λ gap h. let same = ap (λ (m : ℕ). sum_below m (crosses line flow gap)) all in omega (arith, rest.each gap (omega arith), same);
      no_gap = no_gap;
    })
