-- A row runs at the moment of a place just where its arc spans the gap after the place.
use Rattle.std.proofs.Common.{◌≡◌, ℕ, ◌<◌, ◌≤◌, cond, ◌&&◌, ltb, leb, List, length, get_or, refl, sym, ◌∙◌, ap, arith, inl, inr}
use Rattle.std.proofs.lemmas.Bool.{cases_lt}
use Rattle.std.proofs.lemmas.Bool.Decides.{nat_tests}
use Rattle.std.proofs.lemmas.List.Kept.{AllPairs-from_increasing}
use Rattle.bx_base.specs.Sums.{sum_below}
use Rattle.bx_base.proofs.SumLemmas.{sum_below-same}
use Rattle.bx_base.specs.Bookings.{Row, row_at, is_running}
use Rattle.bx_colour.specs.Colouring.{is_in, running_at}
use Rattle.bx_colour.proofs.RunningLemmas.{room_from_starts}
use Rattle.bx_line.specs.Network.{Network, IsNetwork, AreArcsOf, places_of, arc_at, spans}
use Rattle.bx_line.specs.Flows.{Flow, carries_unit, crossing_at, CrossesEachGap}
use Rattle.bx_line.proofs.MomentLemmas.{never_falls}

pub same_tests : (a v s m e to : ℕ) → (a ≤ v → s ≤ m) → (v < a → m < s) → (v < to → m < e) → (to ≤ v → e ≤ m) → (leb s m && ltb m e) ≡ (leb a v && ltb v to)
same_tests a v s m e to p q r t =
    elim (cases_lt v a) [
      | inl h ↦ (let x = q h in grind (arith, nat_tests))
      | inr h ↦ (let x = p h in elim (cases_lt v to) [ inl k ↦ (let y = r k in grind (arith, nat_tests)) | inr k ↦ (let y = t k in grind (arith, nat_tests)) ])
    ]

module _ (rows : List Row) (line : Network) (network : IsNetwork line) (arcs : AreArcsOf line.moments rows line.arcs) where
  pub runs_where_spans : (i v : ℕ) → i < length rows → v < places_of line → is_running (row_at rows i) (get_or line.moments v 0) ≡ spans (arc_at line i) v
  runs_where_spans i v h b =
      let arc = arc_at line i in
      let a = arcs.each i h in
      let rising = AllPairs-from_increasing line.moments network.rising in
      same_tests arc.from v (row_at rows i).start (get_or line.moments v 0) (row_at rows i).end arc.to
      (λ k. let x = never_falls line.moments network.rising arc.from v k b in omega (arith, x, a.from))
      (λ k. let x = rising v arc.from 0 k a.from_within in omega (arith, x, a.from))
      (λ k. let x = rising v arc.to 0 k a.to_within in omega (arith, x, a.to))
      (λ k. let x = never_falls line.moments network.rising arc.to v k b in omega (arith, x, a.to))

  -- the marked rows that run at the moment of a place are those that cross the gap after it
  pub running_crosses : (flow : Flow) (v : ℕ) → v < places_of line → running_at rows flow.accepted (get_or line.moments v 0) ≡ crossing_at line flow v
  running_crosses flow v b =
      let same = sum_below-same (length rows) (λ i. cond (is_in flow.accepted i && is_running (row_at rows i) (get_or line.moments v 0)) 1 0) (λ i. cond (carries_unit flow i && spans (arc_at line i) v) 1 0) (λ i h. rw (runs_where_spans i v h b) refl) in
      same ∙ ap (λ (n : ℕ). sum_below n (λ i. cond (carries_unit flow i && spans (arc_at line i) v) 1 0)) (sym arcs.one_each)

  -- a flow of no more units than channels has room for its rows at each moment
  pub flow_has_room : (flow : Flow) → CrossesEachGap line flow → (count : ℕ) → (0 < places_of line → flow.units ≤ count) → (t : ℕ) → running_at rows flow.accepted t ≤ count
  flow_has_room flow crosses count few t =
      room_from_starts rows flow.accepted count (λ k h a.
      let arc = network.arcs k (omega (arith, h, arcs.one_each)) in
      let place = arcs.each k h in
      let v = (arc_at line k).from in
      let here = running_crosses flow v place.from_within in
      let all = crosses.crosses v (omega (arith, arc.rising, arc.within)) in
      let enough = few (omega (arith, place.from_within)) in
      let moved = ap (λ (m : ℕ). running_at rows flow.accepted m) place.from in
      omega (arith, here, all, enough, moved)) t
