-- A flow of least cost with its distances is a best choice.
use Rattle.std.proofs.Common.{zero, suc, ◌≡◌, ℕ, ◌+◌, ◌-◌, ◌<◌, ◌≤◌, Bool, true, false, cond, List, [], length, get_or, refl, sym, ◌∙◌, arith, inl, inr}
use Rattle.std.specs.Prelude.{ℤ, pos, neg_ℤ, ◌≤ℤ◌}
use Rattle.std.specs.List.{All}
use Rattle.std.proofs.lemmas.Int.{ints}
use Rattle.std.proofs.lemmas.List.Kept.{AllPairs-from_increasing}
use Rattle.std.proofs.lemmas.Bool.{cases_lt}
use Rattle.std.proofs.lemmas.List.{ext_get_or}
use Rattle.std.proofs.lemmas.List.Elements.{Contains-get_or}
use Rattle.bx_base.specs.Bookings.{Row, row_at, AreBookings, pay_of}
use Rattle.bx_base.specs.Channels.{count_of}
use Rattle.bx_base.specs.Bound.{Charge, IsCharge}
use Rattle.bx_base.proofs.Duality.{pay-le-bound}
use Rattle.bx_colour.specs.Colouring.{is_in}
use Rattle.bx_line.specs.Moments.{IsMoment, HasJustMoments}
use Rattle.bx_line.specs.Network.{Network, IsNetwork, AreArcsOf, places_of, gaps_of, arc_at}
use Rattle.bx_line.specs.Flows.{Flow, carries_unit}
use Rattle.bx_line.proofs.Crossings.{crosses_from_flow}
use Rattle.bx_dist.specs.Residual.{height_at}
use Rattle.bx_dist.specs.Walks.{AreLeast}
use Rattle.bx_dist.specs.declared.part.Part.TheVariants.{Free}
use Rattle.bx_dist.proofs.After.{distances_fit}
use Rattle.bx_flow.specs.Costs.{IsLeastCost, free_pays}
use Rattle.bx_planner.specs.Musts.{musts_at, IsTooManyMust}
use Rattle.bx_planner.specs.Prices.{fall_at, charges}
use Rattle.bx_planner.specs.Choices.{ProvesBest, IsBest}
use Rattle.bx_planner.specs.Inside.{IsBestChoice}
use Rattle.bx_planner.proofs.Placed.{flow_has_room}
use Rattle.bx_planner.proofs.AllMusts.{all_musts, sum_of_few}
use Rattle.bx_planner.proofs.Falling.{price_at_most}
use Rattle.bx_planner.proofs.Priced.{all_charges, few_charges, charges_rise}
use Rattle.bx_planner.proofs.Exact.{bound_is_pay}
use Rattle.bx_planner.proofs.Least.{least_bound}

free_limit : (must : Bool) (pay arc : ℕ) → arc ≡ cond must (pay + 17000000000000) pay → pay ≤ 1000000000 → cond must 0 arc ≤ 1000000000
free_limit true pay arc e h = omega arith
free_limit false pay arc e h = omega (arith, e, h)

pos_order : (a b : ℕ) (whole : ℤ) → pos a ≤ℤ whole → whole ≡ pos b → a ≤ b
pos_order a b whole h e = omega (arith, ints)

-- what prices prove to be best is best
pub best_from_proof : (rows : List Row) (channels : List Bool) (prices : List Charge) (total : ℕ) → ProvesBest rows (count_of channels) prices total → IsBest rows channels total
best_from_proof rows channels prices total proof set lawful = pos_order (pay_of rows set) total _ (pay-le-bound rows channels prices set lawful) proof.exact

-- where no moment is the first with too many must rows, none has too many
pub room_from_none : (rows : List Row) (channels : List Bool) → ((t : ℕ) → IsTooManyMust rows channels t → ⊥) → (n s : ℕ) → s < n → musts_at rows s ≤ count_of channels
room_from_none rows channels none zero s h = absurd (omega arith)
room_from_none rows channels none (suc n) s h =
    elim (cases_lt s n) [
      | inl a ↦ room_from_none rows channels none n s a
      | inr a ↦ elim (cases_lt (count_of channels) (musts_at rows s)) [
        | inl b ↦ absurd (none s (record { here = b; least = λ r c. room_from_none rows channels none n r (omega arith) }))
        | inr b ↦ b
      ]
    ]

module _ (rows : List Row) (line : Network) (flow : Flow) (heights : List ℤ) (count : ℕ) (bookings : AreBookings rows) (network : IsNetwork line) (arcs : AreArcsOf line.moments rows line.arcs) (least : IsLeastCost line flow) (same : 0 < places_of line → flow.units ≡ count) (lengths : AreLeast Free line flow heights) where
  free_pays_few : free_pays line ≤ 16000000000000
  free_pays_few =
      let few = sum_of_few (length line.arcs) (λ i. cond (arc_at line i).must 0 (arc_at line i).pay) 1000000000 (λ i h.
      let b : i < length rows = omega (arith, h, arcs.one_each) in
      let a = arcs.each i b in
      rw a.must (free_limit (row_at rows i).must (row_at rows i).pay (arc_at line i).pay a.pay (bookings.each i b).pay_limit)) in
      omega (arith, few, network.few_rows)

  -- how far the heights fall at most
  abbrev Deep : Type 0
  Deep = 0 < places_of line → neg_ℤ (pos (free_pays line)) ≤ℤ height_at heights (places_of line - 1)

  pub falls_small : Deep → (v : ℕ) → v < gaps_of line → fall_at heights v ≤ 16000000000000
  falls_small deep v h =
      let some : 0 < places_of line = omega arith in
      let first = lengths.least 0 [] some refl in
      let at_most = price_at_most line flow heights network (distances_fit Free line flow heights network lengths) (free_pays line) first (deep some) v h in
      omega (arith, at_most, free_pays_few)

  in_limits : Deep → All IsCharge (charges line.moments heights (gaps_of line))
  in_limits deep = all_charges IsCharge line.moments heights (gaps_of line) (λ v h some. record {
    in_day = omega (arith, AllPairs-from_increasing line.moments network.rising v (v + 1) 0 (omega arith) (omega arith), network.in_day (v + 1) (omega arith));
    positive = omega (arith, some);
    limit = falls_small deep v h;
  })

  placed_each : HasJustMoments rows line.moments → (v : ℕ) → v < gaps_of line → IsMoment rows (get_or line.moments v 0)
  placed_each just v h = (just (get_or line.moments v 0)).0 (Contains-get_or line.moments v 0 (omega arith))

  has_musts : ((s : ℕ) → musts_at rows s ≤ count) → (i : ℕ) → i < length rows → (row_at rows i).must ≡ true → carries_unit flow i ≡ true
  has_musts room i h must =
      let some : 0 < places_of line = (let b = (arcs.each i h).from_within in omega (arith, b)) in
      all_musts rows line network bookings arcs count room some flow least (same some) i h must

  chosen : HasJustMoments rows line.moments → ((s : ℕ) → musts_at rows s ≤ count) → Deep → IsBestChoice rows count flow.accepted (charges line.moments heights (gaps_of line))
  chosen just room deep =
      let gaps = gaps_of line in
      let crosses = crosses_from_flow line flow network least.is_flow in
      let few = few_charges line.moments heights gaps in
      record {
        one_each = least.is_flow.sized.rows ∙ arcs.one_each;
        enough = flow_has_room rows line network arcs flow crosses count (λ some. let e = same some in omega (arith, e));
        musts = has_musts room;
        few = omega (arith, few, network.few_places);
        limits = in_limits deep;
        proof = record {
          list = record {
            rising = charges_rise line.moments heights network.rising gaps (omega arith);
            positive = all_charges (λ p. 1 ≤ p.amount) line.moments heights gaps (λ v h s. omega (arith, s));
          };
          placed = all_charges (λ p. IsMoment rows p.moment) line.moments heights gaps (λ v h s. placed_each just v h);
          exact = bound_is_pay rows line flow heights network arcs crosses (distances_fit Free line flow heights network lengths) count same (has_musts room);
        };
        least = least_bound rows line flow network arcs heights count bookings crosses same lengths just (flow_has_room rows line network arcs flow crosses count (λ some. let e = same some in omega (arith, e))) (has_musts room);
      }

  pub chosen_marks : HasJustMoments rows line.moments → ((s : ℕ) → musts_at rows s ≤ count) → Deep → (accepted : List Bool) → length accepted ≡ length rows → ((i : ℕ) → i < length rows → is_in accepted i ≡ carries_unit flow i) → IsBestChoice rows count accepted (charges line.moments heights (gaps_of line))
  chosen_marks just room deep accepted size each =
      let marks : accepted ≡ flow.accepted = ext_get_or false accepted flow.accepted (size ∙ (sym arcs.one_each ∙ sym least.is_flow.sized.rows)) (λ i h. each i (omega (arith, h, size))) in
      rw marks (chosen just room deep)
