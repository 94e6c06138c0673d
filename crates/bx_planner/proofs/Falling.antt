-- Heights that fit the residual network without the arcs of must rows: what they fall by in a gap.
use Rattle.std.proofs.Common.{◌≡◌, ℕ, ◌-◌, ◌<◌, ◌≤◌, List, arith}
use Rattle.std.specs.Prelude.{ℤ, pos, neg_ℤ, ◌+ℤ◌, ◌≤ℤ◌}
use Rattle.std.proofs.lemmas.Int.{ints}
use Rattle.bx_base.specs.Sums.{sum_below}
use Rattle.bx_base.proofs.SumLemmas.{sum_below-term}
use Rattle.bx_line.specs.Network.{Network, IsNetwork, places_of, gaps_of}
use Rattle.bx_line.specs.Flows.{Flow}
use Rattle.bx_dist.specs.Residual.{Fits, height_at}
use Rattle.bx_dist.specs.declared.part.Part.TheVariants.{Free}
use Rattle.bx_flow.proofs.Certificate.{before, price_of}

falls_at_most : (first last : ℤ) (fall most : ℕ) → first ≤ℤ pos 0 → neg_ℤ (pos most) ≤ℤ last → first ≡ (last +ℤ pos fall) → fall ≤ most
falls_at_most first last fall most p q e = omega (arith, ints)

module _ (line : Network) (flow : Flow) (heights : List ℤ) (network : IsNetwork line) (fits : Fits Free line flow heights) where
  -- all falls together, and so each, come to no more than the depth of the last place
  pub price_at_most : (most : ℕ) → height_at heights 0 ≤ℤ pos 0 → neg_ℤ (pos most) ≤ℤ height_at heights (places_of line - 1) → (v : ℕ) → v < gaps_of line → price_of heights v ≤ most
  price_at_most most first deep v h =
      let whole = falls_at_most (height_at heights 0) (height_at heights (places_of line - 1)) (sum_below (gaps_of line) (price_of heights)) most first deep (before Free line flow heights network fits (places_of line - 1) (omega arith)) in
      omega (arith, whole, sum_below-term (gaps_of line) (price_of heights) v h)
