-- The line of counts is within the limits of a line.
use Rattle.std.proofs.Common.{◌≡◌, ℕ, ◌-◌, ◌<◌, ◌≤◌, List, length, get_or, arith, inl, inr}
use Rattle.std.specs.List.Sorted.{IsStrictlyIncreasing}
use Rattle.std.proofs.lemmas.Bool.{cases_lt}
use Rattle.std.proofs.lemmas.Bool.Decides.{nat_tests}
use Rattle.std.proofs.lemmas.List.{get_or_past}
use Rattle.bx_line.specs.declared.arc.Arc.{Arc}
use Rattle.bx_line.specs.Network.{Network, IsNetwork, IsArc, network_of, places_of, arc_at}
use Rattle.bx_line.specs.Cliques.{AreCliques, AreCounted, counted_arc, count_places, shorter_places}
use Rattle.bx_line.proofs.CliquesRise.{few_below, counts_rise, rows_rise}

last_enough : (last : ℕ) → last < count_places last
last_enough last = grind (arith, nat_tests)

last_two : (last : ℕ) → 2 ≤ count_places last
last_two last = grind (arith, nat_tests)

last_few : (last : ℕ) → last < 32000 → count_places last ≤ 32000
last_few last h = grind (arith, nat_tests)

pub some_places : (counts : List ℕ) → 0 < length counts → shorter_places counts ≡ count_places (get_or counts (length counts - 1) 0)
some_places counts h = grind (arith, nat_tests)

pub no_places : (counts : List ℕ) → length counts ≡ 0 → shorter_places counts ≡ 0
no_places counts h = grind (arith, nat_tests)

two_places : (counts : List ℕ) → 0 < length counts → 2 ≤ shorter_places counts
two_places counts h = omega (arith, some_places counts h, last_two (get_or counts (length counts - 1) 0))

module _ (line : Network) (counts : List ℕ) (network : IsNetwork line) (cliques : AreCliques line counts) where
  -- no count is beyond the places
  pub count_few : (v : ℕ) → get_or counts v 0 < 32000
  count_few v =
      elim (cases_lt v (places_of line)) [
        | inl h ↦ omega (arith, cliques.each v h, few_below line v, network.few_places)
        | inr h ↦ omega (arith, get_or_past counts v 0 (omega (arith, cliques.one_each)))
      ]

  pub count_within : (v : ℕ) → v < places_of line → get_or counts v 0 < shorter_places counts
  count_within v h =
      let last = length counts - 1 in
      omega (arith, counts_rise line counts cliques v last (omega (arith, cliques.one_each)) (omega (arith, cliques.one_each)), some_places counts (omega (arith, cliques.one_each)), last_enough (get_or counts last 0))

  places_few : shorter_places counts ≤ 32000
  places_few =
      elim (cases_lt 0 (length counts)) [
        | inl h ↦ omega (arith, some_places counts h, last_few (get_or counts (length counts - 1) 0) (count_few (length counts - 1)))
        | inr h ↦ omega (arith, no_places counts (omega arith))
      ]

  places_two : 0 < shorter_places counts → 2 ≤ shorter_places counts
  places_two some =
      elim (cases_lt 0 (length counts)) [
        | inl h ↦ two_places counts h
        | inr h ↦ absurd (omega (arith, some, no_places counts (omega arith)))
      ]

  -- an arc between counts
  counted_in_limits : (i : ℕ) → i < length line.arcs → IsArc (shorter_places counts) (counted_arc counts (arc_at line i))
  counted_in_limits i h =
      let arc = network.arcs i h in
      record {
        rising = rows_rise line counts cliques i network h;
        within = count_within (arc_at line i).to arc.within;
        some_pay = arc.some_pay;
        pay_limit = arc.pay_limit;
      }

  pub shortened_in_limits : (moments : List ℕ) (arcs : List Arc) → IsStrictlyIncreasing moments → length moments ≡ shorter_places counts → ((k : ℕ) → k < length moments → get_or moments k 0 ≡ k) → AreCounted counts line.arcs arcs → IsNetwork (network_of moments arcs)
  shortened_in_limits moments arcs rising size each counted =
      record {
        few_places = omega (arith, size, places_few);
        two_ends = λ some. omega (arith, size, places_two (omega (arith, size, some)));
        few_rows = omega (arith, counted.one_each, network.few_rows);
        rising = rising;
        in_day = λ v h. omega (arith, each v h, h, size, places_few);
        arcs = λ i h. let b : i < length line.arcs = omega (arith, counted.one_each) in rw (size, counted.each i b) (counted_in_limits i b);
      }
