-- Places counted by maximal sets of rows that run together (Carlisle and Lloyd 1995: the maximal cliques of intervals). Such
-- a set is whole where a row ends after the start of another: it ends there.
use Rattle.std.proofs.Common.{zero, suc}
use Rattle.std.specs.Prelude.{◌≡◌, ℕ, ◌+◌, ◌-◌, ◌<◌, ◌==◌, ◌&&◌, ◌||◌, not, Bool, false, List, nat_lt, length, slice_index, slice_index_or, if◌then◌else◌}
use Rattle.bx_base.specs.Sums.{sum_below}
use Rattle.bx_line.specs.declared.arc.Arc.{Arc}
use Rattle.bx_line.specs.declared.incidence.Incidence.{Incidence}
use Rattle.bx_line.specs.declared.incidence.Incidence.TheVariants.{Leaving, Arriving}
use Rattle.bx_line.specs.ByPlace.{row_place}
use Rattle.bx_line.specs.Network.{Network, places_of, no_arc}

-- whether some row has its place on this side there
abbrev pub has_row : Incidence → Network → ℕ → Bool
has_row side line place = nat_lt 0 (sum_below (length line.arcs) (λ k. if row_place side line.arcs k == place then 1 else 0))

-- whether a row has started at one of the places below n, and no row has ended after it
abbrev pub is_growing : Network → ℕ → Bool
is_growing line zero = false
is_growing line (suc n) = has_row Leaving line n || (is_growing line n && not (has_row Arriving line n))

-- how many of these sets have ended at the places below n
abbrev pub cliques_below : Network → ℕ → ℕ
cliques_below line zero = 0
cliques_below line (suc n) = cliques_below line n + (if is_growing line n && has_row Arriving line n then 1 else 0)

-- for each place how many have ended by then: the place itself counts
pub record AreCliques (line : Network) (counts : List ℕ) : Type 0 where
  pub one_each : length counts ≡ places_of line
  pub each : (v : ℕ) → v < places_of line → slice_index counts v ≡ cliques_below line (v + 1)

-- an arc between the counts of its places
abbrev pub counted_arc : List ℕ → Arc → Arc
counted_arc counts arc = record { from = slice_index counts arc.from; to = slice_index counts arc.to; pay = arc.pay; must = arc.must }

-- an arc for each, between the counts of its places
pub record AreCounted (counts : List ℕ) (arcs counted : List Arc) : Type 0 where
  pub one_each : length counted ≡ length arcs
  pub each : (i : ℕ) → i < length arcs → slice_index_or counted i no_arc ≡ counted_arc counts (slice_index_or arcs i no_arc)

-- a place for each count up to the last, and two at least
abbrev pub count_places : ℕ → ℕ
count_places last = (if nat_lt 0 last then last else 1) + 1

-- how many places the line of these counts has: none where there are no counts
abbrev pub shorter_places : List ℕ → ℕ
shorter_places counts = if nat_lt 0 (length counts) then count_places (slice_index counts (length counts - 1)) else 0

-- the line that has a place for each count, in place of the moments, and the same rows between the counts of their places
pub record IsShortened (line : Network) (counts : List ℕ) (shorter : Network) : Type 0 where
  pub places : places_of shorter ≡ shorter_places counts
  pub moments : (v : ℕ) → v < places_of shorter → slice_index shorter.moments v ≡ v
  pub arcs : AreCounted counts line.arcs shorter.arcs
