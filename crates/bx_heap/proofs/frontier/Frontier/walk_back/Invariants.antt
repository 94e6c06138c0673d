use Rattle.std.proofs.Common.{◌<◌, get_or, reverse}
use Rattle.bx_line.specs.Network.{places_of}
use Rattle.bx_heap.specs.Searching.{state_from, IsTrail}
use Rattle.bx_heap.proofs.frontier.Frontier.walk_back.Given as goal

abbrev pub invariant-loop-place : goal.invariant-loop-place
invariant-loop-place l =
    record { within : l.place < places_of l.line; trail : IsTrail l.line (state_from l.self) l.place (reverse l.walk.items) }

abbrev pub decreases-loop-place : goal.decreases-loop-place
decreases-loop-place l = get_or l.self.ranks.items l.place 0
