use Rattle.std.proofs.Common.{◌≡◌, ◌<◌, ℕ, length, get_or}
use Rattle.bx_line.specs.Cliques.{counted_arc}
use Rattle.bx_line.specs.Network.{no_arc}
use Rattle.bx_line.proofs.arcs.counted_arcs.Given as goal

abbrev pub invariant-loop-arc : goal.invariant-loop-arc
invariant-loop-arc l =
    record {
      size : length l.counted.items ≡ l.arc-index;
      each : (i : ℕ) → i < l.arc-index → get_or l.counted.items i no_arc ≡ counted_arc l.counts (get_or l.arcs i no_arc);
    }
