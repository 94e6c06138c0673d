use Rattle.bx_line.proofs.CliqueLemmas.{IsSwept}
use Rattle.bx_line.proofs.line.Line.cliques.Given as goal

abbrev pub invariant-loop-place : goal.invariant-loop-place
invariant-loop-place l = IsSwept l.self l.place l.ended l.has_started l.counts.items
