use Rattle.bx_dist.proofs.Resting.{HasRest}
use Rattle.bx_dist.proofs.carried.Carried.along.Given as goal

abbrev pub invariant-loop-row : goal.invariant-loop-row
invariant-loop-row l = HasRest l.line l.self l.row l.idle.items
