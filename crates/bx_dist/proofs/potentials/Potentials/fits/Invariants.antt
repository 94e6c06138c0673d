use Rattle.std.proofs.Common.{ℕ, ◌+◌, ◌<◌}
use Rattle.bx_dist.specs.Inside.{RowFits, GapFits}
use Rattle.bx_dist.proofs.potentials.Potentials.fits.Given as goal

abbrev pub invariant-loop-i : goal.invariant-loop-i
invariant-loop-i l = (k : ℕ) → k < l.i → RowFits l.line l.carried l.self (k + 1)

abbrev pub invariant-loop-v : goal.invariant-loop-v
invariant-loop-v l = (k : ℕ) → k + 1 < l.v → GapFits l.carried l.self k
