use Rattle.std.proofs.Common.{◌≡◌, ℕ, ◌+◌, ◌<◌}
use Rattle.bx_line.specs.Flows.{idle_at, crossing_at}
use Rattle.bx_dist.proofs.carried.Carried.belongs_to.Given as goal

abbrev pub invariant-loop-gap : goal.invariant-loop-gap
invariant-loop-gap l = (v : ℕ) → v + 1 < l.gap → idle_at l.self v + crossing_at l.line l.self v ≡ l.self.units
