use Rattle.std.proofs.Common.{◌≡◌, ◌≤◌, max}
use Rattle.bx_link.specs.Runs.{Between}
use Rattle.bx_link.specs.Running.{FarRuns}
use Rattle.bx_link.proofs.running.run_far_live.Given as goal

abbrev pub invariant-loop-second : goal.invariant-loop-second
invariant-loop-second g l = record {
  moment : l.far.moment ≡ l._second;
  within : l.end ≤ 300000;
  reached : l._second ≤ max l.fn.far.moment l.end;
  so_far : FarRuns g.W.World.did l.fn.world l.world (Between l.fn.far) (Between l.far);
}
