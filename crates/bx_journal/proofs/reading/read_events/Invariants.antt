use Rattle.std.proofs.Common.{◌≡◌, ◌≤◌, ◌-◌}
use Rattle.bx_devices.specs.Watching.{device_of, is_faulted}
use Rattle.bx_journal.specs.Taking.{TakesEvents}
use Rattle.bx_journal.proofs.reading.read_events.Given as goal

abbrev pub invariant-loop-version : goal.invariant-loop-version
invariant-loop-version g l = record {
  so_far : TakesEvents g.F.Follower.followed l.fn.follower l.follower l.version l.first l.n (g.R.Read.remaining (device_of l.fn.device)) (g.R.Read.remaining (device_of l.device)) l.fn.pieces l.pieces;
  early : l.n ≤ l.pieces.taken;
  unfaulted : is_faulted l.device ≡ is_faulted l.fn.device;
}

abbrev pub decreases-loop-version : goal.decreases-loop-version
decreases-loop-version g l = 18446744073709551615 - l.pieces.taken
