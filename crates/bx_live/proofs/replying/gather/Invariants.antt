use Rattle.std.proofs.Common.{◌≡◌, ◌≤◌, ◌+◌, [], length}
use Rattle.bx_live.specs.Runs.{Receiving, replying}
use Rattle.bx_live.specs.Running.{RunsInside}
use Rattle.bx_live.specs.Inside.{texts_of}
use Rattle.bx_live.proofs.replying.gather.Given as goal

abbrev pub invariant-loop-left : goal.invariant-loop-left
invariant-loop-left g l = record {
  fewer : l.left ≤ l.room;
  few : length l.replies.items + l.left ≤ 64;
  moment : l.exchange.moment ≡ l.fn.exchange.moment;
  so_far : RunsInside g.W.World.did l.fn.world l.world (Receiving l.fn.exchange l.room [] l.first.items) (replying l.exchange (texts_of l.replies.items) l.left);
}

abbrev pub decreases-loop-left : goal.decreases-loop-left
decreases-loop-left g l = l.left
