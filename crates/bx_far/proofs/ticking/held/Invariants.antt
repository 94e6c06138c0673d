use Rattle.std.proofs.Common.{◌≡◌, drop}
use Rattle.bx_far.specs.FarDay.{with_held}
use Rattle.bx_far.specs.Seats.{live_calls}
use Rattle.bx_far.proofs.Passing.{IsFreeBelow}
use Rattle.bx_far.proofs.ticking.held.Given as goal

abbrev pub invariant-loop-i : goal.invariant-loop-i
invariant-loop-i l = record {
  held : with_held (live_calls (drop l.i l.calls)) l.taken ≡ with_held (live_calls l.calls) l.fn.maintenance;
  free : IsFreeBelow l.i l.calls l.taken;
}
