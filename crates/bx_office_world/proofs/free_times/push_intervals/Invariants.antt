use Rattle.std.proofs.Common.{◌≤◌, length}
use Rattle.bx_office_world.proofs.FreeIntervals.{marked, SoFar}
use Rattle.bx_office_world.proofs.free_times.push_intervals.Given as goal

abbrev pub invariant-loop-interval : goal.invariant-loop-interval
invariant-loop-interval l = record {
  within : l.rest ≤ length l.marks;
  told : SoFar l.clock (marked l.marks) l.fn.text.items l.text.items l._interval l.rest;
}
