use Rattle.std.proofs.Common.{◌≡◌, List, map, take}
use Rattle.bx_events.specs.Events.{LiveEvent}
use Rattle.bx_journal.specs.declared.head.Head.{Head}
use Rattle.bx_journal.specs.Disk.{LeavesOnly}
use Rattle.bx_events.specs.Told.{live_event_of}
use Rattle.bx_journal.specs.Logging.{IsSettled, IsPending, IsPrefix}
use Rattle.bx_journal.proofs.logging.log_events.Given as goal

abbrev pub invariant-loop-event : goal.invariant-loop-event
invariant-loop-event g l = record {
  written : (head : Head) (before : List LiveEvent) → IsSettled g.D.Disk.holds g.D.Disk.may_leave l.fn.disk head before → IsPending g.D.Disk.holds g.D.Disk.may_leave l.disk head before (take l.event-index (map live_event_of l.events));
  left : (head : Head) (before : List LiveEvent) → IsSettled g.D.Disk.holds g.D.Disk.may_leave l.fn.disk head before → LeavesOnly g.D.Disk.moment g.D.Disk.left_since l.fn.disk l.disk (IsPrefix head before (map live_event_of l.events));
  unfailed : g.D.Disk.has_failed l.disk ≡ g.D.Disk.has_failed l.fn.disk;
}
