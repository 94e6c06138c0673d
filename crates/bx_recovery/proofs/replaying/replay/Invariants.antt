use Rattle.std.proofs.Common.{◌≡◌, map, take}
use Rattle.bx_day.specs.Day.{opening}
use Rattle.bx_day.specs.Run.{day_after, sent_over}
use Rattle.bx_calls.specs.Sending.{spelled}
use Rattle.bx_events.specs.Told.{event_of}
use Rattle.bx_recovery.proofs.replaying.replay.Given as goal

abbrev pub invariant-loop-event : goal.invariant-loop-event
invariant-loop-event l = record {
  day : l.exchange ≡ day_after (take l.event-index (map event_of l.events)) (opening l.plan.bookings l.plan.assigned.items);
  sent : l.sent.items ≡ spelled (sent_over (take l.event-index (map event_of l.events)) (opening l.plan.bookings l.plan.assigned.items));
}
