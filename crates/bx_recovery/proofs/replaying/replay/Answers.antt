use Rattle.std.proofs.Common.{◌≡◌, ◌<◌, length, map, get_or, arith}
use Rattle.std.proofs.lemmas.List.{get_or-map, length-map}
use Rattle.bx_day.specs.Day.{opening}
use Rattle.bx_events.specs.Events.{Tick}
use Rattle.bx_events.specs.Told.{event_of}
use Rattle.bx_events.specs.declared.event.Event.TheVariants as rust
use Rattle.bx_recovery.proofs.Replays.{next_day, next_sent}
use Rattle.bx_recovery.proofs.replaying.replay.Goals as goal

pub loop-event-preserved : goal.loop-event-preserved
loop-event-preserved c =
    let events = c.args.events.now in
    let i = c.loop-event.event-index in
    let d = opening c.args.plan.now.bookings c.args.plan.now.assigned.items in
    let e = event_of (get_or events i rust.Tick) in
    let within : i < length (map event_of events) = omega (arith, length-map events event_of, c.loop-event-test.true) in
    let item : get_or (map event_of events) i Tick ≡ e = get_or-map event_of events i rust.Tick Tick c.loop-event-test.true in
    record {
      day = next_day (map event_of events) i e d within item c.loop-event.exchange c.happen.new.exchange c.loop-event.invariant.day c.in_ok-happen.ensures.exchange;
      sent = next_sent (map event_of events) i e d within item c.loop-event.exchange c.loop-event.sent.items c.happen.new.sent.items c.loop-event.invariant.day c.loop-event.invariant.sent c.in_ok-happen.ensures.sent;
    }
