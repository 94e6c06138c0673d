-- The events of the code, without where their octets lie in memory.
use Rattle.bx_events.specs.Events.{Event, Tick, Receive, LiveEvent, OnLink, WithoutLink, Amended, HeardByRulesTwo}
use Rattle.bx_events.specs.declared.event.Event.TheVariants as rust
use Rattle.bx_events.specs.declared.event.Event as rust_event
use Rattle.bx_events.specs.declared.event.LiveEvent.TheVariants as rust_live
use Rattle.bx_events.specs.declared.event.LiveEvent as rust_live_event

abbrev pub event_of : rust_event.Event → Event
event_of rust.Tick = Tick
event_of (rust.Receive octets) = Receive octets.now

abbrev pub live_event_of : rust_live_event.LiveEvent → LiveEvent
live_event_of (rust_live.OnLink event) = OnLink (event_of event)
live_event_of (rust_live.WithoutLink rules) = WithoutLink rules
live_event_of (rust_live.Amended kind line) = Amended kind line.now
live_event_of (rust_live.HeardByRulesTwo octets) = HeardByRulesTwo octets.now
