use Rattle.std.proofs.Common.{◌≡◌, ◌≤◌, List}
use Rattle.bx_events.specs.Events.{Event}
use Rattle.bx_frames.specs.Courses.{ticks_of}
use Rattle.bx_frames.specs.Talks.{turn_in}
use Rattle.bx_frames.proofs.Composing.{SoFar}
use Rattle.bx_frames.proofs.turn.hear_turn.Given as goal

abbrev pub invariant-loop-octets : goal.invariant-loop-octets
invariant-loop-octets g l = record {
  within : l.room ≤ 64;
  events : List Event;
  heard : SoFar g.L.Course.next g.L.Course.text (turn_in l.receiver l.moment 64) (turn_in l.receiver l.moment l.room) g.R.Read.remaining g.W.Write.contents l.fn.reader l.reader l.fn.writer l.writer (g.E.End.day l.fn.end) (g.E.End.day l.end) events;
  ticks : ticks_of events ≡ 0;
  kept : g.E.End.kept l.fn.end events l.end;
}

abbrev pub decreases-loop-octets : goal.decreases-loop-octets
decreases-loop-octets g l = l.room
