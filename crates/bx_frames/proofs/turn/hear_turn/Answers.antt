use Rattle.std.proofs.Common.{◌++◌, ◌∷◌, [], ◌-◌, refl, arith}
use Rattle.std.proofs.lemmas.Result.{err_from_is_err_and}
use Rattle.bx_events.specs.Events.{Receive}
use Rattle.bx_frames.specs.Talks.{turn_in}
use Rattle.bx_frames.proofs.Composing.{nothing_yet, then_so_far}
use Rattle.bx_frames.proofs.Hearing.{message_heard, reply_failed, ended_right, ended_wrong, day_ended, frame_fault, none_ticked, turn_went}
use Rattle.bx_frames.proofs.turn.hear_turn.Goals as goal

pub loop-octets-init : goal.loop-octets-init
loop-octets-init g c = record {
  within = omega arith;
  events = [];
  heard = nothing_yet g.L.Course.next g.L.Course.text (turn_in c.args.receiver c.args.moment 64) g.R.Read.remaining g.W.Write.contents c.args.reader.now c.args.writer.now (g.E.End.day c.args.end.now);
  ticks = refl;
  kept = g.met.E.End.keeps_nothing c.args.end.now;
}

pub loop-octets-preserved : goal.loop-octets-preserved
loop-octets-preserved g c =
    let l = c.loop-octets in
    let receiver = c.args.receiver in
    let moment = c.args.moment in
    let frame = rw c.in-Message.is at c.in_ok-octets.ensures in
    let octets = c.in-Message.octets in
    let one = message_heard g.L.Course.next g.L.Course.text receiver moment l.room g.R.Read.remaining g.W.Write.contents l.reader c.read_frame.new.r l.writer (g.E.End.day l.end) octets frame.comes frame.read
    c.answer.new.writer (g.E.End.day c.answer.new.end) c.in-Ok.ensures.day c.in-Ok.ensures.written in
    record {
      within = omega (arith, l.invariant.within);
      events = l.invariant.events ++ Receive octets.items ∷ [];
      heard = then_so_far g.L.Course.next g.L.Course.text (turn_in receiver moment 64) (turn_in receiver moment l.room) g.R.Read.remaining g.W.Write.contents c.args.reader.now l.reader c.read_frame.new.r c.args.writer.now l.writer c.answer.new.writer
          (g.E.End.day c.args.end.now) (g.E.End.day l.end) (g.E.End.day c.answer.new.end) l.invariant.events (Receive octets.items ∷ []) l.invariant.heard (turn_in receiver moment (l.room - 1)) one;
      ticks = none_ticked l.invariant.events (Receive octets.items ∷ []) l.invariant.ticks refl;
      kept = g.met.E.End.keeps_on c.args.end.now l.end c.answer.new.end l.invariant.events (Receive octets.items ∷ []) l.invariant.kept c.in-Ok.ensures.kept;
    }

pub returns-in-Err-clause-went : goal.returns-in-Err-clause-went
returns-in-Err-clause-went g c =
    let l = c.loop-octets in
    let frame = rw c.in-Message.is at c.in_ok-octets.ensures in (
      turn_went c.args.receiver c.args.moment l.room l.invariant.heard l.invariant.ticks
          (reply_failed g.L.Course.next g.L.Course.text c.args.receiver c.args.moment l.room g.R.Read.remaining g.W.Write.contents l.reader c.read_frame.new.r l.writer (g.E.End.day l.end) c.in-Message.octets frame.comes frame.read
          c.answer.new.writer (g.E.End.day c.answer.new.end) c.in-Err.field-0 c.in-Err.ensures.day c.in-Err.ensures.written) refl,
      g.met.E.End.keeps_on _ _ _ _ _ l.invariant.kept c.in-Err.ensures.kept,
    )

pub returns-then-said-moment-clause-went : goal.returns-then-said-moment-clause-went
returns-then-said-moment-clause-went g c =
    let l = c.loop-octets in
    let frame = rw c.in-EndOfTurn.is at c.in_ok-octets.ensures in
    (turn_went c.args.receiver c.args.moment l.room l.invariant.heard l.invariant.ticks (ended_right c.args.moment l.room c.if-said-moment.true frame.read) refl, g.met.E.End.keeps_on _ _ _ _ _ l.invariant.kept (g.met.E.End.keeps_nothing l.end))

pub returns-else-said-moment-clause-went : goal.returns-else-said-moment-clause-went
returns-else-said-moment-clause-went g c =
    let l = c.loop-octets in
    let frame = rw c.in-EndOfTurn.is at c.in_ok-octets.ensures in
    (turn_went c.args.receiver c.args.moment l.room l.invariant.heard l.invariant.ticks (ended_wrong c.args.moment l.room c.if-said-moment.false frame.read) refl, g.met.E.End.keeps_on _ _ _ _ _ l.invariant.kept (g.met.E.End.keeps_nothing l.end))

pub returns-in-EndOfDay-clause-went : goal.returns-in-EndOfDay-clause-went
returns-in-EndOfDay-clause-went g c =
    let l = c.loop-octets in
    let frame = rw c.in-EndOfDay.is at c.in_ok-octets.ensures in
    (turn_went c.args.receiver c.args.moment l.room l.invariant.heard l.invariant.ticks (day_ended c.args.moment l.room frame.read) refl, g.met.E.End.keeps_on _ _ _ _ _ l.invariant.kept (g.met.E.End.keeps_nothing l.end))

pub returns-in_err-octets-clause-went : goal.returns-in_err-octets-clause-went
returns-in_err-octets-clause-went g c =
    let l = c.loop-octets in
    let p = err_from_is_err_and c.from_residual.result c.from_residual.ensures.1 in
    rw (p.1, p.2)
    (turn_went c.args.receiver c.args.moment l.room l.invariant.heard l.invariant.ticks (frame_fault c.args.moment l.room c.in_err-octets.ensures.read) refl, g.met.E.End.keeps_on _ _ _ _ _ l.invariant.kept (g.met.E.End.keeps_nothing l.end))
