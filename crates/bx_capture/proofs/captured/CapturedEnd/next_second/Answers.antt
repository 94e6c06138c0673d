use Rattle.std.proofs.Common.{refl}
use Rattle.bx_capture.proofs.Taking.{tick_kept}
use Rattle.bx_capture.proofs.captured.CapturedEnd.next_second.Goals as goal

pub returns-clause-kept : goal.returns-clause-kept
returns-clause-kept g c =
    let sent = c.next_second-sent.ensures in (
      sent.kept,
      record {
        day = sent.day;
        stays = refl;
        kept = tick_kept g.L.Course.next g.L.Course.sent g.L.Course.moment_of g.L.Course.turn_of g.W.Write.contents c.args.self.now.file c.keep_sent.new.file c.args.self.now.first (g.E.End.day c.args.self.now.end)
            (g.E.End.day c.next_second-sent.new.self) c.reached.result sent.day c.reached.ensures.value sent.sent (rw c.deref.ensures.0 at c.keep_sent.ensures);
      },
    )
