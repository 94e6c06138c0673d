use Rattle.std.proofs.Common.{refl}
use Rattle.bx_capture.proofs.Taking.{heard_kept}
use Rattle.bx_capture.proofs.captured.CapturedEnd.hear.Goals as goal

pub returns-clause-kept : goal.returns-clause-kept
returns-clause-kept g c =
    let first = c.args.self.now.first in
    let reply = c.hear-reply.ensures in (
      reply.kept,
      record {
        day = reply.day;
        stays = refl;
        kept = heard_kept g.L.Course.next g.L.Course.sent g.L.Course.moment_of g.L.Course.turn_of g.W.Write.contents c.args.self.now.file c.keep.new.file c.keep_reply.new.file first (g.E.End.day c.args.self.now.end)
            c.args.message.now.items c.turn.result c.turn.ensures.value reply.sent c.keep.ensures c.keep_reply.ensures;
      },
    )
