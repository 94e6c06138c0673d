use Rattle.std.proofs.Common.{refl}
use Rattle.bx_capture.proofs.Taking.{quiet_kept}
use Rattle.bx_capture.proofs.captured.CapturedEnd.skip_quiet_second.Goals as goal

pub returns-clause-kept : goal.returns-clause-kept
returns-clause-kept g c = λ quiet.
    let e = c.skip_quiet_second.ensures in (
      e.kept quiet,
      record {
        day = e.day quiet;
        stays = refl;
        kept = quiet_kept g.L.Course.next g.L.Course.sent g.L.Course.moment_of g.L.Course.turn_of g.W.Write.contents c.args.self.now.file c.args.self.now.first (g.E.End.day c.args.self.now.end) (e.sent quiet);
      },
    )
