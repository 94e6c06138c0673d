use Rattle.std.proofs.Common.{sym, subst, append-nil}
use Rattle.bx_capture.specs.Captures.{packet_sent, Keeps}
use Rattle.bx_capture.proofs.captured.keep_reply.Goals as goal

pub returns-in-Some : goal.returns-in-Some
returns-in-Some g c =
    rw c.in-Some.is (subst (Keeps g.W.Write.contents c.args.file.now c.keep.new.file) (sym (append-nil (packet_sent c.args.second c.in-Some.reply))) c.keep.ensures)
