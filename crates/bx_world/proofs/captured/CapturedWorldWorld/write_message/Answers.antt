use Rattle.std.proofs.Common.{[], ◌∷◌, ◌+◌, inl, refl, sym, subst, append-nil}
use Rattle.bx_capture.specs.Captures.{packet_sent, Keeps}
use Rattle.bx_world.proofs.captured.CapturedWorldWorld.write_message.Goals as goal

pub returns : goal.returns
returns g c =
    let m = c.args.message.now in
    let old = c.args.self.now in
    let kept = subst (Keeps g.F.Write.contents old.file c.keep.new.file) (sym (append-nil (packet_sent (old.first + old.second) m))) c.keep.ensures in
    (c.write_message.ensures, record { file = (m ∷ [], inl (m, refl, refl), kept); second = refl; first = refl })
