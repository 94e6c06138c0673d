use Rattle.std.proofs.Common.{[], ◌∷◌, refl, sym, subst, is_ok, inl}
use Rattle.std.proofs.lemmas.List.{append-nil}
use Rattle.bx_frames.specs.Frames.{message_frame}
use Rattle.bx_line_world.specs.Steps.{GivesWhere}
use Rattle.bx_line_world.proofs.Stepping.{one_given}
use Rattle.bx_line_world.proofs.line_world.LineWorldWorld.write_message.Goals as goal

pub returns : goal.returns
returns g c =
    let m = c.args.message.now in
    let o = c.args.self.now.line in
    let done = is_ok c.give.result in
    let gives = subst (λ x. GivesWhere g.W.Wire.did x done o c.give.new.self) c.copied.ensures c.give.ensures in
    record {
      logged = refl;
      schedule = refl;
      line = record { messages = m ∷ []; text = inl (sym (append-nil (message_frame m.items))); gives = one_given m done o c.give.new.self gives };
      second = (refl, refl);
    }
