use Rattle.std.proofs.Common.{sym, subst}
use Rattle.bx_line_world.specs.Serving.{GivesMessage}
use Rattle.bx_line_world.proofs.Stepping.{given_more, refused_at}
use Rattle.bx_line_world.proofs.line.Line.give_all.Goals as goal

pub loop-message-preserved : goal.loop-message-preserved
loop-message-preserved g c =
    let l = c.loop-message in
    let given = subst (λ m. GivesMessage g.W.Wire.did l.self m c.give.new.self) c.copied.ensures c.in-Ok.ensures in
    given_more c.args.self.now c.args.messages.now l.message-index c.message-item.result l.self c.give.new.self c.loop-message-test.true (sym c.message-item.is) l.invariant given

pub returns-in-Err : goal.returns-in-Err
returns-in-Err g c =
    let l = c.loop-message in
    refused_at c.args.self.now c.args.messages.now l.message-index l.self c.give.new.self l.invariant c.in-Err.ensures
