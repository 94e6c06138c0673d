use Rattle.std.proofs.Common.{◌∙◌, ap}
use Rattle.bx_line_world.specs.declared.line.Line.{Line}
use Rattle.bx_far_commands.proofs.LineRuns.{to_moment}
use Rattle.bx_far_commands.proofs.by_line.run_over_wire.Goals as goal

pub returns : goal.returns
returns g c =
    let old = c.new-world.result in
    to_moment g.W.Wire.did g.row.H.Denot g.F.Write.contents c.args.wire c.args.schedule c.args.turns c.args.far c.run_seen-seen.new.far c.args.view.file c.args.view.first c.moment.result c.run_seen-seen.result.is_whole old c.run_seen-seen.result.world
    (ap (λ (l : Line _). l.wire) c.new-world.ensures.line ∙ c.new.ensures.wire) c.new-world.ensures.schedule (ap (λ r. r.disk) c.new-world.ensures.kept) (ap (λ (l : Line _). l.end.network) c.new-world.ensures.line ∙ c.new.ensures.side) (ap (λ (l : Line _). l.post) c.new-world.ensures.line ∙ c.new.ensures.post)
    c.run_seen-seen.ensures c.moment.ensures.value
