use Rattle.std.proofs.Common.{[], refl}
use Rattle.bx_lapd.specs.Table.{elapse}
use Rattle.bx_line_world.specs.Lines.{Elapsed}
use Rattle.bx_line_world.proofs.Stepping.{served_by}
use Rattle.bx_line_world.proofs.line.Line.elapse.Goals as goal

pub returns : goal.returns
returns g c =
    let o = c.args.self.now in
    let b = c.look.new.self in (
      b.shown,
      served_by g.met.W.Wire.did_more o o b c.carry_out.new.self c.elapse-done.new.self c.elapse-done.result (Elapsed b.shown) [] (λ e t. elapse e.link t) c.now-now.result
          refl (g.met.W.Wire.did_nothing o.wire) c.look.ensures c.now-now.ensures.now refl refl refl refl tt c.elapse-done.ensures.step c.elapse-done.ensures.stays.0 c.carry_out.ensures,
    )
