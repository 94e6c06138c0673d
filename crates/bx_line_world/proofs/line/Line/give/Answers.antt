use Rattle.std.proofs.Common.{◌≡◌, true, rules, [], refl}
use Rattle.bx_lapd.specs.Table.{give, takes_data}
use Rattle.bx_line_world.specs.Lines.{Given}
use Rattle.bx_line_world.proofs.Stepping.{served_by}
use Rattle.bx_line_world.proofs.line.Line.give.Goals as goal

pub returns : goal.returns
returns g c =
    let o = c.args.self.now in
    let b = c.look.new.self in
    let taken : takes_data o.end.link.state o.end.link ≡ true = search rules in (
      b.shown,
      served_by g.met.W.Wire.did_more o o b c.carry_out.new.self c.give-done.new.self c.give-done.result (Given c.args.message b.shown) [] (λ e t. give e.link c.args.message t) c.now-now.result
          refl (g.met.W.Wire.did_nothing o.wire) c.look.ensures c.now-now.ensures.now refl refl refl refl taken c.give-done.ensures.step c.give-done.ensures.stays.0 c.carry_out.ensures,
    )
