use Rattle.std.proofs.Common.{◌≡◌, true, Bool, [], refl, sym, ◌∙◌, subst}
use Rattle.bx_lapd.specs.Table.{establish}
use Rattle.bx_line_world.specs.Lines.{Asked}
use Rattle.bx_line_world.specs.Serving.{AsksLink, is_idle}
use Rattle.bx_line_world.proofs.Stepping.{served_by}
use Rattle.bx_line_world.proofs.line.Line.ask.Goals as goal

pub returns-then-is_idle : goal.returns-then-is_idle
returns-then-is_idle g c =
    let o = c.args.self.now in
    let b = c.look.new.self in
    let d = c.carry_out.new.self in
    let idle : is_idle o.end.link ≡ true = sym c.is_idle.ensures ∙ c.if-is_idle.true in
    subst (λ (x : Bool). AsksLink g.W.Wire.did x o d) (sym idle) (
      b.shown,
      served_by g.met.W.Wire.did_more o o b d c.establish-done.new.self c.establish-done.result (Asked b.shown) [] (λ e t. establish e.link.state e.link t) c.now-now.result
          refl (g.met.W.Wire.did_nothing o.wire) c.look.ensures c.now-now.ensures.now refl refl refl refl tt c.establish-done.ensures.step c.establish-done.ensures.stays.0 c.carry_out.ensures,
    )
