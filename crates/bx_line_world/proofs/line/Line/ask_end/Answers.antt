use Rattle.std.proofs.Common.{◌≡◌, true, Bool, [], refl, sym, ◌∙◌, subst}
use Rattle.bx_lapd.specs.Table.{poll}
use Rattle.bx_line_world.specs.Lines.{Enquired}
use Rattle.bx_line_world.specs.Seeing.{AsksEnd, is_to_ask}
use Rattle.bx_line_world.specs.declared.line.Line.{Line}
use Rattle.bx_line_world.proofs.Stepping.{served_by}
use Rattle.bx_line_world.proofs.line.Line.ask_end.Goals as goal

pub returns-then-is_to_ask : goal.returns-then-is_to_ask
returns-then-is_to_ask g c =
    let o = c.args.self.now in
    let b = c.look.new.self in
    let d = c.carry_out.new.self in
    let ask : is_to_ask o ≡ true = sym c.is_to_ask.ensures ∙ c.if-is_to_ask.true in
    subst (λ (x : Bool). AsksEnd g.W.Wire.did x o (record d { post = record d.post { asked = true } })) (sym ask) (
      b.shown,
      d,
      served_by g.met.W.Wire.did_more o o b d c.poll-done.new.self c.poll-done.result (Enquired b.shown) [] (λ e t. poll e.link t) c.now-now.result
          refl (g.met.W.Wire.did_nothing o.wire) c.look.ensures c.now-now.ensures.now refl refl refl refl tt c.poll-done.ensures.step c.poll-done.ensures.stays.0 c.carry_out.ensures,
      refl,
    )
