use Rattle.std.proofs.Common.{ap, refl}
use Rattle.bx_line_world.specs.declared.post.Post.{Post}
use Rattle.bx_line_world.proofs.line.Line.next.Goals as goal

pub returns-in-Some-take_first : goal.returns-in-Some-take_first
returns-in-Some-take_first g c =
    let w = c.serve.new.self in
    let e = c.in-Some-take_first.ensures in
    record { waited = w; served = c.serve.ensures; answers = (c.in-None.is, e.0, e.1, e.2, ap (λ (p : Post). record w { post = p }) e.3) }

pub returns-in-None-take_first : goal.returns-in-None-take_first
returns-in-None-take_first g c =
    let w = c.serve.new.self in
    let e = c.in-None-take_first.ensures in
    record { waited = w; served = c.serve.ensures; answers = (c.in-None.is, e.0, refl, ap (λ (p : Post). record w { post = p }) e.1) }
