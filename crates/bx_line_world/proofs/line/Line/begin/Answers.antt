use Rattle.std.proofs.Common.{ap}
use Rattle.bx_line_world.specs.declared.post.Post.{Post}
use Rattle.bx_line_world.proofs.line.Line.begin.Goals as goal

pub returns : goal.returns
returns g c =
    let seen = c.begun-begin.new.self in
    record { asked = c.ask.new.self; asks = c.ask.ensures; waited = c.serve.new.self; served = c.serve.ensures; seen = seen; begun = c.begun-begin.ensures; line = ap (λ (p : Post). record seen { post = p }) c.begin.ensures }
