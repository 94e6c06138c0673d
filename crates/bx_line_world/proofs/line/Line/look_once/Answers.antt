use Rattle.std.proofs.Common.{sym, ◌∙◌}
use Rattle.bx_line_world.proofs.line.Line.look_once.Goals as goal

pub returns : goal.returns
returns g c = (
  c.wait-came.ensures.0,
  record {
    between = c.elapse.new.self;
    shown = c.elapse.ensures.0;
    timed = c.elapse.ensures.1;
    goes_on = sym c.is_look_over.ensures ∙ c.if-is_look_over.false;
    asked = c.ask_end.new.self;
    asks = c.ask_end.ensures;
    is_wait = c.wait-came.ensures.1;
    waited = c.wait-came.ensures.2;
  },
)
