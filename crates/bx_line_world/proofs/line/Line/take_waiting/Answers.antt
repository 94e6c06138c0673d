use Rattle.std.proofs.Common.{inl, refl, sym, ◌∙◌}
use Rattle.bx_line_world.proofs.Stepping.{lost_some, lost_none, taken_first}
use Rattle.bx_line_world.proofs.line.Line.take_waiting.Goals as goal

pub returns-then-is_some : goal.returns-then-is_some
returns-then-is_some g c =
    let w = c.poll.new.self in
    record { polled = w; polls = c.poll.ensures; takes = (inl (lost_some w.post.lost (sym c.is_some.ensures ∙ c.if-is_some.true)), refl) }

pub returns : goal.returns
returns g c =
    let w = c.poll.new.self in
    record { polled = w; polls = c.poll.ensures; takes = taken_first c.args.left w c.take_first.result c.take_first.new.self (lost_none w.post.lost (sym c.is_some.ensures ∙ c.if-is_some.false)) c.take_first.ensures }
