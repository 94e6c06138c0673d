use Rattle.std.proofs.Common.{sym, ap, inl, inr, arith}
use Rattle.bx_base.specs.Bookings.{Row}
use Rattle.bx_line.proofs.arcs.arcs_of.Goals as goal

pub arc_between-requires-clause-start : goal.arc_between-requires-clause-start
arc_between-requires-clause-start c =
    (c.requires.just c.nth.result.start).1 (c.loop-i.i, omega arith, inl (ap (λ (r : Row). r.start) (sym c.nth.ensures.value)))

pub arc_between-requires-clause-end : goal.arc_between-requires-clause-end
arc_between-requires-clause-end c =
    (c.requires.just c.nth.result.end).1 (c.loop-i.i, omega arith, inr (ap (λ (r : Row). r.end) (sym c.nth.ensures.value)))
