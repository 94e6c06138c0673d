use Rattle.std.proofs.Common.{arith}
use Rattle.bx_planner.proofs.Chosen.{falls_small, chosen_marks}
use Rattle.bx_planner.proofs.choice.choice_of.Goals as goal

pub prices_of-requires : goal.prices_of-requires
prices_of-requires c = falls_small c.args.bookings.now c.args.line.now c.args.carried.now c.args.lengths.now c.args.count c.len-rows.ensures.bookings c.places-places.ensures.limits c.requires.arcs c.requires.least c.requires.units c.requires.distances c.requires.depth

pub returns-clause-best : goal.returns-clause-best
returns-clause-best c =
    let rows = c.len-rows.ensures.count in
    rw c.in_ok-prices.ensures (chosen_marks c.args.bookings.now c.args.line.now c.args.carried.now c.args.lengths.now c.args.count c.len-rows.ensures.bookings c.places-places.ensures.limits c.requires.arcs c.requires.least c.requires.units c.requires.distances c.requires.moments c.requires.room c.requires.depth c.in_ok-accepted.accepted.items (omega (arith, c.in_ok-accepted.ensures.one_each, rows, c.len.ensures.count)) (λ i h. c.in_ok-accepted.ensures.each i (omega (arith, h, rows, c.len.ensures.count))))
