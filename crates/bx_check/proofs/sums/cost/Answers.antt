use Rattle.std.proofs.Common.{arith}
use Rattle.bx_check.proofs.Before.{cost_from}
use Rattle.bx_check.proofs.sums.cost.Goals as goal

pub overflow_sub-result : goal.overflow_sub-result
overflow_sub-result c =
    let whole = cost_from c.args.prices.now c.args.booking.now c.args.sums.now.items c.deref-2.result.now c.deref.result.now c.start.result c.end.result c.count_before-start.result c.count_before-end.result
    c.requires.sums c.deref-2.ensures.0 c.deref.ensures.0 c.start.ensures.value c.end.ensures.value c.start.ensures.booking.in_order
    (record { limit = c.count_before-start.ensures.limit; before = c.count_before-start.ensures.before; following = c.count_before-start.ensures.following })
    (record { limit = c.count_before-end.ensures.limit; before = c.count_before-end.ensures.before; following = c.count_before-end.ensures.following }) in
    omega (arith, whole)

pub returns : goal.returns
returns c =
    let whole = cost_from c.args.prices.now c.args.booking.now c.args.sums.now.items c.deref-2.result.now c.deref.result.now c.start.result c.end.result c.count_before-start.result c.count_before-end.result
    c.requires.sums c.deref-2.ensures.0 c.deref.ensures.0 c.start.ensures.value c.end.ensures.value c.start.ensures.booking.in_order
    (record { limit = c.count_before-start.ensures.limit; before = c.count_before-start.ensures.before; following = c.count_before-start.ensures.following })
    (record { limit = c.count_before-end.ensures.limit; before = c.count_before-end.ensures.before; following = c.count_before-end.ensures.following }) in
    omega (arith, whole)
