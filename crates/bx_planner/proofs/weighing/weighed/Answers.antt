use Rattle.std.proofs.Common.{◌∙◌, ap, List, arith, refl}
use Rattle.bx_base.specs.Bound.{Charge, cost_of}
use Rattle.bx_base.specs.PlanParts.{parts_of}
use Rattle.bx_planner.proofs.Quoted.{named_as, enough, quote_is}
use Rattle.bx_planner.proofs.weighing.weighed.Goals as goal

pub overflow_sub-threshold : goal.overflow_sub-threshold
overflow_sub-threshold c =
    let more = enough (parts_of c.args.earlier.now) (parts_of c.in_ok-best.best) c.args.rows.now c.args.index c.requires.settled c.requires.marked c.in_ok-best.ensures c.nth-booking.result c.nth-booking.ensures.value in
    omega (arith, more, c.pay.ensures.value)

pub returns : goal.returns
returns c =
    let plan = parts_of c.args.earlier.now in
    let best = parts_of c.in_ok-best.best in
    quote_is plan best c.args.rows.now c.args.index c.requires.settled c.requires.marked c.in_ok-best.ensures c.nth-booking.result _ (record {
      booking_is = c.nth-booking.ensures.value;
      threshold_is = rw c.pay.ensures.value refl;
      cost_is = c.cost-cost.ensures ∙ ap (λ (prices : List Charge). cost_of prices c.nth-booking.result) c.deref-2.ensures.value;
      instead_is = named_as c.deref-3.result.now c.deref-4.result.now plan.assigned best.assigned c.args.index c.len.result _ c.in_ok-instead.instead.items c.in_ok-instead.ensures c.deref-3.ensures.value c.deref-4.ensures.value c.len.ensures.count;
      besides_is = named_as c.deref-5.result.now c.deref-6.result.now best.assigned plan.assigned c.args.index c.len-2.result _ c.in_ok-besides.besides.items c.in_ok-besides.ensures c.deref-5.ensures.value c.deref-6.ensures.value c.len-2.ensures.count;
    })
