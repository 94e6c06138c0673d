use Rattle.std.proofs.Common.{◌≡◌, ℕ, length, ◌∙◌, ap, subst, arith}
use Rattle.bx_base.specs.Bookings.{Row}
use Rattle.bx_colour.proofs.Sweeping.{IsSwept, swept_step}
use Rattle.bx_colour.proofs.Outcome.{swept_none, some_free, first_fit, accepts_same, carries}
use Rattle.bx_colour.proofs.colouring.colour.Goals as goal

pub loop-row-init : goal.loop-row-init
loop-row-init c =
    rw (c.in_ok-assigned.ensures, c.len.ensures.count) (swept_none c.args.bookings.now c.args.channels c.deref-row-items.result.now)

pub loop-row-preserved : goal.loop-row-preserved
loop-row-preserved c =
    let order = rw (← c.deref-row-items.ensures.value) at c.in_ok-order.ensures in
    let found = c.in-Some.ensures in
    swept_step c.args.bookings.now c.args.channels c.args.accepted.now c.deref-row-items.result.now c.len.ensures.bookings order c.loop-row.row-index (omega arith) c.loop-row.assigned.items c.loop-row.until c.loop-row.invariant
    c.in-Some.channel c.number.result c.start.result c.end.result c.number.ensures.value
    (c.start.ensures.value ∙ ap (λ (r : Row). r.start) c.nth-booking.ensures.value)
    (c.end.ensures.value ∙ ap (λ (r : Row). r.end) c.nth-booking.ensures.value)
    found.free.0 found.free.1 found.lowest (omega (arith, c.loop-row.invariant.slots))

pub index_mut-requires : goal.index_mut-requires
index_mut-requires c =
    let order = rw (← c.deref-row-items.ensures.value) at c.in_ok-order.ensures in
    let entry = order.each c.loop-row.row-index (omega arith) in
    omega (arith, entry.within, c.loop-row.invariant.one_each, c.loop-row.assigned.ok)

pub unreachable-requires : goal.unreachable-requires
unreachable-requires c =
    let order = rw (← c.deref-row-items.ensures.value) at c.in_ok-order.ensures in
    let start = c.start.ensures.value ∙ ap (λ (r : Row). r.start) c.nth-booking.ensures.value in
    some_free c.args.bookings.now c.args.channels c.args.accepted.now c.deref-row-items.result.now c.len.ensures.bookings order c.loop-row.row-index (omega arith) c.loop-row.assigned.items c.loop-row.until c.loop-row.invariant c.requires (λ n h. omega (arith, c.in_default.ensures.none n h, start))

pub returns-clause-first_fit : goal.returns-clause-first_fit
returns-clause-first_fit c =
    let items = c.deref-row-items.result.now in
    let order = rw (← c.deref-row-items.ensures.value) at c.in_ok-order.ensures in
    let all : c.loop-row.row-index ≡ length items = omega arith in
    let swept = subst (λ (n : ℕ). IsSwept c.args.bookings.now c.args.channels items n c.loop-row.assigned.items c.loop-row.until) all c.loop-row.invariant in
    first_fit c.args.bookings.now c.args.channels c.args.accepted.now items order c.loop-row.assigned.items c.loop-row.until swept

pub returns-clause-accepted : goal.returns-clause-accepted
returns-clause-accepted c = accepts_same c.args.bookings.now c.args.channels c.args.accepted.now c.loop-row.assigned.items c.requires.one_each (returns-clause-first_fit c)

pub returns-clause-carries : goal.returns-clause-carries
returns-clause-carries c = carries c.args.bookings.now c.args.channels c.args.accepted.now c.loop-row.assigned.items c.requires.one_each (returns-clause-first_fit c)
