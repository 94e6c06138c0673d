use Rattle.std.proofs.Common.{◌≡◌, ℕ, List, Bool, true, Option, length, ◌∙◌, ap, subst, sym, arith}
use Rattle.std.specs.Prelude.{IfSome}
use Rattle.bx_base.specs.Bookings.{Row}
use Rattle.bx_base.specs.Channels.{has_channel}
use Rattle.bx_base.specs.Orders.{index_in as row_in}
use Rattle.bx_colour.specs.ChangedRows.{choice_of, choices_of}
use Rattle.bx_colour.proofs.SweepingAmong.{IsSweptAmong, swept_step}
use Rattle.bx_colour.proofs.OutcomeAmong.{swept_none, first_fit, no_colouring, accepts_same, carries}
use Rattle.bx_colour.proofs.RoomBeside.{fits_beside, too_many_run}
use Rattle.bx_colour.proofs.beside.colour_beside.Goals as goal

pub loop-row-init : goal.loop-row-init
loop-row-init c =
    rw (c.in-Ok-none_given.ensures, c.len.ensures.count) (swept_none c.args.bookings.now (choices_of c.args.own.now c.args.channels) c.deref-row-items.result.now)

pub loop-row-preserved : goal.loop-row-preserved
loop-row-preserved c =
    let rows = c.args.bookings.now in
    let own = c.args.own.now in
    let items = c.deref-row-items.result.now in
    let k = c.loop-row.row-index in
    let order = rw (← c.deref-row-items.ensures.value) at c.in-Ok.ensures in
    let found = c.in-Some.ensures in
    let choices : c.choice-choices.result ≡ choices_of own c.args.channels (row_in items k) = c.choice-choices.ensures.value ∙ ap (λ (o : Option ℕ). choice_of o c.args.channels) c.own_channel.ensures in
    swept_step rows (choices_of own c.args.channels) c.args.accepted.now items c.len.ensures.bookings order k (omega arith) c.loop-row.assigned.items c.loop-row.until c.loop-row.invariant
    c.in-Some.channel c.number.result c.start.result c.end.result c.number.ensures.value
    (c.start.ensures.value ∙ ap (λ (r : Row). r.start) c.nth-booking.ensures.value)
    (c.end.ensures.value ∙ ap (λ (r : Row). r.end) c.nth-booking.ensures.value)
    (ap (λ (cs : List Bool). has_channel cs c.in-Some.channel) (sym choices) ∙ found.free.0) found.free.1
    (λ n less h. found.lowest n less (ap (λ (cs : List Bool). has_channel cs n) choices ∙ h)) (omega (arith, c.loop-row.invariant.slots))

pub index_mut-requires : goal.index_mut-requires
index_mut-requires c =
    let order = rw (← c.deref-row-items.ensures.value) at c.in-Ok.ensures in
    let entry = order.each c.loop-row.row-index (omega arith) in
    omega (arith, entry.within, c.loop-row.invariant.one_each, c.loop-row.assigned.ok)

pub returns-in_default-lowest_free_at-clause-none : goal.returns-in_default-lowest_free_at-clause-none
returns-in_default-lowest_free_at-clause-none c = λ is other fit.
    let rows = c.args.bookings.now in
    let own = c.args.own.now in
    let items = c.deref-row-items.result.now in
    let k = c.loop-row.row-index in
    let order = rw (← c.deref-row-items.ensures.value) at c.in-Ok.ensures in
    let choices : c.choice-choices.result ≡ choices_of own c.args.channels (row_in items k) = c.choice-choices.ensures.value ∙ ap (λ (o : Option ℕ). choice_of o c.args.channels) c.own_channel.ensures in
    let start = c.start.ensures.value ∙ ap (λ (r : Row). r.start) c.nth-booking.ensures.value in
    no_colouring rows (choices_of own c.args.channels) c.args.accepted.now items c.len.ensures.bookings order k (omega arith) c.loop-row.assigned.items c.loop-row.until c.loop-row.invariant other fit
    (λ n h. omega (arith, c.in_default-lowest_free_at.ensures.none n (ap (λ (cs : List Bool). has_channel cs n) choices ∙ h), start))

pub returns-clause-first_fit : goal.returns-clause-first_fit
returns-clause-first_fit c =
    let items = c.deref-row-items.result.now in
    let order = rw (← c.deref-row-items.ensures.value) at c.in-Ok.ensures in
    let all : c.loop-row.row-index ≡ length items = omega arith in
    let allowed = choices_of c.args.own.now c.args.channels in
    let swept = subst (λ (n : ℕ). IsSweptAmong c.args.bookings.now allowed items n c.loop-row.assigned.items c.loop-row.until) all c.loop-row.invariant in
    first_fit c.args.bookings.now allowed c.args.accepted.now items order c.loop-row.assigned.items c.loop-row.until swept

pub returns-clause-accepted : goal.returns-clause-accepted
returns-clause-accepted c = accepts_same c.args.bookings.now (choices_of c.args.own.now c.args.channels) c.args.accepted.now c.loop-row.assigned.items c.requires.accepted (returns-clause-first_fit c)

pub returns-clause-carries : goal.returns-clause-carries
returns-clause-carries c = λ service inside. carries c.args.bookings.now (choices_of c.args.own.now c.args.channels) c.args.accepted.now c.loop-row.assigned.items c.requires.accepted (returns-clause-first_fit c) service inside

pub returns-clause-fitting : goal.returns-clause-fitting
returns-clause-fitting c = fits_beside c.args.bookings.now c.args.own.now c.args.channels c.args.accepted.now c.loop-row.assigned.items c.requires.accepted (returns-clause-first_fit c)

pub returns-in_default-lowest_free_at-clause-enough : goal.returns-in_default-lowest_free_at-clause-enough
returns-in_default-lowest_free_at-clause-enough c = λ is t apart fits.
    let rows = c.args.bookings.now in
    let own = c.args.own.now in
    let items = c.deref-row-items.result.now in
    let k = c.loop-row.row-index in
    let order = rw (← c.deref-row-items.ensures.value) at c.in-Ok.ensures in
    let choices : c.choice-choices.result ≡ choices_of own c.args.channels (row_in items k) = c.choice-choices.ensures.value ∙ ap (λ (o : Option ℕ). choice_of o c.args.channels) c.own_channel.ensures in
    let start = c.start.ensures.value ∙ ap (λ (r : Row). r.start) c.nth-booking.ensures.value in
    too_many_run rows own c.args.channels c.args.accepted.now items c.len.ensures.bookings order k (omega arith) c.loop-row.assigned.items c.loop-row.until c.loop-row.invariant t apart
    (λ d own_is. subst (λ (cs : List Bool). has_channel cs d ≡ true) choices (subst (λ (o : Option ℕ). IfSome o (λ n. has_channel c.choice-choices.result n ≡ true)) (c.own_channel.ensures ∙ own_is) c.choice-choices.ensures.own))
    (λ n h. omega (arith, c.in_default-lowest_free_at.ensures.none n (ap (λ (cs : List Bool). has_channel cs n) choices ∙ h), start)) fits
