use Rattle.std.proofs.lemmas.Grind.{common_steps}
use Rattle.std.proofs.Common.{arith, rules, Err, inl, inr, ap}
use Rattle.bx_planfile.proofs.Refusals.{line_never, header_never, channels_never, count_never, not_memory, passed_on, grows_after}
use Rattle.bx_planfile.specs.Reading.{entries, read_head, read_all}
use Rattle.bx_planfile.proofs.reading.plan_of.Goals as goal

pub returns-in_err-fields-clause-memory : goal.returns-in_err-fields-clause-memory
returns-in_err-fields-clause-memory c = λ m. not_memory (line_never _ _) c.in_err-fields.ensures m c.from_residual.ensures.1

pub returns-in_err-version-clause-memory : goal.returns-in_err-version-clause-memory
returns-in_err-version-clause-memory c = λ m. not_memory (header_never _ _) c.in_err-version.ensures m c.from_residual-in_err-version.ensures.1

pub returns-in_err-fields-2-clause-memory : goal.returns-in_err-fields-2-clause-memory
returns-in_err-fields-2-clause-memory c = λ m. not_memory (line_never _ _) c.in_err-fields-2.ensures m c.from_residual-in_err-fields-2.ensures.1

pub returns-in_err-channels-clause-memory : goal.returns-in_err-channels-clause-memory
returns-in_err-channels-clause-memory c = λ m. not_memory (channels_never _ _) c.in_err-channels.ensures m c.from_residual-in_err-channels.ensures.1

pub returns-in_err-fields-3-clause-memory : goal.returns-in_err-fields-3-clause-memory
returns-in_err-fields-3-clause-memory c = λ m. not_memory (line_never _ _) c.in_err-fields-3.ensures m c.from_residual-in_err-fields-3.ensures.1

pub returns-in_err-count-clause-memory : goal.returns-in_err-count-clause-memory
returns-in_err-count-clause-memory c = λ m. not_memory (count_never _ _ _ _) c.in_err-count.ensures.value m c.from_residual-in_err-count.ensures.1

pub returns-in_err-bookings-clause-memory : goal.returns-in_err-bookings-clause-memory
returns-in_err-bookings-clause-memory c = λ m.
    grows_after c.in_ok-fields.ensures c.in_ok-version.ensures c.in_ok-fields-2.ensures c.in_ok-channels.ensures c.in_ok-fields-3.ensures c.in_ok-count.ensures.value
    (inl (c.in_err-bookings.ensures.memory (ap Err (passed_on m c.from_residual-in_err-bookings.ensures.1))))

pub returns-in_err-prices-clause-memory : goal.returns-in_err-prices-clause-memory
returns-in_err-prices-clause-memory c = λ m.
    let tail = rw c.from.ensures at (c.in_err-prices.ensures.memory (ap Err (passed_on m c.from_residual-in_err-prices.ensures.1))) in
    grows_after c.in_ok-fields.ensures c.in_ok-version.ensures c.in_ok-fields-2.ensures c.in_ok-channels.ensures c.in_ok-fields-3.ensures c.in_ok-count.ensures.value
    (inr (entries c.in_ok-bookings.bookings c.in_ok-bookings.assigned.items c.in_ok-bookings.rest.now, c.in_ok-bookings.ensures.value, tail))

pub bookings_of-requires-clause-few : goal.bookings_of-requires-clause-few
unfolding read_head read_all
bookings_of-requires-clause-few c = grind (arith, common_steps) steps 400000

pub returns-in_err-count-clause-value : goal.returns-in_err-count-clause-value
unfolding read_head read_all
returns-in_err-count-clause-value c = search rules steps 1000000

pub returns-in_err-bookings-clause-value : goal.returns-in_err-bookings-clause-value
unfolding read_head read_all
returns-in_err-bookings-clause-value c = search rules steps 1000000

pub returns-in_err-prices-clause-value : goal.returns-in_err-prices-clause-value
unfolding read_head read_all
returns-in_err-prices-clause-value c = search rules steps 1000000

pub returns-clause-value : goal.returns-clause-value
unfolding read_head read_all
returns-clause-value c = search rules steps 1000000

pub invariant_of-result : goal.invariant_of-result
unfolding read_head read_all
invariant_of-result c = search rules steps 1000000
