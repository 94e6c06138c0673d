use Rattle.std.proofs.Common.{rules, ◌≡◌, Bool, List, sym, ◌∙◌, arith}
use Rattle.std.specs.Prelude.{pos}
use Rattle.bx_base.specs.Channels.{count_of}
use Rattle.bx_base.specs.Bookings.{Row}
use Rattle.bx_base.specs.Bound.{bound_of}
use Rattle.bx_base.specs.PlanParts.{Parts, parts_of}
use Rattle.bx_check.specs.Check.{IsSound, IsTotalRight, AllInService, NoneOverlap, HasMusts}
use Rattle.bx_check.proofs.Sound.{sound-lawful, sound-lawful_itself, sound-best, total-le-bound}
use Rattle.bx_check.proofs.checker.check.Goals as goal

sound : (rows : List Row) (channels : List Bool) (plan : Parts) → rows ≡ plan.rows → channels ≡ plan.channels → AllInService plan → NoneOverlap plan → HasMusts plan → IsSound rows channels plan
sound rows channels plan b s i n m = record { parts = record { bookings = b; channels_too = s }; in_service = i; none_overlap = n; has_musts = m }

pub bound-bound-requires-clause-lawful : goal.bound-bound-requires-clause-lawful
bound-bound-requires-clause-lawful c =
    let s = sound c.args.bookings.now c.args.channels (parts_of c.args.plan.now) (c.same.ensures.0 c.if-not-same.false) (c.same-2.ensures.0 c.if-not-same-2.false) c.in_default.ensures.none (c.in_default-first_overlap).ensures.none (c.in_default-first_must_left_out).ensures.none in
    rw (c.deref-3.ensures.value, s.parts.channels_too) (sound-lawful_itself c.args.bookings.now c.args.channels (parts_of c.args.plan.now) s)

pub returns-then-bound-plan-clause-above : goal.returns-then-bound-plan-clause-above
returns-then-bound-plan-clause-above c =
    let s = sound c.args.bookings.now c.args.channels (parts_of c.args.plan.now) (c.same.ensures.0 c.if-not-same.false) (c.same-2.ensures.0 c.if-not-same-2.false) c.in_default.ensures.none (c.in_default-first_overlap).ensures.none (c.in_default-first_must_left_out).ensures.none in
    let whole : pos c.bound-bound.result ≡ bound_of c.args.plan.now.bookings (count_of c.args.plan.now.channels) c.args.plan.now.prices.items = rw (c.deref-4.ensures.value, s.parts.channels_too) at c.bound-bound.ensures.value in
    let paid : IsTotalRight (parts_of c.args.plan.now) = sym c.if-total_pay-plan.false ∙ (rw c.deref.ensures.value at c.total_pay.ensures) in
    let least = total-le-bound c.args.bookings.now c.args.channels (parts_of c.args.plan.now) c.bound-bound.result s paid whole in
    (omega (arith, least, c.if-bound-plan.true), c.bound-bound.ensures.limit)

pub returns-clause-lawful : goal.returns-clause-lawful
returns-clause-lawful c =
    sound-lawful c.args.bookings.now c.args.channels (parts_of c.args.plan.now)
    (sound c.args.bookings.now c.args.channels (parts_of c.args.plan.now) (c.same.ensures.0 c.if-not-same.false) (c.same-2.ensures.0 c.if-not-same-2.false) c.in_default.ensures.none (c.in_default-first_overlap).ensures.none (c.in_default-first_must_left_out).ensures.none)

pub returns-clause-best : goal.returns-clause-best
returns-clause-best c =
    let s = sound c.args.bookings.now c.args.channels (parts_of c.args.plan.now) (c.same.ensures.0 c.if-not-same.false) (c.same-2.ensures.0 c.if-not-same-2.false) c.in_default.ensures.none (c.in_default-first_overlap).ensures.none (c.in_default-first_must_left_out).ensures.none in
    let whole : pos c.bound-bound.result ≡ bound_of c.args.plan.now.bookings (count_of c.args.plan.now.channels) c.args.plan.now.prices.items = rw (c.deref-4.ensures.value, s.parts.channels_too) at c.bound-bound.ensures.value in
    sound-best c.args.bookings.now c.args.channels (parts_of c.args.plan.now) c.bound-bound.result s whole

pub returns-in-Some-first_must_left_out-clause-outcome : goal.returns-in-Some-first_must_left_out-clause-outcome
returns-in-Some-first_must_left_out-clause-outcome c = search rules steps 200000

pub returns-then-total_pay-plan-clause-outcome : goal.returns-then-total_pay-plan-clause-outcome
returns-then-total_pay-plan-clause-outcome c = search rules steps 200000

pub returns-then-not-is_rising-clause-outcome : goal.returns-then-not-is_rising-clause-outcome
returns-then-not-is_rising-clause-outcome c = search rules steps 200000

pub returns-then-bound-plan-clause-outcome : goal.returns-then-bound-plan-clause-outcome
returns-then-bound-plan-clause-outcome c = search rules steps 1000000
