use Rattle.std.proofs.Common.{◌≡◌, ℕ, ◌<◌, length, Option, None, unwrap_or, is_some, refl, sym, ◌∙◌, ap, arith}
use Rattle.std.proofs.lemmas.List.{get_or_default}
use Rattle.bx_base.specs.Bookings.{Row, row_at}
use Rattle.bx_base.specs.Plans.{channel_at}
use Rattle.bx_check.specs.Seats.{seat_of}
use Rattle.bx_check.proofs.SeatLemmas.{seats_more, seats_skip}
use Rattle.bx_check.proofs.apart.seats_of.Goals as goal
use Rattle.bx_check.proofs.apart.seats_of.Goals.{in-Some, in_default}

pub loop-i-preserved : goal.loop-i-preserved
loop-i-preserved c =
    let rows = c.args.plan.now.bookings in
    let assigned = c.args.plan.now.assigned.items in
    let i = c.loop-i.i in
    let inside : i < length assigned = omega (arith, c.loop-i-test.true, c.loop-i.auto.i-end, c.len-i-end.ensures.count, c.args.plan.now.one_each) in
    let here = get_or_default assigned i None c.index.result.now inside in
    elim c.match-index.branch [
      | in-Some w ↦
          let given : channel_at assigned i ≡ w.number.result = ap (λ (o : Option ℕ). unwrap_or o 0) (here ∙ sym c.index.ensures ∙ w.in-Some.is) ∙ sym w.number.ensures.value in
          let start : (row_at rows i).start ≡ w.start.result = sym (w.start.ensures.value ∙ ap (λ (r : Row). r.start) w.nth.ensures.value) in
          let seat : (w.number.result, w.start.result, i) ≡ seat_of rows assigned i = rw (given, start) refl in
          rw (w.seats-is, w.push.ensures.items, seat) (seats_more rows assigned i c.loop-i.seats.items (omega (arith, c.loop-i-test.true, c.loop-i.auto.i-end, c.len-i-end.ensures.count)) c.loop-i.invariant)
      | in_default w ↦ rw w.seats-is (seats_skip rows assigned i c.loop-i.seats.items (ap (λ (o : Option ℕ). is_some o) (here ∙ sym c.index.ensures ∙ w.in_default.is)) c.loop-i.invariant)
    ]
