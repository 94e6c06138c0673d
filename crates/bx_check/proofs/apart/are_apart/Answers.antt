use Rattle.std.proofs.Common.{ℕ, ◌-◌, List, length, arith, subst}
use Rattle.std.specs.List.Sorted.{IsPermutation}
use Rattle.bx_check.proofs.SeatLemmas.{seat_inside, none_clash}
use Rattle.bx_check.proofs.apart.are_apart.Goals as goal

pub nth-requires : goal.nth-requires
nth-requires c =
    let seats = c.sort_unstable.new.self in
    let moved = subst (λ (xs : List (ℕ × ℕ × ℕ)). IsPermutation xs seats) c.as_mut_slice-sorted.ensures.value c.sort_unstable.ensures.permutation in
    let plan = c.args.plan.now in
    seat_inside plan.bookings plan.assigned.items (length plan.bookings) c.seats_of-seats.result.items seats c.seats_of-seats.ensures moved (c.loop-k.k - 1) (omega (arith, c.loop-k-test.true))

pub returns : goal.returns
returns c = λ yes.
    let seats = c.sort_unstable.new.self in
    let moved = subst (λ (xs : List (ℕ × ℕ × ℕ)). IsPermutation xs seats) c.as_mut_slice-sorted.ensures.value c.sort_unstable.ensures.permutation in
    let plan = c.args.plan.now in
    none_clash plan.bookings plan.assigned.items c.seats_of-seats.result.items seats c.seats_of-seats.ensures moved c.sort_unstable.ensures.sorted (λ j h. c.loop-k.invariant j (omega (arith, h, c.loop-k-test.false)))
