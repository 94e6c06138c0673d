use Rattle.std.proofs.Common.{◌≡◌, ◌≤◌, ◌+◌, ◌-◌, ◌*◌, ℕ, List, length, ap, refl, arith, ◌∙◌}
use Rattle.std.specs.Prelude.{ℤ, pos, ◌+ℤ◌}
use Rattle.std.proofs.lemmas.Nat.{mul-le}
use Rattle.std.proofs.lemmas.Int.{ints}
use Rattle.bx_base.specs.Sums.{sum_below}
use Rattle.bx_base.specs.Channels.{count_of}
use Rattle.bx_base.specs.Bookings.{Row, row_at}
use Rattle.bx_base.specs.Plans.{is_accepted}
use Rattle.bx_base.specs.Bound.{Charge, sum_of_prices, bound_of}
use Rattle.bx_base.specs.Sides.{gain_of, loss_of}
use Rattle.bx_base.proofs.SumLemmas.{sum_below-next}
use Rattle.bx_base.proofs.Duality.{losses-le, bound_and_losses}
use Rattle.bx_check.proofs.bound.bound.Goals as goal

pub overflow_add-lost : goal.overflow_add-lost
overflow_add-lost c =
    let rows = c.args.bookings.now in
    let prices = c.args.prices.now in
    let losses = losses-le rows c.args.channels prices (is_accepted c.args.assigned.now) c.requires.lawful (c.loop-i.i + 1) (omega arith) in
    let next = sum_below-next c.loop-i.i (λ i. loss_of prices (row_at rows i)) in
    let all : c.count.result * c.price_sum.result ≤ 30 * (32000 * 16000000000000) = mul-le c.count.result c.price_sum.result 30 (32000 * 16000000000000) (omega arith) (omega arith) in
    let same : count_of c.args.channels * sum_of_prices prices ≡ c.count.result * c.price_sum.result = cc in
    let here : c.loss-lost.result ≡ loss_of prices (row_at rows c.loop-i.i) = c.loss-lost.ensures ∙ ap (loss_of prices) c.nth-booking.ensures.value in
    omega (arith, losses, next, all, same, here)

pub loop-i-preserved : goal.loop-i-preserved
loop-i-preserved c =
    let rows = c.args.bookings.now in
    let prices = c.args.prices.now in
    let lost = sum_below-next c.loop-i.i (λ i. loss_of prices (row_at rows i)) in
    let gained = sum_below-next c.loop-i.i (λ i. gain_of prices (row_at rows i)) in
    let this_loss : c.loss-lost.result ≡ loss_of prices (row_at rows c.loop-i.i) = c.loss-lost.ensures ∙ ap (loss_of prices) c.nth-booking.ensures.value in
    let this_gain : c.gain-gained.result ≡ gain_of prices (row_at rows c.loop-i.i) = c.gain-gained.ensures.value ∙ ap (gain_of prices) c.nth-booking.ensures.value in
    record {
      gained = omega (arith, gained, this_gain, c.loop-i.invariant.gained);
      lost = omega (arith, lost, this_loss, c.loop-i.invariant.lost);
      limit = omega arith;
    }

pub overflow_sub-result : goal.overflow_sub-result
overflow_sub-result c =
    let losses = losses-le c.args.bookings.now c.args.channels c.args.prices.now (is_accepted c.args.assigned.now) c.requires.lawful c.loop-i.i (omega arith) in
    omega (arith, losses)

apart_ints : (gained lost : ℕ) (whole : ℤ) → lost ≤ gained → whole +ℤ pos lost ≡ pos gained → pos (gained - lost) ≡ whole
apart_ints gained lost bound h e = omega (arith, ints)

-- what is gained less what is lost is the bound
whole : (rows : List Row) (count : ℕ) (prices : List Charge) (i gained lost : ℕ) → i ≡ length rows → gained ≡ count * sum_of_prices prices + sum_below i (λ k. gain_of prices (row_at rows k)) → lost ≡ sum_below i (λ k. loss_of prices (row_at rows k)) → lost ≤ gained → pos (gained - lost) ≡ bound_of rows count prices
whole rows count prices i gained lost e p q h =
    let sides = bound_and_losses rows count prices in
    let p' : gained ≡ count * sum_of_prices prices + sum_below (length rows) (λ k. gain_of prices (row_at rows k)) = rw (p, e) refl in
    let q' : lost ≡ sum_below (length rows) (λ k. loss_of prices (row_at rows k)) = rw (q, e) refl in
    apart_ints gained lost (bound_of rows count prices) h (rw (p', q') sides)

pub returns-clause-value : goal.returns-clause-value
returns-clause-value c =
    let losses = losses-le c.args.bookings.now c.args.channels c.args.prices.now (is_accepted c.args.assigned.now) c.requires.lawful c.loop-i.i (omega arith) in
    whole c.args.bookings.now (count_of c.args.channels) c.args.prices.now c.loop-i.i c.loop-i.gained c.loop-i.lost (omega arith) c.loop-i.invariant.gained c.loop-i.invariant.lost (omega (arith, losses))
