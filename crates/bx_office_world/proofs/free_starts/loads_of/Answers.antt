use Rattle.std.proofs.Common.{◌≡◌, ap, slice_index_or, ℕ, List, arith}
use Rattle.bx_office_world.proofs.FreeSeconds.{few_run}
use Rattle.bx_office_world.proofs.free_starts.loads_of.Goals as goal

pub add-requires-clause-few : goal.add-requires-clause-few
add-requires-clause-few c second =
    let same : slice_index_or c.deref_mut.result.now second 0 ≡ slice_index_or c.loop-index.counts.items second 0 = ap (λ (xs : List ℕ). slice_index_or xs second 0) c.deref_mut.ensures.value in
    omega (arith, same, c.loop-index.invariant.each second, few_run c.args.rows.now c.loop-index.index second, c.loop-index-test.true, c.loop-index.auto.index-end, c.len-index-end.ensures.count, c.len-index-end.ensures.bookings.few)
