use Rattle.std.proofs.Common.{◌≡◌, ℕ, length, slice_index_or}
use Rattle.bx_base.specs.declared.booking.TheConstants.{MAX_MOMENT}
use Rattle.bx_office_world.specs.FreeStarts.{running_below}
use Rattle.bx_office_world.proofs.free_starts.loads_of.Given as goal

abbrev pub invariant-loop-index : goal.invariant-loop-index
invariant-loop-index l = record {
  size : length l.counts.items ≡ MAX_MOMENT;
  each : (k : ℕ) → slice_index_or l.counts.items k 0 ≡ running_below l.rows l.index k;
}
