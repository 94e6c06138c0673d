use Rattle.std.proofs.Common.{◌≡◌, map, take, slice_set}
use Rattle.bx_day.specs.declared.entry.Entry.{Entry}
use Rattle.bx_sales.proofs.listing.rows_changed.Given as goal

abbrev pub invariant-loop-index : goal.invariant-loop-index
invariant-loop-index l = l.rows ≡ take l.index (slice_set (map (λ (e : Entry). e.booking) l.entries) l.place l.booking)
