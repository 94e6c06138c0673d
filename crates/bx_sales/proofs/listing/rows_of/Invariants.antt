use Rattle.std.proofs.Common.{◌≡◌, map, take}
use Rattle.bx_day.specs.declared.entry.Entry.{Entry}
use Rattle.bx_sales.proofs.listing.rows_of.Given as goal

abbrev pub invariant-loop-index : goal.invariant-loop-index
invariant-loop-index l = l.rows ≡ map (λ (e : Entry). e.booking) (take l.index l.entries)
