use Rattle.std.proofs.Common.{◌≡◌, map, take, not}
use Rattle.bx_day.specs.Invariant.{is_refused}
use Rattle.bx_day.specs.declared.entry.Entry.{Entry}
use Rattle.bx_sales.proofs.listing.marks_of.Given as goal

abbrev pub invariant-loop-index : goal.invariant-loop-index
invariant-loop-index l = l.marks.items ≡ map (λ (e : Entry). not (is_refused e.standing)) (take l.index l.entries)
