use Rattle.std.proofs.Common.{◌≡◌, ◌++◌, true, not, map, replicate}
use Rattle.bx_day.specs.Invariant.{is_refused}
use Rattle.bx_day.specs.declared.entry.Entry.{Entry}
use Rattle.bx_sales.proofs.listing.marks_and.Given as goal

abbrev pub invariant-loop : goal.invariant-loop
invariant-loop l = l.all.items ≡ map (λ (e : Entry). not (is_refused e.standing)) l.entries ++ replicate l.counter true
