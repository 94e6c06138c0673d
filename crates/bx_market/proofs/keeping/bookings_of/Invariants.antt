use Rattle.std.proofs.Common.{◌≡◌, ◌++◌, drop, map}
use Rattle.bx_day.specs.declared.entry.Entry.{Entry}
use Rattle.bx_market.proofs.keeping.bookings_of.Given as goal

abbrev pub invariant-loop-entry : goal.invariant-loop-entry
invariant-loop-entry l = l.rows ++ map (λ (e : Entry). e.booking) (drop l.entry-index l.entries) ≡ map (λ (e : Entry). e.booking) l.entries
