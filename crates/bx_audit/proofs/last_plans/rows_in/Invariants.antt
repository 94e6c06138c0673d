use Rattle.std.proofs.Common.{◌≡◌, map, take, not}
use Rattle.bx_day.specs.Invariant.{is_refused}
use Rattle.bx_day.specs.declared.entry.Entry.{Entry}
use Rattle.bx_audit.specs.HeldRows.{row_held}
use Rattle.bx_audit.proofs.last_plans.rows_in.Given as goal

abbrev pub invariant-loop-index : goal.invariant-loop-index
invariant-loop-index l = l.rows ≡ map (λ (e : Entry). row_held e.booking (not (is_refused e.standing))) (take l.index l.entries)
