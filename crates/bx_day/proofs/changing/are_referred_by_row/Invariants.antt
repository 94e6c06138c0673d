use Rattle.std.proofs.Common.{◌≡◌, ◌<◌, ℕ}
use Rattle.bx_day.specs.Day.{entry_at}
use Rattle.bx_day.proofs.changing.are_referred_by_row.Given as goal

abbrev pub invariant-loop-index : goal.invariant-loop-index
invariant-loop-index l = (i : ℕ) → i < l.index → (entry_at l.entries i).reference ≡ (entry_at l.entries i).row
