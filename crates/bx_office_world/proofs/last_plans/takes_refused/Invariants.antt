use Rattle.std.proofs.Common.{◌≡◌, ◌<◌, ℕ, true}
use Rattle.bx_base.specs.Plans.{is_accepted}
use Rattle.bx_day.specs.Day.{entry_at}
use Rattle.bx_day.specs.Invariant.{is_refused}
use Rattle.bx_office_world.proofs.last_plans.takes_refused.Given as goal

abbrev pub invariant-loop-index : goal.invariant-loop-index
invariant-loop-index l = (k : ℕ) → k < l.index → is_refused (entry_at l.entries k).standing ≡ true → is_accepted l.assigned k ≡ true → ⊥
