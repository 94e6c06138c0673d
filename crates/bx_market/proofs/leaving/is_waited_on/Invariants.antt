use Rattle.std.proofs.Common.{◌≡◌, ℕ, ◌<◌, true}
use Rattle.bx_day.specs.Day.{entry_at}
use Rattle.bx_market.specs.LeavingSteps.{is_ahead}
use Rattle.bx_market.proofs.leaving.is_waited_on.Given as goal

abbrev pub invariant-loop-place : goal.invariant-loop-place
invariant-loop-place l = (i : ℕ) → i < l.place → is_ahead l.exchange.moment (entry_at l.exchange.entries i) ≡ true → (entry_at l.exchange.entries i).channel ≡ l.channel → ⊥
