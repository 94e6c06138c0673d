use Rattle.std.proofs.Common.{◌≡◌, ◌<◌, ℕ}
use Rattle.bx_office_world.specs.KnownKeys.{keys_in, key_at}
use Rattle.bx_office_world.proofs.ledger.Ledger.place_of.Given as goal

abbrev pub invariant-loop-place : goal.invariant-loop-place
invariant-loop-place l = (i : ℕ) → i < l.place → ¬ (key_at (keys_in l.self.requests.items) i ≡ l.key)
