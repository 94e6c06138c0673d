use Rattle.bx_office_world.specs.KnownKeys.{keys_in, KnowsTags}
use Rattle.bx_office_world.proofs.ledger.Ledger.new.Given as goal

abbrev pub invariant-loop-place : goal.invariant-loop-place
invariant-loop-place l = KnowsTags (keys_in l.ledger.requests.items) l.tags l.place
