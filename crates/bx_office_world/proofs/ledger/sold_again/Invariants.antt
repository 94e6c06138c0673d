use Rattle.std.proofs.Common.{◌≡◌, ◌≤◌, ◌++◌, drop, length}
use Rattle.bx_office_world.specs.Ledgers.{bookings_of, answers_by}
use Rattle.bx_office_world.proofs.ledger.sold_again.Given as goal

abbrev pub invariant-loop-index : goal.invariant-loop-index
invariant-loop-index l = record {
  place : l.place ≤ length l.sold;
  told : l.answers.items ++ answers_by (drop l.index l.offered) (bookings_of (drop l.place l.sold)) ≡ answers_by l.offered (bookings_of l.sold);
}
