use Rattle.std.proofs.Common.{◌≡◌}
use Rattle.bx_office_world.proofs.Turns.{SoFar}
use Rattle.bx_office_world.proofs.serving.Desk.serve.Given as goal

abbrev pub invariant-loop-answer : goal.invariant-loop-answer
invariant-loop-answer l = record {
  served : SoFar l.self l.fn.ledger.requests.items l.exchange l._answer l.fn.door.guests.items l.door.guests.items;
  still : l.ledger.requests.items ≡ l.fn.ledger.requests.items;
}
