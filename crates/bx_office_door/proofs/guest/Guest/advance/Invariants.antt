use Rattle.std.proofs.Common.{◌≡◌, ◌≤◌, max}
use Rattle.bx_office_door.proofs.guest.Guest.advance.Given as goal

abbrev pub invariant-loop-step : goal.invariant-loop-step
invariant-loop-step l = record {
  number : l.self.number ≡ l.fn.self.number;
  spare : l.self.is_spare ≡ l.fn.self.is_spare;
  kept : l.self.client.kept ≤ max l.fn.self.client.kept l.free;
}
