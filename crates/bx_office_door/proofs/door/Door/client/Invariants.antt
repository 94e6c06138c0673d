use Rattle.std.proofs.Common.{◌≡◌, drop}
use Rattle.bx_office_door.specs.Guests.{client_of}
use Rattle.bx_office_door.proofs.door.Door.client.Given as goal

abbrev pub invariant-loop-guest : goal.invariant-loop-guest
invariant-loop-guest l = client_of l.number (drop l.guest-index l.guest-items) ≡ client_of l.number l.self.guests.items
