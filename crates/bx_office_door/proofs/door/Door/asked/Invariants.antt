use Rattle.std.proofs.Common.{◌≡◌, drop}
use Rattle.bx_office_door.specs.Guests.{first_asked}
use Rattle.bx_office_door.proofs.door.Door.asked.Given as goal

abbrev pub invariant-loop-guest : goal.invariant-loop-guest
invariant-loop-guest l = first_asked (drop l.guest-index l.guest-items) ≡ first_asked l.self.guests.items
