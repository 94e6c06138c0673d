use Rattle.std.proofs.Common.{◌≡◌, ◌+◌, drop}
use Rattle.bx_office_door.specs.Guests.{kept_of}
use Rattle.bx_office_door.proofs.door.Door.kept.Given as goal

abbrev pub invariant-loop-guest : goal.invariant-loop-guest
invariant-loop-guest l = l.sum + kept_of (drop l.guest-index l.guest-items) ≡ kept_of l.self.guests.items
