use Rattle.std.proofs.Common.{◌≡◌, None, take}
use Rattle.bx_office_door.specs.Guests.{client_of}
use Rattle.bx_office_door.proofs.door.Door.place_of.Given as goal

abbrev pub invariant-loop-index : goal.invariant-loop-index
invariant-loop-index l = client_of l.number (take l.index l.self.guests.items) ≡ None
