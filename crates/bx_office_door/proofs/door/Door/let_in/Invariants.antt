use Rattle.std.proofs.Common.{◌≡◌, ◌≤◌, ◌++◌}
use Rattle.bx_office_door.specs.Doors.{IsStill}
use Rattle.bx_office_door.specs.Entering.{AreLetIn}
use Rattle.bx_office_door.specs.Guests.{numbers_of, given_since}
use Rattle.bx_office_door.proofs.door.Door.let_in.Given as goal

abbrev pub invariant-loop-guest : goal.invariant-loop-guest
invariant-loop-guest l = record {
  count : l.fn.self.count ≤ l.self.count;
  numbers : numbers_of l.self.guests.items ≡ numbers_of l.fn.self.guests.items ++ given_since l.fn.self.count l.self.count;
  others : IsStill l.fn.self l.self;
  entered : AreLetIn l.fn.self l.self;
}
