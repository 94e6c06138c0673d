use Rattle.std.proofs.Common.{◌≡◌, ◌<◌, vec_len, take, None}
use Rattle.bx_office_door.specs.Doors.{IsStill}
use Rattle.bx_office_door.specs.Guests.{first_asked, numbers_of}
use Rattle.bx_office_door.proofs.door.Door.go_on.Given as goal

abbrev pub invariant-loop-index : goal.invariant-loop-index
invariant-loop-index l = record {
  count : l.self.count ≡ l.fn.self.count;
  many : vec_len l.self.guests ≡ vec_len l.fn.self.guests;
  numbers : numbers_of l.self.guests.items ≡ numbers_of l.fn.self.guests.items;
  others : IsStill l.fn.self l.self;
  early : l.now < l.fn.self.opens → first_asked (take l.index l.self.guests.items) ≡ None;
}
