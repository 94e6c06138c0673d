use Rattle.std.proofs.Common.{◌≡◌, ◌≤◌, max, true, is_some}
use Rattle.bx_office_door.specs.Patience.{StaysQuiet}
use Rattle.bx_office_door.proofs.guest.Guest.go_on.Given as goal

abbrev pub invariant-loop-turn : goal.invariant-loop-turn
invariant-loop-turn l = record {
  number : l.self.number ≡ l.fn.self.number;
  early : is_some l.eve ≡ true → StaysQuiet l.fn.self l.self;
  kept : l.self.client.kept ≤ max l.fn.self.client.kept l.free;
}
