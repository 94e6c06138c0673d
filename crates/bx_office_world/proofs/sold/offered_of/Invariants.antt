use Rattle.std.proofs.Common.{◌≡◌, take}
use Rattle.bx_office_world.specs.Offered.{offered_of}
use Rattle.bx_office_world.proofs.sold.offered_of.Given as goal

abbrev pub invariant-loop-index : goal.invariant-loop-index
invariant-loop-index l = l.offered ≡ offered_of l.terms (take l.index l.wanted)
