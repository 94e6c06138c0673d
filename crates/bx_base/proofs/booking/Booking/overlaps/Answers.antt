use Rattle.std.proofs.lemmas.Grind.{common_steps}
use Rattle.std.proofs.Common.{arith}
use Rattle.std.proofs.lemmas.Bool.{ltb-true, lt-ltb}
use Rattle.bx_base.proofs.Overlaps.{overlap_from_ends, ends_from_overlap}
use Rattle.bx_base.specs.Bookings.{row_of}
use Rattle.bx_base.proofs.booking.Booking.overlaps.Goals as goal

pub returns-then-self-other : goal.returns-then-self-other
returns-then-self-other c =
    let a = c.self.inside in
    let b = c.other.inside in
    rw (← c.self.view_is, ← c.other.view_is) (
      λ h. overlap_from_ends (row_of a.start a.end a.pay a.number a.must a.inward) (row_of b.start b.end b.pay b.number b.must b.inward) c.self.invariant c.other.invariant c.if-self-other.true (ltb-true _ _ h),
      λ o. lt-ltb _ _ (ends_from_overlap (row_of a.start a.end a.pay a.number a.must a.inward) (row_of b.start b.end b.pay b.number b.must b.inward) o).1,
    )

pub returns-else-self-other : goal.returns-else-self-other
returns-else-self-other c = grind (arith, common_steps) steps 60000
