use Rattle.std.proofs.Common.{arith, ◌∙◌}
use Rattle.bx_office_door.proofs.Standing.{none_more}
use Rattle.bx_office_door.proofs.door.Door.place_of.Goals as goal

pub loop-index-preserved : goal.loop-index-preserved
loop-index-preserved c =
    none_more c.args.number c.args.self.now.guests.items c.loop-index.index c.index.result.now (omega arith) c.index.ensures
    (λ same. c.if-number.false (c.number.ensures ∙ same)) c.loop-index.invariant
