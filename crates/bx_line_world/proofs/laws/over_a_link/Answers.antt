use Rattle.bx_line_world.proofs.Joining.{over_link}
use Rattle.bx_line_world.proofs.laws.over_a_link.Goals as goal

pub returns : goal.returns
returns g c = λ old new acts chain.
    over_link g.W.Wire.did g.D.Disk.holds g.D.Disk.may_leave g.D.Disk.moment g.D.Disk.left_since g.D.Disk.has_failed g.met.W.Wire.did_nothing g.met.W.Wire.did_more old new acts chain
