use Rattle.bx_world.proofs.Kept.{prefix_law, moments_law, safe_law}
use Rattle.bx_world.proofs.laws.nothing_is_lost.Goals as goal

pub returns-clause-prefix : goal.returns-clause-prefix
returns-clause-prefix g c = λ head earlier. prefix_law g.D.Disk.holds g.D.Disk.may_leave g.D.Disk.moment g.D.Disk.left_since g.D.Disk.has_failed g.met.D.Disk.only_now head earlier

pub returns-clause-written : goal.returns-clause-written
returns-clause-written g c = λ head earlier. safe_law g.D.Disk.holds g.D.Disk.may_leave g.D.Disk.moment g.D.Disk.left_since g.D.Disk.has_failed g.met.D.Disk.only_now head earlier

pub returns-clause-moments : goal.returns-clause-moments
returns-clause-moments g c = λ head earlier. moments_law g.D.Disk.holds g.D.Disk.may_leave g.D.Disk.moment g.D.Disk.left_since g.D.Disk.has_failed g.met.D.Disk.only_now head earlier
