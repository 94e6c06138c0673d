use Rattle.bx_journal.proofs.Runs.{prefix_left_over}
use Rattle.bx_journal.proofs.laws.prefix_is_left.Goals as goal

pub returns : goal.returns
returns g c = λ head before done rest first mid last s so_far run.
    prefix_left_over g.D.Disk.holds g.D.Disk.may_leave g.D.Disk.moment g.D.Disk.left_since g.met.D.Disk.only_now head before done rest first mid last s so_far run
