use Rattle.bx_line_world.proofs.Never.{never_ends, on_ok}
use Rattle.bx_line_world.proofs.running.run_by_line.Goals as goal

pub returns-clause-ran : goal.returns-clause-ran
returns-clause-ran g c = let (ran, held) = c.run_held.ensures in (ran, held.after, held.held)

pub returns-clause-whole : goal.returns-clause-whole
returns-clause-whole g c =
    let (ran, held) = c.run_held.ensures in
    on_ok _ _ c.run_held.result (never_ends g.W.Wire.did g.D.Disk.holds g.D.Disk.may_leave g.D.Disk.moment g.D.Disk.left_since g.D.Disk.has_failed c.args.world.now c.run_held.new.world ran.acts ran.done) held.out
