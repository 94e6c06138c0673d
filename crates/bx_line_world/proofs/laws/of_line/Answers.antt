use Rattle.bx_live.proofs.Projections.{kept_in}
use Rattle.bx_line_world.specs.Days.{GoesByLine}
use Rattle.bx_line_world.proofs.Alive.{seen_alive}
use Rattle.bx_line_world.proofs.Apart.{starts_apart}
use Rattle.bx_line_world.proofs.Never.{never_ends}
use Rattle.bx_line_world.proofs.Seconds.{second_within}
use Rattle.bx_line_world.proofs.laws.of_line.Goals as goal

pub returns-clause-begins : goal.returns-clause-begins
returns-clause-begins g c = λ old new acts chain.
    never_ends g.W.Wire.did g.D.Disk.holds g.D.Disk.may_leave g.D.Disk.moment g.D.Disk.left_since g.D.Disk.has_failed old new acts chain

pub returns-clause-apart : goal.returns-clause-apart
returns-clause-apart g c = λ old new acts chain lost.
    starts_apart g.W.Wire.did g.D.Disk.holds g.D.Disk.may_leave g.D.Disk.moment g.D.Disk.left_since g.D.Disk.has_failed old new acts chain lost

pub returns-clause-alive : goal.returns-clause-alive
returns-clause-alive g c = λ old new second goes on.
    seen_alive g.W.Wire.did g.D.Disk.holds g.D.Disk.may_leave g.D.Disk.moment g.D.Disk.left_since g.D.Disk.has_failed g.met.W.Wire.did_nothing g.met.W.Wire.did_more old new second goes on

pub returns-clause-kept : goal.returns-clause-kept
returns-clause-kept g c = λ old new acts first chain is.
    kept_in g.D.Disk.holds g.D.Disk.may_leave g.D.Disk.moment g.D.Disk.left_since g.D.Disk.has_failed (GoesByLine g.W.Wire.did g.D.Disk.holds g.D.Disk.may_leave g.D.Disk.moment g.D.Disk.left_since g.D.Disk.has_failed) (λ w. w.log.disk)
    (λ s t act p. p.logged) old new acts first chain is

pub returns-clause-second : goal.returns-clause-second
returns-clause-second g c = λ old new second begin acts chain none.
    second_within g.W.Wire.did g.D.Disk.holds g.D.Disk.may_leave g.D.Disk.moment g.D.Disk.left_since g.D.Disk.has_failed old new second begin acts chain none
