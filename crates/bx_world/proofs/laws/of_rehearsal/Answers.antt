use Rattle.bx_world.specs.Rehearsals.{Rehearses, OnLost}
use Rattle.bx_live.proofs.Projections.{chain_map, kept_in}
use Rattle.bx_world.proofs.Losing.{none_ended}
use Rattle.bx_world.proofs.laws.of_rehearsal.Goals as goal

pub returns-clause-stays : goal.returns-clause-stays
returns-clause-stays g c = λ old new acts chain none.
    none_ended old.lost new.lost acts (chain_map (Rehearses g.P.Peer.wrote g.P.Peer.gave g.P.Peer.parted g.D.Disk.holds g.D.Disk.may_leave g.D.Disk.moment g.D.Disk.left_since g.D.Disk.has_failed) OnLost (λ w. w.lost) (λ s t act p. p.lost) old new acts chain) none

pub returns-clause-kept : goal.returns-clause-kept
returns-clause-kept g c = λ old new acts first chain is.
    kept_in g.D.Disk.holds g.D.Disk.may_leave g.D.Disk.moment g.D.Disk.left_since g.D.Disk.has_failed (Rehearses g.P.Peer.wrote g.P.Peer.gave g.P.Peer.parted g.D.Disk.holds g.D.Disk.may_leave g.D.Disk.moment g.D.Disk.left_since g.D.Disk.has_failed)
    (λ w. w.log.disk) (λ s t act p. p.logged) old new acts first chain is
