use Rattle.std.proofs.Common.{refl}
use Rattle.bx_rehearsal_commands.proofs.RehearsalRuns.{at_any, rehearsed_towards, towards_stopped, towards_unput}
use Rattle.bx_rehearsal_commands.proofs.rehearsing.rehearse.Goals as goal

pub returns-clause-ran : goal.returns-clause-ran
returns-clause-ran g c =
    let ran = c.run_in-world in
    rehearsed_towards g.P.Peer.wrote g.P.Peer.gave g.P.Peer.parted g.D.Disk.holds g.D.Disk.may_leave g.D.Disk.has_failed g.F.Write.contents c.args.opened c.args.peer c.args.view.file c.args.view.first
    (record { exchange = ran.new.exchange; disk = c.in_ok-disk.disk; lost = ran.result.world.lost; is_whole = ran.result.is_whole }) c.in_ok-kept.kept ran.result.world ran.result.done c.in_ok-done.was c.in_ok-kept.ensures.begun
    c.in_ok-disk.ensures.away refl ran.ensures

pub returns-in_err-done-clause-failed : goal.returns-in_err-done-clause-failed
returns-in_err-done-clause-failed g c =
    let ran = c.run_in-world in
    at_any c.from_residual-in_err-done.result
    (towards_stopped g.P.Peer.wrote g.P.Peer.gave g.P.Peer.parted g.D.Disk.holds g.D.Disk.may_leave g.D.Disk.has_failed g.F.Write.contents c.args.opened c.args.peer c.in_ok-kept.kept ran.result.world ran.new.exchange ran.result.done c.in_err-done.field-0.0 c.args.view.file c.args.view.first ran.result.is_whole c.in_err-done.was c.in_ok-kept.ensures.begun ran.ensures)

pub returns-in_err-disk-clause-failed : goal.returns-in_err-disk-clause-failed
returns-in_err-disk-clause-failed g c =
    let ran = c.run_in-world in
    at_any c.from_residual-in_err-disk.result
    (towards_unput g.P.Peer.wrote g.P.Peer.gave g.P.Peer.parted g.D.Disk.holds g.D.Disk.may_leave g.D.Disk.has_failed g.F.Write.contents c.args.opened c.args.peer c.in_ok-kept.kept ran.result.world ran.new.exchange ran.result.done c.args.view.file c.args.view.first ran.result.is_whole c.in_ok-kept.ensures.begun ran.ensures c.in_err-disk.ensures.failed)
