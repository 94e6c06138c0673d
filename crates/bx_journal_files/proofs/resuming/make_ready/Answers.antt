use Rattle.bx_journal_files.proofs.Results.{on_ok}
use Rattle.bx_journal_files.proofs.ReadyJournals.{ready_on}
use Rattle.bx_journal_files.proofs.resuming.make_ready.Goals as goal

pub returns-in-Ok : goal.returns-in-Ok
returns-in-Ok g c = on_ok c.resume.result (ready_on g.D.Disk.holds g.D.Disk.may_leave c.args.head.now c.args.whole c.args.disk.now c.resume.new.disk c.in-Ok.whole c.in-Ok.is) c.resume.ensures.resumed
