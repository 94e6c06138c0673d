use Rattle.std.proofs.Common.{◌++◌}
use Rattle.bx_journal.specs.Text.{journal_text}
use Rattle.bx_journal.specs.Logging.{IsPrefix}
use Rattle.bx_journal.proofs.Moments.{started, goes_on}
use Rattle.bx_journal.proofs.Logged.{ok_then}
use Rattle.bx_journal.proofs.logging.commit.Goals as goal

pub returns-clause-committed : goal.returns-clause-committed
returns-clause-committed g c = ok_then c.sync.result c.sync.ensures.durable (λ durable head events more s. record {
  day_is = s.day_is;
  events_are = s.events_are;
  written = c.sync.ensures.kept (journal_text head (events ++ more)) s.written;
  durable = durable (journal_text head (events ++ more)) s.written;
})

pub returns-clause-any_moment : goal.returns-clause-any_moment
returns-clause-any_moment g c = λ head events more s.
    let P = IsPrefix head events more in
    let at_start = started g.D.Disk.moment g.D.Disk.left_since c.args.disk.now P (λ f left. s.left f (g.met.D.Disk.only_now c.args.disk.now f left)) in
    goes_on g.D.Disk.moment g.D.Disk.left_since c.args.disk.now c.args.disk.now c.sync.new.self P _ at_start c.sync.ensures.time (λ f now. s.left f (c.sync.ensures.crash f now))
