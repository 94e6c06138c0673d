use Rattle.std.proofs.Common.{◌++◌}
use Rattle.bx_journal.proofs.Logged.{pending}
use Rattle.bx_live.proofs.log.bring_to_disk.Goals as goal

pub returns-in-Ok : goal.returns-in-Ok
returns-in-Ok g c = record {
  committed = λ e head events more p. pending g.D.Disk.holds g.D.Disk.may_leave c.commit.new.disk head (events ++ more) (c.in-Ok.ensures.committed head events more p);
  any_moment = c.in-Ok.ensures.any_moment;
  failed = λ e. absurd cc;
  unfailed = λ e. c.in-Ok.ensures.unfailed;
}
