use Rattle.bx_audit.proofs.OnItsDay.{same_packets, same_day}
use Rattle.bx_audit.proofs.laws.as_on_its_day.Goals as goal

pub returns-clause-packets : goal.returns-clause-packets
returns-clause-packets c first events d = same_packets first events d

pub returns-clause-day : goal.returns-clause-day
returns-clause-day c events d = same_day events d
