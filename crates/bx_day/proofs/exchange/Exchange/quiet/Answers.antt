use Rattle.std.proofs.Common.{arith}
use Rattle.bx_day.proofs.Dues.{quiet_until, not_quiet}
use Rattle.bx_day.proofs.exchange.Exchange.quiet.Goals as goal

pub returns-clause-each : goal.returns-clause-each
returns-clause-each c k lt = quiet_until c.args.self.now c.known_due.result k c.moment-moment.ensures.day c.known_due.ensures (omega (arith, lt, c.saturating_sub.ensures, c.moment-moment.ensures.value))

pub returns-clause-exact : goal.returns-clause-exact
returns-clause-exact c = not_quiet c.args.self.now c.known_due.result c.saturating_sub.result c.known_due.ensures (omega (arith, c.saturating_sub.ensures, c.moment-moment.ensures.value))
