use Rattle.std.proofs.Common.{rules}
use Rattle.bx_day.proofs.exchange.Exchange.moment.Goals as goal

pub returns-clause-value : goal.returns-clause-value
returns-clause-value c = search rules steps 60000
