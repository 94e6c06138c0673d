use Rattle.std.proofs.Common.{rules}
use Rattle.bx_day.proofs.exchange.Exchange.outcome.Goals as goal

pub returns-then-row-eq0 : goal.returns-then-row-eq0
returns-then-row-eq0 c = search rules steps 60000
