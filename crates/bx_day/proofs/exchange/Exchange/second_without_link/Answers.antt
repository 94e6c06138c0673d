use Rattle.std.proofs.Common.{rules}
use Rattle.bx_day.proofs.exchange.Exchange.second_without_link.Goals as goal

pub returns-then-self-lt-LAST_MOMENT : goal.returns-then-self-lt-LAST_MOMENT
returns-then-self-lt-LAST_MOMENT c = search rules steps 1000000
