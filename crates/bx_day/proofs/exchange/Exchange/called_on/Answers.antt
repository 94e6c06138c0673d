use Rattle.bx_day.proofs.Received.{lowest_opens}
use Rattle.bx_day.proofs.exchange.Exchange.called_on.Goals as goal

pub take-requires-clause-open : goal.take-requires-clause-open
take-requires-clause-open c = lowest_opens c.args.self.now c.lowest-index.result c.lowest-index.ensures.first
