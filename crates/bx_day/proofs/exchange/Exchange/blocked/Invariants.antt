use Rattle.bx_day.proofs.SlotLemmas.{IsBlockedBelow}
use Rattle.bx_day.proofs.exchange.Exchange.blocked.Given as goal

abbrev pub invariant-loop-number : goal.invariant-loop-number
invariant-loop-number l = IsBlockedBelow l.self l.number l.blocked
