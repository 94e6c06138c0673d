use Rattle.bx_day.proofs.DueSlots.{IsDueBelow}
use Rattle.bx_day.proofs.exchange.Exchange.next_due.Given as goal

abbrev pub invariant-loop-number : goal.invariant-loop-number
invariant-loop-number l = IsDueBelow l.self l.number l.due
