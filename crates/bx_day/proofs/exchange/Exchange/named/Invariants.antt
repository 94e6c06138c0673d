use Rattle.bx_q931.specs.Messages.{PlainMessage}
use Rattle.bx_calls.specs.Said.{said_under}
use Rattle.bx_events.specs.declared.rules.Rules.{Rules}
use Rattle.bx_day.specs.Receipts.{names}
use Rattle.bx_day.proofs.SlotLemmas.{IsFirstBelow}
use Rattle.bx_day.proofs.exchange.Exchange.named.Given as goal

abbrev pub invariant-loop-number : goal.invariant-loop-number
invariant-loop-number l = (u : Rules) (m : PlainMessage) → IsFirstBelow (names (said_under u l.reference l.flag m)) l.self.entries l.number l.first
