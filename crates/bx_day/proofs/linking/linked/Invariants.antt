use Rattle.std.proofs.Common.{◌-◌, length}
use Rattle.bx_day.proofs.LinkLemmas.{AreLinkedFrom}
use Rattle.bx_day.proofs.linking.linked.Given as goal

abbrev pub invariant-loop-k : goal.invariant-loop-k
invariant-loop-k l = AreLinkedFrom l.entries l.order.items (length l.order.items - l.k) l.first l.following.items
