use Rattle.std.proofs.Common.{◌≡◌, drop}
use Rattle.bx_lapd.proofs.data_link.drop_first.Given as goal

abbrev pub invariant-loop-taken : goal.invariant-loop-taken
invariant-loop-taken l = l.queue.items ≡ drop l._taken l.initial.queue.items
