use Rattle.std.proofs.Common.{◌≡◌, ◌++◌}
use Rattle.bx_recovery.proofs.replaying.keep_all.Given as goal

abbrev pub invariant-loop-octets : goal.invariant-loop-octets
invariant-loop-octets l = l.sent.items ++ l.octets-iterator ≡ l.fn.sent.items ++ l.fn.more.items
