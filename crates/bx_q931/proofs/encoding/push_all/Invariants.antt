use Rattle.std.proofs.Common.{◌≡◌, ◌++◌, take}
use Rattle.bx_q931.proofs.encoding.push_all.Given as goal

abbrev pub invariant-loop-octet : goal.invariant-loop-octet
invariant-loop-octet l = l.octets.items ≡ l.fn.octets.items ++ take l.octet-index l.more
