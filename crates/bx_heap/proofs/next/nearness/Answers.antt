use Rattle.std.proofs.Common.{rules}
use Rattle.bx_heap.proofs.next.nearness.Goals as goal

pub returns : goal.returns
returns c = search rules steps 60000
