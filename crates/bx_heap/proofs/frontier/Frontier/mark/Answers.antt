use Rattle.std.proofs.Common.{rules}
use Rattle.bx_heap.proofs.frontier.Frontier.mark.Goals as goal

pub returns : goal.returns
returns c = search rules steps 60000
