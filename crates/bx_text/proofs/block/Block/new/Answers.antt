use Rattle.std.proofs.Common.{rules}
use Rattle.bx_text.proofs.block.Block.new.Goals as goal

pub returns : goal.returns
returns c = search rules steps 60000
