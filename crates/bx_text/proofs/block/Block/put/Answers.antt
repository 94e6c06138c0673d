use Rattle.std.proofs.Common.{rules}
use Rattle.bx_text.proofs.block.Block.put.Goals as goal

pub returns-in-Err : goal.returns-in-Err
returns-in-Err g c = search rules steps 400000
