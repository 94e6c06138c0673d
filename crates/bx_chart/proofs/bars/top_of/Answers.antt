use Rattle.std.proofs.Common.{rules}
use Rattle.bx_chart.proofs.bars.top_of.Goals as goal

pub returns-then-is_must : goal.returns-then-is_must
returns-then-is_must c = search rules steps 60000

pub returns-else-is_must : goal.returns-else-is_must
returns-else-is_must c = search rules steps 60000
