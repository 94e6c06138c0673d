use Rattle.std.proofs.Common.{rules}
use Rattle.bx_day.proofs.moving.follow.Goals as goal

pub returns-in-Broken : goal.returns-in-Broken
returns-in-Broken c = search rules steps 60000
