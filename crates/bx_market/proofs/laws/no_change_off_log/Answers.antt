use Rattle.std.proofs.Common.{[]}
use Rattle.bx_live.specs.Runs.{Between}
use Rattle.bx_market.specs.Stands.{Within}
use Rattle.bx_market.proofs.Logs.{change_on_log}
use Rattle.bx_market.proofs.laws.no_change_off_log.Goals as goal

pub returns : goal.returns
returns c channels d before following answer to run = change_on_log channels [] before following answer (Within (Between d)) to tt run
