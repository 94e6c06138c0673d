use Rattle.std.proofs.Common.{[]}
use Rattle.bx_live.specs.Runs.{Between}
use Rattle.bx_market.specs.Stands.{Within}
use Rattle.bx_market.proofs.Logs.{left_on_log}
use Rattle.bx_market.proofs.laws.least_is_given_up.Goals as goal

pub returns : goal.returns
returns c channels d before following now to run = left_on_log channels [] before following now (Within (Between d)) to tt run
