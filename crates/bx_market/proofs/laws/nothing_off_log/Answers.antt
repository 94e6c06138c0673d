use Rattle.std.proofs.Common.{[]}
use Rattle.bx_live.specs.Runs.{Between}
use Rattle.bx_market.specs.Stands.{Within}
use Rattle.bx_market.proofs.Logs.{told_on_log}
use Rattle.bx_market.proofs.laws.nothing_off_log.Goals as goal

pub returns : goal.returns
returns c channels d before following answers to run = told_on_log channels [] before following answers (Within (Between d)) to tt run
