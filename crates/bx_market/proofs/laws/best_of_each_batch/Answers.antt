use Rattle.std.proofs.Common.{[]}
use Rattle.bx_live.specs.Runs.{Between}
use Rattle.bx_market.specs.Stands.{Within}
use Rattle.bx_market.proofs.Best.{told_of_best}
use Rattle.bx_market.proofs.laws.best_of_each_batch.Goals as goal

pub returns : goal.returns
returns c channels d before following answers to run = told_of_best channels [] before following answers (Within (Between d)) to tt run
