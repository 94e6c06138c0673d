use Rattle.bx_market.specs.Deals.{Asked}
use Rattle.std.proofs.Common.{Some, ◌∷◌, ◌++◌}
use Rattle.bx_office_world.proofs.Once.{none_under, not_two}
use Rattle.bx_office_world.proofs.laws.once_per_key.Goals as goal

pub returns : goal.returns
returns c before between d e first second tag other after old new once one two =
    (none_under before d first tag (between ++ Asked e (Some second) ∷ after) old new once one, not_two before between d e first second tag other after old new once one two)
