use Rattle.std.proofs.Common.{refl}
use Rattle.bx_live.specs.declared.world.Loss.TheVariants as losses
use Rattle.bx_live.specs.Acts.{Dropped}
use Rattle.bx_link.specs.Runs.{Losing}
use Rattle.bx_link.proofs.Steps.{one_done, then_done}
use Rattle.bx_link.proofs.running.pass_with_link.Goals as goal

pub returns-in-Err-clause-ran : goal.returns-in-Err-clause-ran
returns-in-Err-clause-ran g c =
    let loss = losses.Fault c.in-Err.fault in
    then_done g.met.W.World.did_more c.in-Err.ensures.ran (one_done (Losing c.run_turn.new.far loss) (Dropped loss) c.drop_peer.ensures refl)
