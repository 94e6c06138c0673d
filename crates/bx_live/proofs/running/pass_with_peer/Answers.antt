use Rattle.std.proofs.Common.{refl}
use Rattle.bx_live.specs.declared.world.Loss.TheVariants as losses
use Rattle.bx_live.specs.Acts.{Dropped}
use Rattle.bx_live.specs.Runs.{Losing}
use Rattle.bx_live.proofs.Steps.{one_done, then_done}
use Rattle.bx_live.proofs.running.pass_with_peer.Goals as goal

pub returns-in-Err-Link-clause-ran : goal.returns-in-Err-Link-clause-ran
returns-in-Err-Link-clause-ran g c =
    let loss = losses.Fault c.in-Err-Link.fault in
    let ran = rw c.in-Err-Link.field-0-is at c.in-Err-Link.ensures.ran in
    then_done g.met.W.World.did_more ran (one_done (Losing c.run_turn.new.exchange loss) (Dropped loss) refl c.drop_peer.ensures refl)
