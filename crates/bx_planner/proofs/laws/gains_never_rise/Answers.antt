use Rattle.bx_planner.proofs.Exchange.{gains_fall}
use Rattle.bx_planner.proofs.laws.gains_never_rise.Goals as goal

pub returns : goal.returns
returns c = gains_fall
