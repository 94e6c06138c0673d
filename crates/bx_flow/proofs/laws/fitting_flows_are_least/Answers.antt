use Rattle.bx_flow.proofs.Certificate.{fitting-least}
use Rattle.bx_flow.proofs.laws.fitting_flows_are_least.Goals as goal

pub returns : goal.returns
returns c = fitting-least
