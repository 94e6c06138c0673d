use Rattle.bx_line.proofs.Crossings.{crosses_from_flow, flow_from_crosses}
use Rattle.bx_line.proofs.laws.units_cross_each_gap.Goals as goal

pub returns : goal.returns
returns c = λ line flow network. (crosses_from_flow line flow network, flow_from_crosses line flow network)
