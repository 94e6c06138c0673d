use Rattle.bx_planner.proofs.MostPaid.{most_paid}
use Rattle.bx_planner.proofs.laws.price_of_a_channel.Goals as goal

pub returns : goal.returns
returns c = most_paid
