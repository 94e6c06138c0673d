use Rattle.std.proofs.Common.{arith, rules}
use Rattle.std.proofs.lemmas.Grind.{common_steps}
use Rattle.bx_base.proofs.channel_set.ChannelSet.without.Goals as goal

pub returns-clause-value : goal.returns-clause-value
returns-clause-value c = search rules steps 60000

pub returns-clause-removed : goal.returns-clause-removed
returns-clause-removed c = grind (arith, common_steps) steps 60000

pub returns-clause-others : goal.returns-clause-others
returns-clause-others c = grind (arith, common_steps) steps 60000

pub invariant_of-self : goal.invariant_of-self
invariant_of-self c = search rules steps 400000
