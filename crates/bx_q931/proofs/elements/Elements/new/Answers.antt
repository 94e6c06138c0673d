use Rattle.bx_q931.specs.Items.{items_in}
use Rattle.bx_q931.proofs.PassLemmas.{passed_is}
use Rattle.bx_q931.proofs.elements.Elements.new.Goals as goal

pub returns : goal.returns
returns c = passed_is (items_in c.args.items.now)
