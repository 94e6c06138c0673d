use Rattle.bx_q931.proofs.ValueLemmas.{number_if}
use Rattle.bx_far.proofs.row.number.Goals as goal

pub returns : goal.returns
returns c = number_if c.args.field.now c.new.result c.new.ensures.exactly c.new.ensures.value
