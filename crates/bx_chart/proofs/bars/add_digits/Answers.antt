use Rattle.bx_chart.proofs.Plains.{plain_digits}
use Rattle.bx_chart.proofs.bars.add_digits.Goals as goal

pub add-requires : goal.add-requires
add-requires c = plain_digits c.digits.result.now c.digits.ensures.number.ascii
