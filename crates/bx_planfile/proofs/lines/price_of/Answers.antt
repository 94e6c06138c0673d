use Rattle.bx_planfile.specs.Forms.{price_form, is_charge}
use Rattle.bx_planfile.specs.Capped.{capped_charge}
use Rattle.bx_planfile.specs.Values.{charge_of_values}
use Rattle.bx_planfile.specs.Reading.{read_price}
use Rattle.bx_planfile.proofs.Cap.{capped_gives, charge-capped, charge_is}
use Rattle.bx_planfile.proofs.lines.price_of.Goals as goal

pub returns : goal.returns
unfolding read_price
returns c =
    let read = rw c.in_ok-values.ensures.ok_part at c.price_values.ensures in
    rw c.ok_or-2.ensures.value (capped_gives capped_charge is_charge charge-capped charge_is (λ x. x) (price_form c.args.fields) c.args.n (charge_of_values c.in_ok-values.values) c.within_limits.result read c.within_limits.ensures)
