use Rattle.std.specs.Fmt.{decimal}
use Rattle.bx_chart.proofs.Clears.{added, clear_decimal}
use Rattle.bx_chart.proofs.barless.Barless.add_decimal.Goals as goal

pub invariant_of-self : goal.invariant_of-self
invariant_of-self c =
    record { clear = added c.add_decimal.result c.args.self.now.picture.text.items (decimal c.args.number) c.add_decimal.new.self.text.items c.args.self.now.clear (clear_decimal c.args.number c.ranges.number.fits) c.add_decimal.ensures.added c.add_decimal.ensures.stays }
