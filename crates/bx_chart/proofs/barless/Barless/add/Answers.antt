use Rattle.bx_chart.proofs.Clears.{added}
use Rattle.bx_chart.proofs.barless.Barless.add.Goals as goal

pub invariant_of-self : goal.invariant_of-self
invariant_of-self c =
    record { clear = added c.add.result c.args.self.now.picture.text.items c.args.octets.now c.add.new.self.text.items c.args.self.now.clear c.requires.clear c.add.ensures.added c.add.ensures.stays }
