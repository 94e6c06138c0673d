use Rattle.bx_flow.proofs.Certificate.{fitting-least}
use Rattle.bx_flow.proofs.Depth.{last_is_deep}
use Rattle.bx_flow.proofs.growing.free_distances.Goals as goal

pub returns-clause-depth : goal.returns-clause-depth
returns-clause-depth g c = λ some. rw c.of.ensures (last_is_deep c.args.line.now c.args.carried.now c.in_ok-dist.dist c.in_ok-dist.ensures)

pub returns-clause-least : goal.returns-clause-least
returns-clause-least g c = fitting-least c.args.line.now c.args.carried.now c.args.potentials.now c.places.ensures.limits c.requires.flow c.requires.fits.fits
