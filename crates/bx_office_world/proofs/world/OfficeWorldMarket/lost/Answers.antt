use Rattle.bx_office_world.proofs.Deals.{shown_lost}
use Rattle.bx_office_world.proofs.world.OfficeWorldMarket.lost.Goals as goal

pub returns : goal.returns
returns g c = shown_lost g.W.World.did g.S.Lends.lent g.met.W.World.did_nothing c.args.self.now.world c.args.self.now.office c.args._exchange.now
