use Rattle.bx_office_world.proofs.Deals.{shown_moved}
use Rattle.bx_office_world.proofs.world.OfficeWorldMarket.moved.Goals as goal

pub returns : goal.returns
returns g c = shown_moved g.W.World.did g.S.Lends.lent g.met.W.World.did_nothing c.args.self.now.world c.args.self.now.office c.args._exchange.now c.args._is_whole
