use Rattle.std.proofs.Common.{refl}
use Rattle.bx_market.specs.Stands.{Filing}
use Rattle.bx_market.proofs.Steps.{none_asked}
use Rattle.bx_market.proofs.offering.settle.Goals as goal

pub returns-clause-offered : goal.returns-clause-offered
returns-clause-offered g c shown batch sold = (none_asked c.args.channels g.met.W.Market.dealt_by g.met.W.World.did_nothing c.args.world.now (Filing shown c.args.exchange.now c.args.tag batch sold), refl)
