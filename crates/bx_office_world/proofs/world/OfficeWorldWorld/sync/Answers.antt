use Rattle.std.proofs.Common.{rules, refl}
use Rattle.bx_office_world.proofs.Deals.{looked}
use Rattle.bx_office_world.proofs.world.OfficeWorldWorld.sync.Goals as goal

pub returns : goal.returns
returns g c = (search rules, record { door = looked g.S.Lends.lent c.seen_at.result c.args.self.now.office.door c.seen_at.new.holder c.seen_at.ensures; opened = refl; waits = refl; keys = refl }, refl)
