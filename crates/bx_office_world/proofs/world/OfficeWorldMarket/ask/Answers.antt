use Rattle.std.proofs.Common.{◌≡◌, rules, sym, subst}
use Rattle.bx_office_door.specs.Lending.{WasLookedAt}
use Rattle.bx_office_world.proofs.Deals.{asked, looked}
use Rattle.bx_office_world.specs.KnownKeys.{known_keys}
use Rattle.bx_office_world.proofs.world.OfficeWorldMarket.ask.Goals as goal

pub returns : goal.returns
returns g c =
    let office = c.args.self.now.office in
    let seen = c.match-seen_at.self.office in
    let same : c.match-seen_at.self.world ≡ c.args.self.now.world = search rules in
    let door : seen.door ≡ c.seen_at.new.holder = search rules in
    let opened : seen.desk.opened.now ≡ office.desk.opened.now = search rules in
    let keys : known_keys seen.ledger ≡ known_keys office.ledger = search rules in
    let given_up : seen.desk.given_up.items ≡ office.desk.given_up.items = search rules in
    let look = subst (λ s. WasLookedAt g.S.Lends.lent office.door s) (sym door) (looked g.S.Lends.lent c.seen_at.result office.door c.seen_at.new.holder c.seen_at.ensures) in
    asked g.W.World.did g.S.Lends.lent g.met.W.World.did_nothing c.args.self.now.world c.match-seen_at.self.world office seen c.serve.new.self c.args.exchange.now c.serve.result same look opened keys given_up c.serve.ensures.next
