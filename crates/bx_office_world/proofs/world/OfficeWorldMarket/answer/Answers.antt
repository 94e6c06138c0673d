use Rattle.std.proofs.Common.{◌≡◌, ◌∙◌, rules, refl, sym, ap, subst, Option, Some, None}
use Rattle.bx_office_world.proofs.Deals.{answered}
use Rattle.bx_office_world.specs.Counters.{IsSaleTold, IsSoldToldAt}
use Rattle.bx_office_world.specs.KnownKeys.{known_keys}
use Rattle.bx_office_world.specs.Offered.{terms_of}
use Rattle.bx_office_world.specs.declared.serving.Pending.{Pending}
use Rattle.bx_office_world.specs.declared.serving.Pending.TheVariants as pending
use Rattle.bx_office_world.specs.declared.tariff.Terms.{Terms}
use Rattle.bx_office_world.proofs.world.OfficeWorldMarket.answer.Goals as goal

pub returns-in_default : goal.returns-in_default
returns-in_default g c =
    let office = c.args.self.now.office in
    let told : IsSaleTold g.S.Lends.lent office.desk.opened.now office.pending c.args.answers.now office.door office.door = search rules in
    answered g.W.World.did g.S.Lends.lent g.met.W.World.did_nothing c.args.self.now.world c.args.self.now.world office _ c.args.answers.now refl refl refl refl told (search rules)

pub returns-in_default-2 : goal.returns-in_default-2
returns-in_default-2 g c =
    let office = c.args.self.now.office in
    let told : IsSaleTold g.S.Lends.lent office.desk.opened.now office.pending c.args.answers.now office.door office.door = search rules in
    answered g.W.World.did g.S.Lends.lent g.met.W.World.did_nothing c.args.self.now.world c.args.self.now.world office _ c.args.answers.now refl refl refl refl told (search rules)

pub returns : goal.returns
returns g c =
    let office = c.args.self.now.office in
    let tells = c.if-selling.self.office in
    let same : c.if-selling.self.world ≡ c.args.self.now.world = search rules in
    let door : tells.door ≡ office.door = search rules in
    let opened : tells.desk.opened.now ≡ office.desk.opened.now = search rules in
    let keys : known_keys tells.ledger ≡ known_keys office.ledger = search rules in
    let given_up : tells.desk.given_up.items ≡ office.desk.given_up.items = search rules in
    let nobody : tells.pending ≡ None = search rules in
    let waits : office.pending ≡ Some (pending.Sale c.in-Some-Sale.selling) = search rules in
    let terms : c.terms-terms.result ≡ terms_of office.desk.opened.now = c.terms-terms.ensures ∙ ap terms_of opened in
    let there = subst (λ (d : g.row.S.Denot). IsSoldToldAt g.S.Lends.lent c.terms-terms.result c.in-Some-Sale.selling c.args.answers.now d c.tell_sold_at.new.holder) door c.tell_sold_at.ensures in
    let sold = subst (λ (t : Terms). IsSoldToldAt g.S.Lends.lent t c.in-Some-Sale.selling c.args.answers.now office.door c.tell_sold_at.new.holder) terms there in
    let told = subst (λ (p : Option Pending). IsSaleTold g.S.Lends.lent office.desk.opened.now p c.args.answers.now office.door c.tell_sold_at.new.holder) (sym waits) sold in
    answered g.W.World.did g.S.Lends.lent g.met.W.World.did_nothing c.args.self.now.world c.if-selling.self.world office _ c.args.answers.now same opened keys given_up told nobody
