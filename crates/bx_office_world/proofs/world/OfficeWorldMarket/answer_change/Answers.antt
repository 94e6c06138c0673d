use Rattle.std.proofs.Common.{◌≡◌, rules, refl, sym, subst, Option, Some}
use Rattle.bx_office_world.proofs.Deals.{changed}
use Rattle.bx_office_world.specs.Counters.{IsChangingTold}
use Rattle.bx_office_world.specs.declared.serving.Pending.{Pending}
use Rattle.bx_office_world.specs.declared.serving.Pending.TheVariants as pending
use Rattle.bx_office_world.proofs.world.OfficeWorldMarket.answer_change.Goals as goal

pub returns-in-Some-Change : goal.returns-in-Some-Change
returns-in-Some-Change g c =
    let office = c.args.self.now.office in
    let waits : office.pending ≡ Some (pending.Change c.in-Some-Change.changing) = search rules in
    let told = subst (λ (p : Option Pending). IsChangingTold g.S.Lends.lent p c.args.answer office.door c.tell_changed_at.new.holder) (sym waits) c.tell_changed_at.ensures in
    changed g.W.World.did g.S.Lends.lent g.met.W.World.did_nothing c.args.self.now.world c.args.self.now.world office _ c.args.answer refl refl refl refl told (search rules)

pub returns-in_default : goal.returns-in_default
returns-in_default g c =
    let office = c.args.self.now.office in
    let told : IsChangingTold g.S.Lends.lent office.pending c.args.answer office.door office.door = search rules in
    changed g.W.World.did g.S.Lends.lent g.met.W.World.did_nothing c.args.self.now.world c.args.self.now.world office _ c.args.answer refl refl refl refl told (search rules)
