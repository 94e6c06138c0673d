use Rattle.std.proofs.Common.{◌≡◌, rules, refl, subst, Option, Some}
use Rattle.bx_office_door.specs.Lending.{Taken}
use Rattle.bx_office_door.specs.declared.door.Door.{Door}
use Rattle.bx_office_world.proofs.counter.seen_at.Goals as goal

pub returns : goal.returns
returns g c =
    let there : c.take.result ≡ Some c.in_ok-door.door = search rules in
    let taken = subst (λ (d : Option Door). g.S.Lends.lent c.args.holder.now (Taken d) c.take.new.self) there c.take.ensures in
    record { before = c.in_ok-door.door; after = c.in_ok-door.door; mid = c.take.new.self; taken = taken; used = (refl, rw (c.answers.ensures, c.shown.ensures) refl); put_back = c.put_back.ensures }
