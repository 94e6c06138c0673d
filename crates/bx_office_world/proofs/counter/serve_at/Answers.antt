use Rattle.std.proofs.Common.{◌≡◌, rules, inr, subst, Option, Some}
use Rattle.bx_office_door.specs.Lending.{Taken}
use Rattle.bx_office_door.specs.declared.door.Door.{Door}
use Rattle.bx_office_world.proofs.counter.serve_at.Goals as goal

pub returns-clause-served : goal.returns-clause-served
returns-clause-served g c =
    let there : c.take.result ≡ Some c.in_ok-door.door = search rules in
    let taken = subst (λ (d : Option Door). g.S.Lends.lent c.args.holder.now (Taken d) c.take.new.self) there c.take.ensures in
    inr (record { before = c.in_ok-door.door; after = c.serve-next.new.door; mid = c.take.new.self; taken = taken; used = record { mid = c.prepare.new.door; prepared = c.prepare.ensures; served = c.serve-next.ensures.served }; put_back = c.put_back.ensures })
