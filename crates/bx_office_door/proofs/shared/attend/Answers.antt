use Rattle.std.proofs.Common.{inr, refl, subst, Option}
use Rattle.bx_office_door.specs.Lending.{Taken}
use Rattle.bx_office_door.specs.declared.door.Door.{Door}
use Rattle.bx_office_door.proofs.shared.attend.Goals as goal

pub returns-in-Some : goal.returns-in-Some
returns-in-Some g c =
    let taken = subst (λ (d : Option Door). g.S.Lends.lent c.args.holder.now (Taken d) c.take.new.self) c.in-Some.is c.take.ensures in
    (c.put_back.new.self, inr (record { before = c.in-Some.door; after = c.attend.new.self; mid = c.take.new.self; taken = taken; used = c.attend.ensures; put_back = c.put_back.ensures }), refl)
