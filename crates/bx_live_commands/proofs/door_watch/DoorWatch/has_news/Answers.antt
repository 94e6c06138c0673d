use Rattle.std.proofs.Common.{◌≡◌, ◌&&◌, rules, refl, inr, true, false, subst, Option}
use Rattle.bx_office_door.specs.Lending.{Taken}
use Rattle.bx_office_door.specs.declared.door.Door.{Door}
use Rattle.bx_live_commands.specs.DoorWatches.{is_to_be_told}
use Rattle.bx_live_commands.proofs.door_watch.DoorWatch.has_news.Goals as goal

pub returns-then-not-is_lacking : goal.returns-then-not-is_lacking
returns-then-not-is_lacking g c =
    let door = c.in-Some.door in
    let taken = subst (λ (d : Option Door). g.S.Lends.lent c.args.self.now.door (Taken d) c.take.new.self) c.in-Some.is c.take.ensures in
    let news : false ≡ (door.has_lacked && is_to_be_told c.args.self.now.told door.shown) = search rules in
    inr (record { before = door; after = c.take_lack-is_lacking.new.self; mid = c.take.new.self; taken = taken; used = record { rest = c.take_lack-is_lacking.ensures.rest; news = news; told_then = refl }; put_back = c.put_back.ensures })

pub returns : goal.returns
returns g c =
    let door = c.in-Some.door in
    let taken = subst (λ (d : Option Door). g.S.Lends.lent c.args.self.now.door (Taken d) c.take.new.self) c.in-Some.is c.take.ensures in
    let news : true ≡ (door.has_lacked && is_to_be_told c.args.self.now.told door.shown) = search rules in
    inr (record { before = door; after = c.take_lack-is_lacking.new.self; mid = c.take.new.self; taken = taken; used = record { rest = c.take_lack-is_lacking.ensures.rest; news = news; told_then = rw c.shown-shown.ensures refl }; put_back = c.put_back.ensures })
