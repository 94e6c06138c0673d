use Rattle.std.proofs.Common.{rules, refl}
use Rattle.std.proofs.lemmas.Result.{err_from_is_err_and}
use Rattle.bx_market.specs.Deals.{acts_of}
use Rattle.bx_live_commands.proofs.ToldAtDoor.{told_at_door, noted_between}
use Rattle.bx_live_commands.proofs.SaleStops.{sale_ok, sale_err, sells_by, stops_by, selling_kept}
use Rattle.bx_live_commands.proofs.by_office.run_with_office.Goals as goal

pub returns-clause-ran : goal.returns-clause-ran
returns-clause-ran g c =
    let w = sale_ok c.in_ok-done.was c.run_market-done.ensures in
    sells_by g.W.Wire.did g.S.Lends.lent g.D.Disk.holds g.D.Disk.may_leave g.D.Disk.moment g.D.Disk.left_since g.D.Disk.has_failed c.args.wire c.args.schedule c.args.resumed.log c.args.premises c.args.turns c.args.resumed.exchange c.run_market-done.new.exchange c.args.resumed.given_up.items c.into_given_up.result.items c.new-telling.result.world c.new-world.result c.run_market-done.new.world.world.world.world c.new-telling.ensures
    (search rules) (search rules) (search rules) (search rules) c.new-world.ensures.schedule c.new-world.ensures.kept (search rules) (search rules)
    (record { run = record { deals = w.run.deals; done = w.run.done.acts; goes = w.run.goes }; through = w.through; held = w.held; out = w.out }, (told_at_door g.S.Lends.lent c.args.premises c.args.turns w.run.deals c.opened_until-opened.result _ _ c.run_market-done.new.world.office.door _ c.run_market-done.new.world.office.pending (record { channels = c.opened_until-opened.ensures.2; day = c.opened_until-opened.ensures.3; rate = c.opened_until-opened.ensures.1; last = c.opened_until-opened.ensures.0 }) (search rules) (search rules) (search rules) w.run.done.told), noted_between (acts_of w.run.deals) c.args.resumed.given_up.items _ c.run_market-done.new.world.office.desk.given_up.items c.into_given_up.result.items (search rules) (search rules) w.run.done.given_up)

pub returns-in_err-done-clause-failed : goal.returns-in_err-done-clause-failed
returns-in_err-done-clause-failed g c =
    let p = err_from_is_err_and c.from_residual.result c.from_residual.ensures.1 in
    let b = sale_err c.run_market-done.new.exchange c.in_err-done.was c.run_market-done.ensures in
    rw p.1
    (selling_kept g.W.Wire.did g.S.Lends.lent g.D.Disk.holds g.D.Disk.may_leave g.D.Disk.moment g.D.Disk.left_since g.D.Disk.has_failed c.args.wire c.args.schedule c.args.resumed.log c.args.premises c.args.turns c.args.resumed.exchange c.args.resumed.log.disk refl
    (stops_by g.W.Wire.did g.S.Lends.lent g.D.Disk.holds g.D.Disk.may_leave g.D.Disk.moment g.D.Disk.left_since g.D.Disk.has_failed c.args.wire c.args.schedule c.args.resumed.log c.args.premises c.args.turns c.args.resumed.exchange c.new-telling.result.world c.new-world.result c.run_market-done.new.world.world.world.world c.new-telling.ensures
    (search rules) (search rules) (search rules) (search rules) c.new-world.ensures.schedule c.new-world.ensures.kept
    (record { over = b.over; run = record { deals = b.run.deals; done = b.run.done.acts; goes = b.run.goes }; through = b.through; held = b.held }, (told_at_door g.S.Lends.lent c.args.premises c.args.turns b.run.deals c.opened_until-opened.result _ _ c.run_market-done.new.world.office.door _ c.run_market-done.new.world.office.pending (record { channels = c.opened_until-opened.ensures.2; day = c.opened_until-opened.ensures.3; rate = c.opened_until-opened.ensures.1; last = c.opened_until-opened.ensures.0 }) (search rules) (search rules) (search rules) b.run.done.told))))

pub returns-in_err-done-clause-stopped : goal.returns-in_err-done-clause-stopped
returns-in_err-done-clause-stopped g c =
    let p = err_from_is_err_and c.from_residual.result c.from_residual.ensures.1 in
    let b = sale_err c.run_market-done.new.exchange c.in_err-done.was c.run_market-done.ensures in
    rw p.1
    (stops_by g.W.Wire.did g.S.Lends.lent g.D.Disk.holds g.D.Disk.may_leave g.D.Disk.moment g.D.Disk.left_since g.D.Disk.has_failed c.args.wire c.args.schedule c.args.resumed.log c.args.premises c.args.turns c.args.resumed.exchange c.new-telling.result.world c.new-world.result c.run_market-done.new.world.world.world.world c.new-telling.ensures
    (search rules) (search rules) (search rules) (search rules) c.new-world.ensures.schedule c.new-world.ensures.kept
    (record { over = b.over; run = record { deals = b.run.deals; done = b.run.done.acts; goes = b.run.goes }; through = b.through; held = b.held }, (told_at_door g.S.Lends.lent c.args.premises c.args.turns b.run.deals c.opened_until-opened.result _ _ c.run_market-done.new.world.office.door _ c.run_market-done.new.world.office.pending (record { channels = c.opened_until-opened.ensures.2; day = c.opened_until-opened.ensures.3; rate = c.opened_until-opened.ensures.1; last = c.opened_until-opened.ensures.0 }) (search rules) (search rules) (search rules) b.run.done.told)))
