use Rattle.std.proofs.Common.{rules}
use Rattle.std.proofs.lemmas.Result.{err_from_is_err_and}
use Rattle.bx_live_commands.proofs.LineRuns.{by_line, failed_line, stopped_line}
use Rattle.bx_live_commands.proofs.SaleStops.{sale_ok, sale_err}
use Rattle.bx_live_commands.proofs.by_line.run_by_clock.Goals as goal

pub returns-clause-ran : goal.returns-clause-ran
returns-clause-ran g c =
    let w = sale_ok c.in_ok-done.was c.run_market-done.ensures in
    by_line g.W.Wire.did g.D.Disk.holds g.D.Disk.may_leave g.D.Disk.moment g.D.Disk.left_since g.D.Disk.has_failed c.args.wire c.args.schedule c.args.resumed.log c.args.channels c.args.turns c.args.resumed.exchange c.run_market-done.new.exchange c.args.resumed.given_up.items c.run_market-done.new.world.given_up.items
    c.new-telling.result.world c.new-world.result c.run_market-done.new.world.world.world.world c.new-telling.ensures (search rules) c.new-world.ensures.schedule c.new-world.ensures.kept (search rules) (search rules)
    (record { run = record { deals = w.run.deals; done = w.run.done.acts; goes = w.run.goes }; through = w.through; held = w.held; out = w.out }, w.run.done.unasked, w.run.done.noted)

pub returns-in_err-done-clause-failed : goal.returns-in_err-done-clause-failed
returns-in_err-done-clause-failed g c =
    let p = err_from_is_err_and c.from_residual.result c.from_residual.ensures.1 in
    let b = sale_err c.run_market-done.new.exchange c.in_err-done.was c.run_market-done.ensures in
    rw p.1
    (failed_line g.W.Wire.did g.D.Disk.holds g.D.Disk.may_leave g.D.Disk.moment g.D.Disk.left_since g.D.Disk.has_failed c.args.wire c.args.schedule c.args.resumed.log c.args.channels c.args.turns c.args.resumed.exchange
    (stopped_line g.W.Wire.did g.D.Disk.holds g.D.Disk.may_leave g.D.Disk.moment g.D.Disk.left_since g.D.Disk.has_failed c.args.wire c.args.schedule c.args.resumed.log c.args.channels c.args.turns c.args.resumed.exchange
    c.new-telling.result.world c.new-world.result c.run_market-done.new.world.world.world.world c.new-telling.ensures (search rules) c.new-world.ensures.schedule c.new-world.ensures.kept
    (record { over = b.over; run = record { deals = b.run.deals; done = b.run.done.acts; goes = b.run.goes }; through = b.through; held = b.held }, b.run.done.unasked)))

pub returns-in_err-done-clause-stopped : goal.returns-in_err-done-clause-stopped
returns-in_err-done-clause-stopped g c =
    let p = err_from_is_err_and c.from_residual.result c.from_residual.ensures.1 in
    let b = sale_err c.run_market-done.new.exchange c.in_err-done.was c.run_market-done.ensures in
    rw p.1
    (stopped_line g.W.Wire.did g.D.Disk.holds g.D.Disk.may_leave g.D.Disk.moment g.D.Disk.left_since g.D.Disk.has_failed c.args.wire c.args.schedule c.args.resumed.log c.args.channels c.args.turns c.args.resumed.exchange
    c.new-telling.result.world c.new-world.result c.run_market-done.new.world.world.world.world c.new-telling.ensures (search rules) c.new-world.ensures.schedule c.new-world.ensures.kept
    (record { over = b.over; run = record { deals = b.run.deals; done = b.run.done.acts; goes = b.run.goes }; through = b.through; held = b.held }, b.run.done.unasked))
