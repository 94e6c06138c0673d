use Rattle.bx_audit.proofs.Handed.{on_ok, if_err, unwritten}
use Rattle.bx_audit.proofs.SoldDays.{day_room, last_of}
use Rattle.bx_audit.proofs.sold_plans.sold_files.Goals as goal

pub write_last-requires : goal.write_last-requires
write_last-requires g c t many =
    let day = c.in_ok-day.day in
    day_room (g.I.Inputs.gives c.args.inputs.now) c.args.request.plan.now c.args.request.journal.now day.channels day.exchange c.in_ok-day.ensures.told t many

pub returns-clause-done : goal.returns-clause-done
returns-clause-done g c =
    let day = c.in_ok-day.day in
    on_ok _ _ c.write_last.result
    (λ w. record {
      last = w.last;
      is = last_of (g.I.Inputs.gives c.args.inputs.now) c.args.request.plan.now c.args.request.journal.now day.channels day.exchange c.in_ok-day.ensures.told w.last w.is;
      limits = w.limits;
      written = w.written;
    }) c.write_last.ensures.written

pub returns-clause-refused : goal.returns-clause-refused
returns-clause-refused g c =
    let day = c.in_ok-day.day in
    if_err _ _ c.write_last.result
    (unwritten (g.I.Inputs.gives c.args.inputs.now) c.args.request g.W.Write.contents c.args.output.now c.write_last.new.output day.exchange day.channels c.in_ok-day.ensures.told)
    c.write_last.ensures.unwritten
