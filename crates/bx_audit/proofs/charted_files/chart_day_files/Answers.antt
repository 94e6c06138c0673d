use Rattle.bx_day_chart.specs.Sights.{sight_of}
use Rattle.bx_audit.proofs.Handed.{on_ok, if_err, undrawn}
use Rattle.bx_audit.proofs.charted_files.chart_day_files.Goals as goal

pub returns-clause-done : goal.returns-clause-done
returns-clause-done g c =
    let day = c.in_ok-day.day in
    on_ok _ _ c.draw.result
    (λ drawn. record {
      day = day.exchange;
      channels = day.channels;
      sight = sight_of day.sight;
      seen = c.in_ok-day.ensures.seen;
      clock = c.in_ok-clock.clock;
      clock_of = c.in_ok-clock.ensures.clock;
      drawn = drawn;
    }) c.draw.ensures.drawn

pub returns-clause-refused : goal.returns-clause-refused
returns-clause-refused g c =
    let day = c.in_ok-day.day in
    if_err _ _ c.draw.result
    (undrawn (g.I.Inputs.gives c.args.inputs.now) c.args.request g.W.Write.contents c.args.output.now c.draw.new.output day.exchange day.channels (sight_of day.sight) c.in_ok-clock.clock c.in_ok-day.ensures.seen c.in_ok-clock.ensures.clock)
    c.draw.ensures.undrawn
