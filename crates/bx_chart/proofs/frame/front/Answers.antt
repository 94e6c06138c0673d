use Rattle.bx_base.specs.PlanParts.{parts_of}
use Rattle.bx_chart.specs.Frames.{legend, lanes_below, opened_day}
use Rattle.bx_chart.specs.Sheets.{room}
use Rattle.bx_chart.proofs.Joined.{fronted}
use Rattle.bx_chart.proofs.frame.front.Goals as goal

pub returns : goal.returns
returns c =
    fronted c.new-picture.result.text.items c.add_legend.new.picture.text.items c.add_lanes.new.picture.text.items c.open_day.new.picture.text.items legend (lanes_below (parts_of c.args.plan.now).channels 32) (opened_day (room c.args.sheet.now))
    c.new-picture.ensures c.in_ok-add_legend.ensures c.in_ok-add_lanes.ensures c.in_ok-open_day.ensures
