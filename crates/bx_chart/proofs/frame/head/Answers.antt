use Rattle.std.proofs.Common.{ap}
use Rattle.bx_base.specs.PlanParts.{parts_of}
use Rattle.bx_chart.specs.Frames.{counts, height, chart_opened, paper, style}
use Rattle.bx_chart.specs.Sheets.{room}
use Rattle.bx_chart.proofs.Joined.{headed}
use Rattle.bx_chart.proofs.frame.head.Goals as goal

pub returns : goal.returns
returns c =
    let drawn = height (room c.args.sheet.now) in
    headed c.new-picture.result.text.items c.open.new.picture.text.items c.add_style.new.picture.text.items c.add_paper.new.picture.text.items c.add_counts.new.picture.text.items
    (chart_opened drawn) (paper drawn) (chart_opened c.height.result) (paper c.height-2.result) style (counts (parts_of c.args.plan.now))
    c.new-picture.ensures c.in_ok-open.ensures (ap chart_opened c.height.ensures.value) c.in_ok-add_style.ensures c.in_ok-add_paper.ensures (ap paper c.height-2.ensures.value) c.in_ok-add_counts.ensures
