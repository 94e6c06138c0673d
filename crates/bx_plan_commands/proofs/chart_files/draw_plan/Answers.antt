use Rattle.std.proofs.Common.{Option, subst}
use Rattle.bx_base.specs.PlanParts.{parts_of}
use Rattle.bx_calendar.specs.declared.clock.Clock.{Clock}
use Rattle.bx_chart.specs.Charts.{IsDrawn, IsChartRefusal}
use Rattle.bx_devices.specs.Devices.{writing_of}
use Rattle.bx_plan_commands.proofs.chart_files.draw_plan.Goals as goal

pub returns-in-Ok-write_chart-clause-drawn : goal.returns-in-Ok-write_chart-clause-drawn
returns-in-Ok-write_chart-clause-drawn g c = (
  c.in-Ok.gain,
  c.in-Ok.ensures,
  subst (λ (clock : Option Clock). IsDrawn (parts_of c.args.plan.now) c.in-Ok.gain clock (writing_of g.W.Write.contents c.args.output.now c.write_chart.new.output)) c.as_ref.ensures.value c.in-Ok-write_chart.ensures.drawn,
)

pub returns-in-Err-clause-refused : goal.returns-in-Err-clause-refused
returns-in-Err-clause-refused g c = (
  c.in-Ok.gain,
  c.in-Ok.ensures,
  subst (λ (clock : Option Clock). IsChartRefusal (parts_of c.args.plan.now) c.in-Ok.gain clock (writing_of g.W.Write.contents c.args.output.now c.write_chart.new.output) c.in-Err.fault) c.as_ref.ensures.value c.in-Err.ensures.refused,
)
