use Rattle.std.proofs.Common.{subst, Option}
use Rattle.bx_calendar.specs.declared.clock.Clock.{Clock}
use Rattle.bx_day_chart.specs.Charts.{IsDayChart}
use Rattle.bx_day_chart.specs.Sights.{sight_of}
use Rattle.bx_office_world.proofs.desk.drawn.Goals as goal

pub returns-in-Ok-clause-text : goal.returns-in-Ok-clause-text
returns-in-Ok-clause-text c = subst (λ (clock : Option Clock). IsDayChart c.args.exchange.now c.args.opened.now.channels (sight_of c.args.sight.now) clock c.in-Ok.text.items) c.as_ref-clock.ensures.value c.in-Ok.ensures.text
