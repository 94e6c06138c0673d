use Rattle.std.proofs.Common.{◌≡◌, rules, subst, List, ℕ, option_copied}
use Rattle.bx_day_chart.specs.Charts.{IsDayChart}
use Rattle.bx_day_chart.specs.Sights.{sight_of}
use Rattle.bx_office_world.proofs.drawing.chart_text.Goals as goal

pub returns-in-Ok-clause-text : goal.returns-in-Ok-clause-text
returns-in-Ok-clause-text c =
    let d = c.in-Ok.ensures.drawn in
    let same : d.text ≡ c.into_inner.result.items = search rules in
    subst (λ (text : List ℕ). IsDayChart c.args.exchange.now c.args.channels (sight_of c.args.sight.now) (option_copied c.args.clock) text) same d.is
