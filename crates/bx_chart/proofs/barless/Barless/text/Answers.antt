use Rattle.std.proofs.Common.{◌∙◌, ap}
use Rattle.bx_chart.specs.Clear.{is_clear}
use Rattle.bx_chart.proofs.Clears.{barless}
use Rattle.bx_chart.proofs.barless.Barless.text.Goals as goal

pub returns-clause-barless : goal.returns-clause-barless
returns-clause-barless c = barless c.text.result.now (ap is_clear c.text.ensures.value ∙ c.args.self.now.clear)
