use Rattle.std.proofs.Common.{◌≡◌, option_copied}
use Rattle.bx_base.specs.PlanParts.{parts_of}
use Rattle.bx_chart.specs.Bars.{bars_below}
use Rattle.bx_chart.proofs.bars.bars.Given as goal

abbrev pub invariant-loop-index : goal.invariant-loop-index
invariant-loop-index l = l.picture.text.items ≡ bars_below (parts_of l.plan) (option_copied l.clock) l.index
