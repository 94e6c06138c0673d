use Rattle.std.proofs.Common.{◌≡◌, ◌++◌, option_copied}
use Rattle.bx_chart.specs.Sheets.{room}
use Rattle.bx_day_chart.specs.Maintenance.{hatches_below}
use Rattle.bx_day_chart.proofs.maintenance.add_hatches.Given as goal

abbrev pub invariant-loop-number : goal.invariant-loop-number
invariant-loop-number l = l.picture.text.items ≡ l.fn.picture.text.items ++ hatches_below (room l.sheet) (option_copied l.clock) l.exchange l.channels l.number
