use Rattle.std.proofs.Common.{◌≡◌, ◌+◌, ◌/◌, ◌++◌, option_copied}
use Rattle.bx_chart.specs.Hours.{hours_below}
use Rattle.bx_chart.specs.Sheets.{room}
use Rattle.bx_chart.proofs.hours.add_hours.Given as goal

abbrev pub invariant-loop-hour : goal.invariant-loop-hour
invariant-loop-hour l =
    record {
      so_far : l.picture.text.items ≡ l.fn.picture.text.items ++ hours_below (room l.sheet) (option_copied l.clock) l.hour;
      apart : l.apart ≡ l.sheet.seconds / 93600 + 1;
    }
