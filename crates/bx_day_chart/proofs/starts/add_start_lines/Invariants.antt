use Rattle.std.proofs.Common.{◌≡◌, ◌++◌, drop}
use Rattle.std.specs.List.{flat_map}
use Rattle.bx_chart.specs.Sheets.{room}
use Rattle.bx_day_chart.specs.Starts.{start_at}
use Rattle.bx_day_chart.proofs.starts.add_start_lines.Given as goal

abbrev pub invariant-loop-entry : goal.invariant-loop-entry
invariant-loop-entry l = l.picture.text.items ++ flat_map (start_at (room l.sheet) l.channels) (drop l.entry-index l.entries) ≡ l.fn.picture.text.items ++ flat_map (start_at (room l.sheet) l.channels) l.entries
