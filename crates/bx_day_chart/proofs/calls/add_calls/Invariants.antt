use Rattle.std.proofs.Common.{◌≡◌, ◌++◌, drop, option_copied}
use Rattle.std.specs.List.{flat_map}
use Rattle.bx_day_chart.specs.Calls.{call_at}
use Rattle.bx_day_chart.proofs.calls.add_calls.Given as goal

abbrev pub invariant-loop-entry : goal.invariant-loop-entry
invariant-loop-entry l = l.picture.text.items ++ flat_map (call_at (option_copied l.clock) l.channels l.now) (drop l.entry-index l.entries) ≡ l.fn.picture.text.items ++ flat_map (call_at (option_copied l.clock) l.channels l.now) l.entries
