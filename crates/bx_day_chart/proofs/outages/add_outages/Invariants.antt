use Rattle.std.proofs.Common.{◌≡◌, ◌++◌, drop, option_copied}
use Rattle.std.specs.List.{flat_map}
use Rattle.bx_day_chart.specs.Outages.{outage_of}
use Rattle.bx_day_chart.proofs.outages.add_outages.Given as goal

abbrev pub invariant-loop-outage : goal.invariant-loop-outage
invariant-loop-outage l = l.picture.text.items ++ flat_map (outage_of (option_copied l.clock) l.high) (drop l.outage-index l.outages) ≡ l.fn.picture.text.items ++ flat_map (outage_of (option_copied l.clock) l.high) l.outages
