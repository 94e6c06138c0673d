use Rattle.std.proofs.Common.{◌≡◌, map, take}
use Rattle.bx_audit.specs.DayChannels.{channel_on}
use Rattle.bx_audit.proofs.last_plans.channels_in.Given as goal

abbrev pub invariant-loop-index : goal.invariant-loop-index
invariant-loop-index l = l.channels.items ≡ map channel_on (take l.index l.entries)
