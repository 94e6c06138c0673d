use Rattle.std.proofs.Common.{◌≡◌, map, take}
use Rattle.bx_sales.specs.Leaving.{promised_channel}
use Rattle.bx_sales.proofs.leaving.promised_channels.Given as goal

abbrev pub invariant-loop-index : goal.invariant-loop-index
invariant-loop-index l = l.channels.items ≡ map promised_channel (take l.index l.entries)
