use Rattle.std.proofs.Common.{take}
use Rattle.bx_base.specs.Channels.{AreChannels, HasJust}
use Rattle.bx_base.proofs.channel_set.ChannelSet.from_numbers.Given as goal

abbrev pub invariant-loop-number : goal.invariant-loop-number
invariant-loop-number l =
    record {
      channels : AreChannels (take l.number-index l.numbers);
      just : HasJust l.set (take l.number-index l.numbers);
    }
