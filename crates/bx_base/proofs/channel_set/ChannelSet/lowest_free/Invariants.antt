use Rattle.std.proofs.Common.{◌≡◌, ℕ, ◌<◌, true}
use Rattle.bx_base.specs.Channels.{has_channel}
use Rattle.bx_base.proofs.channel_set.ChannelSet.lowest_free.Given as goal

abbrev pub invariant-loop-n : goal.invariant-loop-n
invariant-loop-n l = (k : ℕ) → k < l.n → has_channel l.self k ≡ true → has_channel l.fn.taken k ≡ true
