-- The faults of a list of channel numbers.
use Rattle.std.specs.Prelude.{◌≡◌, ℕ, ◌<◌, List, length, take, slice_index, Contains}
use Rattle.bx_base.specs.declared.channel_set.ChannelFault.{ChannelFault}
use Rattle.bx_base.specs.declared.channel_set.ChannelFault.TheVariants.{NotABChannel, Repeated}
use Rattle.bx_channels.specs.ChannelNumbers.{IsChannel}
use Rattle.bx_base.specs.Channels.{AreChannels}

-- what is wrong with the number at k
abbrev pub IsFaultAt : List ℕ → ℕ → ChannelFault → Type 0
IsFaultAt numbers k (NotABChannel n) = (n ≡ slice_index numbers k) × ¬ IsChannel n
IsFaultAt numbers k (Repeated n) = (n ≡ slice_index numbers k) × Contains (take k numbers) n

-- the first number that is no further channel
abbrev pub IsFirstChannelFault : List ℕ → ChannelFault → Type 0
IsFirstChannelFault numbers fault = (k : ℕ) × (k < length numbers) × AreChannels (take k numbers) × IsFaultAt numbers k fault
