-- Sets of B channels.
use Rattle.std.specs.Prelude.{◌≡◌, ◌≢◌, ◌↔◌, ℕ, ◌<◌, Bool, true, List, length, slice_index, if◌then◌else◌, All, Contains}
use Rattle.bx_channels.specs.ChannelNumbers.{IsChannel}
use Rattle.bx_channels.specs.Marks.{is_marked}
use Rattle.bx_base.specs.Sums.{sum_below}

-- a set of channels is a list that says of each number whether it is in the set
abbrev pub has_channel : List Bool → ℕ → Bool
has_channel channels n = is_marked channels n

-- how many channels a set has
abbrev pub count_of : List Bool → ℕ
count_of channels = sum_below (length channels) (λ n. if has_channel channels n then 1 else 0)

-- a list that stands for a set of B channels
pub record IsChannelSet (channels : List Bool) : Type 0 where
  pub slots : length channels ≡ 32
  pub only : (n : ℕ) → has_channel channels n ≡ true → IsChannel n

-- numbers that name B channels, none of them twice
pub record AreChannels (numbers : List ℕ) : Type 0 where
  pub each : All IsChannel numbers
  pub once : (i j : ℕ) → i < j → j < length numbers → slice_index numbers i ≢ slice_index numbers j

-- the set has just these channels
abbrev pub HasJust : List Bool → List ℕ → Type 0
HasJust channels numbers = (n : ℕ) → (has_channel channels n ≡ true) ↔ Contains numbers n
