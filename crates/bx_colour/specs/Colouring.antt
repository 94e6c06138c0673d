-- First-fit colouring of accepted bookings by channels, and when it comes to an end (Carlisle and Lloyd 1995).
use Rattle.std.specs.Prelude.{◌≡◌, ℕ, ◌<◌, ◌≤◌, ◌&&◌, ◌⊎◌, Bool, true, false, List, length, Option, Some, None, slice_index_or, if◌then◌else◌}
use Rattle.bx_channels.specs.Marks.{is_marked}
use Rattle.bx_base.specs.Sums.{sum_below}
use Rattle.bx_base.specs.Channels.{has_channel, count_of}
use Rattle.bx_base.specs.Bookings.{Row, row_at, is_running, Overlap}

-- whether the row of this index, counted from 0, is accepted
abbrev pub is_in : List Bool → ℕ → Bool
is_in accepted i = is_marked accepted i

-- how many accepted rows run at a moment
abbrev pub running_at : List Row → List Bool → ℕ → ℕ
running_at rows accepted moment = sum_below (length rows) (λ i. if is_in accepted i && is_running (row_at rows i) moment then 1 else 0)

-- one mark for each row, and at no moment more accepted rows than channels
pub record FitsChannels (rows : List Row) (accepted : List Bool) (channels : List Bool) : Type 0 where
  pub one_each : length accepted ≡ length rows
  pub enough : (moment : ℕ) → running_at rows accepted moment ≤ count_of channels

-- a row stands before another in the order of starts, and at one start in that of the rows
abbrev pub IsEarlier : List Row → ℕ → ℕ → Type 0
IsEarlier rows j i = ((row_at rows j).start < (row_at rows i).start) ⊎ (((row_at rows j).start ≡ (row_at rows i).start) × (j < i))

-- the channel that an assignment gives a row
abbrev pub channel_of : List (Option ℕ) → ℕ → Option ℕ
channel_of assigned i = slice_index_or assigned i None

-- an earlier row that overlaps has the channel
abbrev pub IsChannelTaken : List Row → List (Option ℕ) → ℕ → ℕ → Type 0
IsChannelTaken rows assigned i channel = (j : ℕ) × (j < length rows) × IsEarlier rows j i × Overlap (row_at rows j) (row_at rows i) × (channel_of assigned j ≡ Some channel)

-- the lowest channel in service that no earlier overlapping row has
pub record IsLowestFree (rows : List Row) (channels : List Bool) (assigned : List (Option ℕ)) (i channel : ℕ) : Type 0 where
  pub in_service : has_channel channels channel ≡ true
  pub free : ¬ IsChannelTaken rows assigned i channel
  pub lowest : (n : ℕ) → n < channel → has_channel channels n ≡ true → IsChannelTaken rows assigned i n

-- an accepted row has the lowest channel that is free for it
abbrev pub IsGiven : List Row → List Bool → List (Option ℕ) → ℕ → Type 0
IsGiven rows channels assigned i = (channel : ℕ) × (channel_of assigned i ≡ Some channel) × IsLowestFree rows channels assigned i channel

-- the first-fit colouring: each accepted row has the lowest channel that is free for it, each other row none
pub record IsFirstFit (rows : List Row) (channels accepted : List Bool) (assigned : List (Option ℕ)) : Type 0 where
  pub one_each : length assigned ≡ length rows
  pub given : (i : ℕ) → i < length rows → is_in accepted i ≡ true → IsGiven rows channels assigned i
  pub refused : (i : ℕ) → is_in accepted i ≡ false → channel_of assigned i ≡ None
