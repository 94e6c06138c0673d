-- A channel that is lost, since it is in maintenance: what waits behind it starts a second later, what the others do not carry is given up, and all else
-- that waits for a start to come leaves it.
use Rattle.std.specs.Prelude.{◌≡◌, ◌≤◌, ◌<◌, ℕ, ◌+◌, ◌-◌, Bool, true, List, length, map, Option, Some, None, slice_set, if◌then◌else◌}
use Rattle.bx_base.specs.Bookings.{Row}
use Rattle.bx_base.specs.Channels.{has_channel}
use Rattle.bx_channels.specs.Marks.{is_marked}
use Rattle.bx_day.specs.Changed.{changed}
use Rattle.bx_day.specs.Day.{Day, entry_at, is_unoffered}
use Rattle.bx_day.specs.Invariant.{is_refused}
use Rattle.bx_day.specs.declared.entry.Entry.{Entry}
use Rattle.bx_sales.specs.Changes.{IsChange}
use Rattle.bx_sales.specs.Changing.{IsPromised, rows_changed_in}
use Rattle.bx_sales.specs.GoingOn.{FitsBeside}
use Rattle.bx_sales.specs.Left.{left_in_service}
use Rattle.bx_sales.specs.Recolouring.{IsRecolouredBeside}
use Rattle.bx_sales.specs.Selling.{rows_of, marks_of}

-- the channel of a booking that is promised
abbrev pub promised_channel : Entry → Option ℕ
promised_channel e = if is_refused e.standing then None else Some e.channel

abbrev pub promised_channels : Day → List (Option ℕ)
promised_channels d = map promised_channel d.entries

-- the day goes on with these rows and channels
pub record GoesOnStill (rows : List Row) (assigned : List (Option ℕ)) (old new : Day) : Type 0 where
  pub service : List Bool
  pub change : IsChange service old rows assigned
  pub day : new ≡ changed rows assigned old

-- a booking waits, and its channel is in maintenance
pub record IsStranded (d : Day) (i : ℕ) : Type 0 where
  pub inside : i < length d.entries
  pub waits : is_unoffered (entry_at d.entries i).standing ≡ true
  pub lost : is_marked d.maintenance (entry_at d.entries i).channel ≡ true

pub record IsAnyStranded (d : Day) : Type 0 where
  pub index : ℕ
  pub is : IsStranded d index

-- the same booking, which starts with the next second
abbrev pub next_start : ℕ → Row → Row
next_start t row = record row { start = t + 1 }

-- a booking that waits on a channel that is in maintenance, with its start come, may start with the next second
pub record MayBeDelayed (d : Day) (row : ℕ) (b : Row) : Type 0 where
  pub promised : IsPromised d.entries row
  pub stranded : IsStranded d (row - 1)
  pub come : (entry_at d.entries (row - 1)).booking.start ≤ d.moment
  pub same : b ≡ next_start d.moment (entry_at d.entries (row - 1)).booking

pub record MayNotBeDelayed (d : Day) (row : ℕ) (b : Row) : Type 0 where
  pub promised : IsPromised d.entries row
  pub may_not : ¬ MayBeDelayed d row b

-- it starts with the next second, and keeps its channel, as all others do
pub record IsDelayed (row : ℕ) (b : Row) (old new : Day) : Type 0 where
  pub may : MayBeDelayed old row b
  pub gone_on : GoesOnStill (rows_changed_in (rows_of old) row b) (promised_channels old) old new

-- a booking may be given up by the exchange: its start is yet to come, and some booking waits on a channel that is in maintenance
pub record MayBeDropped (d : Day) (row : ℕ) : Type 0 where
  pub promised : IsPromised d.entries row
  pub ahead : d.moment < (entry_at d.entries (row - 1)).booking.start
  pub any : IsAnyStranded d

pub record MayNotBeDropped (d : Day) (row : ℕ) : Type 0 where
  pub promised : IsPromised d.entries row
  pub may_not : ¬ MayBeDropped d row

-- it is given up, and all others keep their channels
pub record IsDropped (row : ℕ) (old new : Day) : Type 0 where
  pub may : MayBeDropped old row
  pub gone_on : GoesOnStill (rows_of old) (slice_set (promised_channels old) (row - 1) None) old new

-- a channel is lost: it is one of these, and in maintenance
pub record IsChannelLost (channels : List Bool) (d : Day) (c : ℕ) : Type 0 where
  pub in_service : has_channel channels c ≡ true
  pub maintenance : is_marked d.maintenance c ≡ true

-- at no moment more of what is promised run than channels are left, but for calls that have begun on another channel
abbrev pub FitsOnLeft : List Bool → Day → Type 0
FitsOnLeft channels d = FitsBeside (left_in_service channels d) d (rows_of d) (marks_of d)

-- all that waits for a start to come leaves it
pub record IsChannelLeft (channels : List Bool) (c : ℕ) (old new : Day) : Type 0 where
  pub lost : IsChannelLost channels old c
  pub recoloured : IsRecolouredBeside (left_in_service channels old) old new
