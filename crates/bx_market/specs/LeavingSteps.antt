-- Private: the steps by which a channel that is lost is left.
use Rattle.std.specs.Prelude.{◌≡◌, ◌≢◌, ◌≤◌, ◌<◌, ◌&&◌, ◌||◌, not, ℕ, Bool, true, false, List, [], ◌∷◌, length, map, nat_lt, None, slice_index_or}
use Rattle.bx_base.specs.Bookings.{Row}
use Rattle.bx_base.specs.Channels.{has_channel}
use Rattle.bx_colour.specs.Colouring.{is_in}
use Rattle.bx_day.specs.Day.{Day, entry_at, is_unoffered}
use Rattle.bx_day.specs.Invariant.{is_refused}
use Rattle.bx_day.specs.declared.entry.Entry.{Entry}
use Rattle.bx_market.specs.Choices.{must_rows}
use Rattle.bx_sales.specs.GoingOn.{is_to_come, own_of}
use Rattle.bx_sales.specs.Leaving.{IsChannelLost}
use Rattle.bx_sales.specs.Selling.{rows_of, marks_of}
use Rattle.bx_market.specs.Leaving.{IsToLeave}

-- it waits for a start that is yet to come
abbrev pub is_ahead : ℕ → Entry → Bool
is_ahead t e = is_unoffered e.standing && nat_lt t e.booking.start

abbrev pub ahead_marks : ℕ → List Entry → List Bool
ahead_marks t es = map (is_ahead t) es

-- it has begun on one of these channels
abbrev pub has_begun_on : List Bool → ℕ → Entry → Bool
has_begun_on channels t e = not (is_to_come t e) && has_channel channels e.channel

-- all that has begun on these channels, each as a booking that every plan has to hold
abbrev pub begun_rows : List Bool → ℕ → List Entry → List Row
begun_rows channels t es = must_rows (has_begun_on channels t) es

-- all that has begun, and these of what is to come
abbrev pub with_begun : ℕ → List Entry → List Bool → List Bool
with_begun t [] chosen = []
with_begun t (e ∷ es) [] = []
with_begun t (e ∷ es) (mark ∷ chosen) = (not (is_to_come t e) || mark) ∷ with_begun t es chosen

-- though its start has come
pub record IsBehind (channels : List Bool) (d : Day) (i : ℕ) : Type 0 where
  pub to_leave : IsToLeave channels d i
  pub come : (entry_at d.entries i).booking.start ≤ d.moment

-- a booking that is to come waits on this channel
pub record IsWaitedOn (d : Day) (c : ℕ) : Type 0 where
  pub index : ℕ
  pub inside : index < length d.entries
  pub ahead : is_ahead d.moment (entry_at d.entries index) ≡ true
  pub channel : (entry_at d.entries index).channel ≡ c

-- a channel of the set is lost, and such a booking waits on it
pub record IsToBeLeft (channels : List Bool) (d : Day) (c : ℕ) : Type 0 where
  pub lost : IsChannelLost channels d c
  pub waited_on : IsWaitedOn d c

pub record IsSameEntry (old new : Entry) : Type 0 where
  pub booking : new.booking ≡ old.booking
  pub standing : new.standing ≡ old.standing
  pub channel : is_refused old.standing ≡ false → new.channel ≡ old.channel

-- all bookings but one are as they were
pub record AreSameBut (place : ℕ) (old new : Day) : Type 0 where
  pub moment : new.moment ≡ old.moment
  pub maintenance : new.maintenance ≡ old.maintenance
  pub count : length new.entries ≡ length old.entries
  pub each : (i : ℕ) → i < length old.entries → i ≢ place → IsSameEntry (entry_at old.entries i) (entry_at new.entries i)

-- this one starts later, if at all
pub record IsLaterEntry (old new : Entry) : Type 0 where
  pub pay : new.booking.pay ≡ old.booking.pay
  pub standing : new.standing ≡ old.standing

-- this one is given up, or as it was
abbrev pub IsGivenUpWhere : Bool → Entry → Entry → Type 0
IsGivenUpWhere true old new = (new.booking ≡ old.booking) × (is_refused new.standing ≡ true)
IsGivenUpWhere false old new = IsSameEntry old new

-- so is a booking of a day that is to come, where it is not kept
abbrev pub IsGivenUpAt : ℕ → Bool → Day → Day → Type 0
IsGivenUpAt place kept old new = IsGivenUpWhere (is_ahead old.moment (entry_at old.entries place) && not kept) (entry_at old.entries place) (entry_at new.entries place)

-- the same bookings, of which these are promised by now; what has begun is the same
pub record IsNowKept (kept : List Bool) (old new : Day) : Type 0 where
  pub moment : new.moment ≡ old.moment
  pub maintenance : new.maintenance ≡ old.maintenance
  pub rows : rows_of new ≡ rows_of old
  pub marks : marks_of new ≡ kept
  pub own : (i : ℕ) → slice_index_or (own_of new) i None ≡ slice_index_or (own_of old) i None

-- only what is to come is chosen
abbrev pub AreAhead : ℕ → List Entry → List Bool → Type 0
AreAhead t es chosen = (i : ℕ) → is_in chosen i ≡ true → is_in (ahead_marks t es) i ≡ true
