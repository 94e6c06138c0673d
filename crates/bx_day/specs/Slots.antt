-- Where the live booking of each channel stands, and the first of those that wait: an index, which the day forgets.
use Rattle.std.specs.Prelude.{◌≡◌, ℕ, ◌<◌, ◌≤◌, ◌==◌, ◌&&◌, Bool, true, false, List, length, Option, Some, None, is_some, slice_index_or}
use Rattle.bx_day.specs.Day.{Day, is_unoffered, holds, entry_at}
use Rattle.bx_day.specs.Invariant.{is_refused}
use Rattle.bx_day.specs.QuietSeconds.{IsFirstDue}
use Rattle.bx_day.specs.Reading.{IsExchange}
use Rattle.bx_day.specs.declared.entry.Entry.{Entry}

-- a slot of a list of them: the index of a booking, if there is one
abbrev pub slot_at : List (Option ℕ) → ℕ → Option ℕ
slot_at slots n = slice_index_or slots n None

abbrev pub waits_on : ℕ → Entry → Bool
waits_on c e = is_unoffered e.standing && (e.channel == c)

-- the live booking of a channel, if it has one
pub record IsLiveOn (es : List Entry) (c : ℕ) (o : Option ℕ) : Type 0 where
  pub there : (i : ℕ) → o ≡ Some i → (i < length es) × (holds c (entry_at es i) ≡ true)
  pub each : (i : ℕ) → i < length es → holds c (entry_at es i) ≡ true → o ≡ Some i

-- the first of a channel's bookings that wait, if there are any: no other of them starts before its end
pub record IsWaitingOn (es : List Entry) (c : ℕ) (o : Option ℕ) : Type 0 where
  pub there : (i : ℕ) → o ≡ Some i → (i < length es) × (waits_on c (entry_at es i) ≡ true)
  pub each : (i : ℕ) → i < length es → waits_on c (entry_at es i) ≡ true → is_some o ≡ true
  pub first : (i r : ℕ) → i < length es → waits_on c (entry_at es i) ≡ true → o ≡ Some r → (entry_at es i).booking.start < (entry_at es r).booking.end → i ≡ r

-- an accepted booking of the same channel as that of index r, which starts at its end or later
pub record IsLater (es : List Entry) (r i : ℕ) : Type 0 where
  pub inside : i < length es
  pub accepted : is_refused (entry_at es i).standing ≡ false
  pub channel : (entry_at es i).channel ≡ (entry_at es r).channel
  pub later : (entry_at es r).booking.end ≤ (entry_at es i).booking.start

-- the first of these, if there are any
pub record IsFollowing (es : List Entry) (r : ℕ) (o : Option ℕ) : Type 0 where
  pub there : (s : ℕ) → o ≡ Some s → IsLater es r s
  pub each : (i : ℕ) → IsLater es r i → is_some o ≡ true
  pub first : (i s : ℕ) → IsLater es r i → o ≡ Some s → (entry_at es i).booking.start < (entry_at es s).booking.end → i ≡ s

pub record AreSlots (d : Day) (live waiting following : List (Option ℕ)) : Type 0 where
  pub live_size : length live ≡ 32
  pub waiting_size : length waiting ≡ 32
  pub after_size : length following ≡ length d.entries
  pub lives : (c : ℕ) → IsLiveOn d.entries c (slot_at live c)
  pub waits : (c : ℕ) → IsWaitingOn d.entries c (slot_at waiting c)
  pub followings : (r : ℕ) → r < length d.entries → is_refused (entry_at d.entries r).standing ≡ false → IsFollowing d.entries r (slot_at following r)
  pub ahead : (i : ℕ) → i < length d.entries → is_refused (entry_at d.entries i).standing ≡ false → d.moment < (entry_at d.entries i).booking.start → is_unoffered (entry_at d.entries i).standing ≡ true
  pub ordered : (i : ℕ) → i < length d.entries → (entry_at d.entries i).booking.start < (entry_at d.entries i).booking.end

-- what an exchange keeps: a day, its slots, and the first tick that does something again, or 0 where that is not known
pub record IsIndexed (d : Day) (live waiting following : List (Option ℕ)) (due : ℕ) : Type 0 where
  pub exchange : IsExchange d
  pub slots : AreSlots d live waiting following
  pub known : 1 ≤ due → IsFirstDue d (length d.entries) due
