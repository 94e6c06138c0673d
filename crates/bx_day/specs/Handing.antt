-- The day of a plan that takes over from the day before, at the second that is its midnight: what is not over there goes on here.
use Rattle.std.specs.Prelude.{◌≡◌, ℕ, ◌+◌, ◌-◌, ◌<◌, ◌≤◌, ◌&&◌, ◌||◌, nat_lt, ◌⊎◌, Bool, true, false, List, [], ◌∷◌, length, map, Option, Some, None, is_some, max, min, slice_index_or, if◌then◌else◌}
use Rattle.bx_base.specs.Bookings.{Row, row_at, AreBookings, Carries}
use Rattle.bx_base.specs.Channels.{IsChannelSet}
use Rattle.bx_base.specs.Plans.{is_accepted, channel_at}
use Rattle.bx_base.specs.declared.bookings.TheConstants.{MAX_BOOKINGS}
use Rattle.bx_calls.specs.NetTable.{net_is_clearing}
use Rattle.bx_calls.specs.PlainCalls.{PlainNetCall}
use Rattle.bx_calls.specs.Said.{Said}
use Rattle.bx_calls.specs.Shifting.{earlier_by, IsDueFrom}
use Rattle.bx_day.specs.declared.entry.Activity.{Activity}
use Rattle.bx_day.specs.declared.entry.Activity.TheVariants.{Never, Since, Was}
use Rattle.bx_day.specs.declared.entry.Entry.{Entry}
use Rattle.bx_day.specs.declared.entry.Standing.{Standing}
use Rattle.bx_day.specs.declared.entry.Standing.TheVariants.{Unoffered, OnCall, Carried}
use Rattle.bx_day.specs.declared.entry.Link.{Link}
use Rattle.bx_day.specs.declared.entry.Moved.{Moved}
use Rattle.bx_day.specs.Receipts.{hears, names_call}
use Rattle.bx_day.specs.Restoring.{IsState}
use Rattle.bx_day.specs.Ticks.{second_by, second_in}
use Rattle.bx_day.specs.Day.{Day, is_live, is_unoffered, is_back, is_free, entry_at, entries_from}

-- at midnight t it is not over: it is live, or waits, and not for its last second alone, in which no call begins
abbrev pub goes_over : ℕ → Entry → Bool
goes_over t e = is_live e.standing || (is_unoffered e.standing && nat_lt 1 (e.booking.end - t))

-- the bookings that are not over, in the order of their rows
abbrev pub left_over : ℕ → List Entry → List Entry
left_over t [] = []
left_over t (e ∷ es) = if goes_over t e then e ∷ left_over t es else left_over t es

-- ---- moments, told from the midnight t

abbrev pub activity_over : ℕ → Activity → Activity
activity_over t Never = Never
activity_over t (Since from) = Since (from - t)
activity_over t (Was from until) = Was (from - t) (until - t)

abbrev pub standing_over : ℕ → Standing → Standing
standing_over t (OnCall call activity) = OnCall (earlier_by t call) (activity_over t activity)
standing_over t (Carried from until) = Carried (from - t) (until - t)
standing_over t s = s

-- ---- the new day

-- its booking of a row, where this one goes on in it, on its channel and with its reference
abbrev pub seat_over : ℕ → Entry → Entry → Entry
seat_over t e n = record n { reference = e.reference; standing = standing_over t e.standing }

-- and where it is new: the references of new bookings begin after a base
abbrev pub seat_new : ℕ → Entry → Entry
seat_new base n = record n { reference = base + n.row }

abbrev pub all_over : ℕ → ℕ → List Entry → List Entry → List Entry
all_over t base es [] = []
all_over t base [] (n ∷ ns) = seat_new base n ∷ all_over t base [] ns
all_over t base (e ∷ es) (n ∷ ns) = seat_over t e n ∷ all_over t base es ns

-- channels in maintenance stay so, and what there was of a link in the last second
abbrev pub handed_over : ℕ → List Row → List (Option ℕ) → Day → Day
handed_over base rows assigned d = record {
  moment = 0;
  unlinked = if is_back d then 1 else 0;
  entries = all_over d.moment base (left_over d.moment d.entries) (entries_from 1 rows assigned);
  maintenance = d.maintenance;
}

-- ---- which plans a day may hand over to, and with which base

-- one that waits and has begun may leave its first second to a call that is being cleared on its channel: no call begins in it
abbrev pub StartsOver : ℕ → Entry → ℕ → Type 0
StartsOver t e start = (start ≡ e.booking.start - t) ⊎ ((is_unoffered e.standing ≡ true) × (start ≡ 1) × (e.booking.start ≤ t))

-- a booking that goes on, as a row of the new plan: what is left of it, and one that is live on its channel; one that is being cleared after
-- its end has the first second
pub record IsOverRow (t : ℕ) (e : Entry) (row : Row) (given : Option ℕ) : Type 0 where
  pub start : StartsOver t e row.start
  pub end : row.end ≡ max 1 (e.booking.end - t)
  pub pay : row.pay ≡ e.booking.pay
  pub number : row.number ≡ e.booking.number
  pub inward : row.inward ≡ e.booking.inward
  pub accepted : is_some given ≡ true
  pub channel : is_live e.standing ≡ true → given ≡ Some e.channel

-- no booking that goes on has one of the references after the base that new bookings may get
abbrev pub IsOutside : ℕ → ℕ → Type 0
IsOutside base reference = (reference ≤ base) ⊎ (base + MAX_BOOKINGS < reference)

-- the first rows of the plan are the bookings that go on
pub record IsHandedOver (base : ℕ) (d : Day) (rows : List Row) (assigned : List (Option ℕ)) : Type 0 where
  pub limit : base ≤ 32767 - MAX_BOOKINGS
  pub longer : length (left_over d.moment d.entries) ≤ length rows
  pub first : (i : ℕ) → i < length (left_over d.moment d.entries) → IsOverRow d.moment (entry_at (left_over d.moment d.entries) i) (row_at rows i) (slice_index_or assigned i None)
  pub apart : (i : ℕ) → i < length (left_over d.moment d.entries) → IsOutside base (entry_at (left_over d.moment d.entries) i).reference

abbrev pub with_call : Standing → List PlainNetCall → List PlainNetCall
with_call (OnCall call activity) calls = call ∷ calls
with_call s calls = calls

-- ---- what becomes of a booking that goes on

abbrev pub moved_over : ℕ → Moved → Moved
moved_over t m = record { standing = standing_over t m.standing; said = m.said; broken = m.broken }

-- its end is not asked any more: it is over, or its call is being cleared
abbrev pub is_cleared : Standing → Bool
is_cleared (OnCall call activity) = net_is_clearing call.state
is_cleared Unoffered = false
is_cleared s = true

-- the timer of its call, if one runs, is due at moment t at the earliest
abbrev pub IsTimedFrom : ℕ → Standing → Type 0
IsTimedFrom t (OnCall call activity) = IsDueFrom t call.state
IsTimedFrom t s = Unit {0}

-- a booking of the day before of which this has become, and what it is in the day from midnight t on
pub record LivesOn (t : ℕ) (e n : Entry) (s : Standing) : Type 0 where
  pub reference : n.reference ≡ e.reference
  pub channel : n.channel ≡ e.channel
  pub number : n.booking.number ≡ e.booking.number
  pub inward : n.booking.inward ≡ e.booking.inward
  pub start : (n.booking.start ≡ e.booking.start - t) ⊎ ((n.booking.start ≡ 1) × (e.booking.start ≤ t))
  pub end : (is_cleared s ≡ true) ⊎ (e.booking.end ≡ n.booking.end + t)
  pub timed : IsTimedFrom t s

-- a second, with a link or without one, makes of it in the new day what it would have made of it in the one before, and says the same
abbrev pub SecondsGoOn : Type 0
SecondsGoOn = (t m : ℕ) (e n : Entry) (s : Standing) (link : Link) (back free : Bool) → 1 ≤ m → LivesOn t e n s → second_by link n m back free (standing_over t s) ≡ moved_over t (second_by link e (m + t) back free s)

-- and a message, which names it in both days or in neither
abbrev pub MessagesGoOn : Type 0
MessagesGoOn = (t m : ℕ) (e n : Entry) (s : Standing) (said : Said) → LivesOn t e n s → (hears said m (standing_over t s) ≡ moved_over t (hears said (m + t) s)) × (names_call said (standing_over t s) ≡ names_call said s)

-- the seconds of a call until midnight t, and those of the new day, are all that it was Active
abbrev pub seconds_before : ℕ → ℕ → ℕ → ℕ
seconds_before t from until = min until t - from

abbrev pub IsToldOnce : Type 0
IsToldOnce = (t from until : ℕ) → from ≤ until → until - from ≡ seconds_before t from until + ((until - t) - (from - t))

-- it goes on as such
abbrev pub StillGoesOn : Type 0
StillGoesOn =
    (t m : ℕ) (e n : Entry) (s : Standing) (link : Link) (back free : Bool) (said : Said) → LivesOn t e n s
    → LivesOn t e n (second_by link e (m + t) back free s).standing × LivesOn t e n (hears said (m + t) s).standing

-- ---- references

-- no two bookings have one reference
abbrev pub AreNamed : List Entry → Type 0
AreNamed es = (i j : ℕ) → i < j → j < length es → (entry_at es i).reference ≡ (entry_at es j).reference → ⊥

-- ---- what is taken over

-- the day of a carried plan that takes over from one that an exchange may be in is such a day
abbrev pub IsTakenOver : Type 0
IsTakenOver =
    (base : ℕ) (d : Day) (rows : List Row) (channels : List Bool) (assigned : List (Option ℕ))
    → AreBookings rows → IsChannelSet channels → Carries rows channels (is_accepted assigned) (channel_at assigned) → IsState d → IsHandedOver base d rows assigned
    → IsState (handed_over base rows assigned d)

-- in which no two bookings have one reference, where none had before
abbrev pub StaysNamed : Type 0
StaysNamed =
    (base : ℕ) (d : Day) (rows : List Row) (channels : List Bool) (assigned : List (Option ℕ))
    → AreBookings rows → IsChannelSet channels → Carries rows channels (is_accepted assigned) (channel_at assigned) → IsState d → IsHandedOver base d rows assigned
    → AreNamed d.entries → AreNamed (handed_over base rows assigned d).entries

-- the same booking, on the channel of another
abbrev pub on_channel_of : Entry → Entry → Entry
on_channel_of n e = record e { channel = n.channel }

-- each channel is held or free as before, and there was a link in the last second or none, as before; each booking that was not over goes on,
-- and the next second makes of it what it would have made of it, and says the same
pub record IsUnnoticed (base : ℕ) (d : Day) (rows : List Row) (assigned : List (Option ℕ)) : Type 0 where
  pub free : (c : ℕ) → is_free (handed_over base rows assigned d) c ≡ is_free d c
  pub back : is_back (handed_over base rows assigned d) ≡ is_back d
  pub each : (i : ℕ) → i < length (left_over d.moment d.entries) → LivesOn d.moment (on_channel_of (entry_at (handed_over base rows assigned d).entries i) (entry_at (left_over d.moment d.entries) i)) (entry_at (handed_over base rows assigned d).entries i) (entry_at (left_over d.moment d.entries) i).standing
  pub channel : (i : ℕ) → i < length (left_over d.moment d.entries) → is_live (entry_at (left_over d.moment d.entries) i).standing ≡ true → (entry_at (handed_over base rows assigned d).entries i).channel ≡ (entry_at (left_over d.moment d.entries) i).channel
  pub standing : (i : ℕ) → i < length (left_over d.moment d.entries) → (entry_at (handed_over base rows assigned d).entries i).standing ≡ standing_over d.moment (entry_at (left_over d.moment d.entries) i).standing
  pub next : (link : Link) (i : ℕ) → i < length (left_over d.moment d.entries) → second_in link (handed_over base rows assigned d) (entry_at (handed_over base rows assigned d).entries i) ≡ moved_over d.moment (second_in link d (on_channel_of (entry_at (handed_over base rows assigned d).entries i) (entry_at (left_over d.moment d.entries) i)))

abbrev pub HandOversAreUnnoticed : Type 0
HandOversAreUnnoticed =
    (base : ℕ) (d : Day) (rows : List Row) (channels : List Bool) (assigned : List (Option ℕ))
    → AreBookings rows → IsChannelSet channels → Carries rows channels (is_accepted assigned) (channel_at assigned) → IsState d → IsHandedOver base d rows assigned
    → IsUnnoticed base d rows assigned

-- the calls of the live bookings, in the order of their rows
abbrev pub open_calls : List Entry → List PlainNetCall
open_calls [] = []
open_calls (e ∷ es) = with_call e.standing (open_calls es)

-- the calls stay the same calls, but for their moments: none is lost, and there is no other. So what is said of their references,
-- channels, origins and states stays true, as what the far end has of them
abbrev pub CallsGoOn : Type 0
CallsGoOn =
    (base : ℕ) (d : Day) (rows : List Row) (channels : List Bool) (assigned : List (Option ℕ))
    → AreBookings rows → IsChannelSet channels → Carries rows channels (is_accepted assigned) (channel_at assigned) → IsState d → IsHandedOver base d rows assigned
    → open_calls (handed_over base rows assigned d).entries ≡ map (earlier_by d.moment) (open_calls d.entries)
