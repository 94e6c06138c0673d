-- Private: slots after a tick, and what is due on them.
use Rattle.std.specs.Prelude.{◌≡◌, ℕ, ◌+◌, ◌<◌, ◌≤◌, Bool, false, List, length, map, Option, Some, None, min, if◌then◌else◌}
use Rattle.bx_day.specs.Day.{Day, is_live, is_unoffered, entry_at}
use Rattle.bx_day.specs.Invariant.{is_refused}
use Rattle.bx_day.specs.QuietSeconds.{tick_due, due_at}
use Rattle.bx_day.specs.declared.entry.Entry.{Entry}
use Rattle.bx_day.specs.Slots.{AreSlots, slot_at}
use Rattle.bx_day.specs.Ticks.{after_in, passed_in}
use Rattle.bx_day.specs.Reading.{IsExchange}
use Rattle.bx_day.specs.declared.entry.Link.{Link}
use Rattle.bx_events.specs.declared.moment.TheConstants.{LAST_MOMENT}

-- the slot after the one of this booking
abbrev pub follower : List (Option ℕ) → Option ℕ → Option ℕ
follower following None = None
follower following (Some i) = slot_at following i

abbrev pub is_live_at : List Entry → Option ℕ → Bool
is_live_at es None = false
is_live_at es (Some i) = is_live (entry_at es i).standing

abbrev pub is_waiting_at : List Entry → Option ℕ → Bool
is_waiting_at es None = false
is_waiting_at es (Some i) = is_unoffered (entry_at es i).standing

-- after a tick, by what was live, what waited first, and what was after that
abbrev pub live_slot_of : List Entry → Option ℕ → Option ℕ → Option ℕ → Option ℕ
live_slot_of es a b c = if is_live_at es a then a else if is_live_at es b then b else if is_live_at es c then c else None

abbrev pub waiting_of : List Entry → List (Option ℕ) → Option ℕ → Option ℕ → Option ℕ
waiting_of es following a b = if is_waiting_at es a then a else if is_waiting_at es b then b else follower following b

-- a slot of an index inside
abbrev pub IsInside : List Entry → Option ℕ → Type 0
IsInside es o = (i : ℕ) → o ≡ Some i → i < length es

-- the lower of two indices, of which the first may not be there
abbrev pub earlier : Option ℕ → ℕ → ℕ
earlier None i = i
earlier (Some other) i = min other i

-- the first tick that does something to the booking of a slot, or the one after the day's last
abbrev pub slot_due : List Entry → Bool → Option ℕ → ℕ
slot_due es free None = LAST_MOMENT + 1
slot_due es free (Some i) = tick_due (entry_at es i) free (entry_at es i).standing

-- the first of these ticks over the accepted bookings of one channel, where one is before the day's last
pub record IsDueOn (d : Day) (c due : ℕ) : Type 0 where
  pub before : (i : ℕ) → i < length d.entries → is_refused (entry_at d.entries i).standing ≡ false → (entry_at d.entries i).channel ≡ c → min (LAST_MOMENT + 1) due ≤ due_at d i
  pub latest : (t : ℕ) → t ≤ LAST_MOMENT + 1 → ((i : ℕ) → i < length d.entries → t ≤ due_at d i) → t ≤ due

-- slots of a day become those after a second of it, with a link or without one, whose bookings these are
abbrev pub SettlesSlots : (entries : List Entry) (following live waiting later_live later_waiting : List (Option ℕ)) → Type 0
SettlesSlots entries following live waiting later_live later_waiting =
    (link : Link) (d : Day) → IsExchange d → d.moment < LAST_MOMENT → entries ≡ map (after_in link d) d.entries
    → AreSlots d live waiting following → AreSlots (passed_in link d).day later_live later_waiting following
