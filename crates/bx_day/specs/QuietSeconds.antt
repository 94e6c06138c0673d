-- Seconds in which nothing happens, and when something happens again.
use Rattle.std.specs.Prelude.{◌≡◌, ℕ, ◌+◌, ◌≤◌, ◌<◌, Bool, [], if◌then◌else◌}
use Rattle.bx_day.specs.Day.{Day, is_free, entry_at}
use Rattle.bx_day.specs.Ticks.{tick}
use Rattle.bx_day.specs.Quiet.{booking_due}
use Rattle.bx_day.specs.declared.entry.Entry.{Entry}
use Rattle.bx_day.specs.declared.entry.Standing.{Standing}
use Rattle.bx_day.specs.declared.entry.Standing.TheVariants.{Unoffered}
use Rattle.bx_events.specs.declared.moment.TheConstants.{LAST_MOMENT}

-- the same day, k seconds later
abbrev pub later_by : ℕ → Day → Day
later_by k d = record d { moment = d.moment + k }

-- a tick raises the moment, changes nothing else and sends nothing; at the last moment none does, since it stands still
abbrev pub IsQuietTick : Day → Type 0
IsQuietTick d = tick d ≡ record { day = later_by 1 d; sent = [] }

-- each of the next n ticks
abbrev pub IsQuietFor : ℕ → Day → Type 0
IsQuietFor n d = (k : ℕ) → k < n → IsQuietTick (later_by k d)

-- the first tick that does something to a booking while its channel is free, or is not: one that can't be offered
-- waits for its end
abbrev pub tick_due : Entry → Bool → Standing → ℕ
tick_due e free Unoffered = if free then booking_due e Unoffered else e.booking.end
tick_due e free s = booking_due e s

-- of the booking of an index, as its channel is now
abbrev pub due_at : Day → ℕ → ℕ
due_at d i = tick_due (entry_at d.entries i) (is_free d (entry_at d.entries i).channel) (entry_at d.entries i).standing

-- the first of these ticks over the first n bookings, or the tick after the day's last
pub record IsFirstDue (d : Day) (n due : ℕ) : Type 0 where
  pub limit : due ≤ LAST_MOMENT + 1
  pub ordered : (i : ℕ) → i < n → (entry_at d.entries i).booking.start ≤ (entry_at d.entries i).booking.end
  pub before : (i : ℕ) → i < n → due ≤ due_at d i
  pub latest : (t : ℕ) → t ≤ LAST_MOMENT + 1 → ((i : ℕ) → i < n → t ≤ due_at d i) → t ≤ due
