-- One call per channel, over every list of events.
use Rattle.std.specs.Prelude.{◌≡◌, ◌≢◌, ℕ, Bool, ◌+◌, ◌*◌, ◌-◌, ◌≤◌, ◌<◌, true, false, List, length, All, Option, Some}
use Rattle.bx_q931.specs.declared.kind.Kind.TheVariants.{Setup, CallProceeding}
use Rattle.bx_q931.specs.Outgoing.{Outgoing}
use Rattle.bx_calls.specs.PlainCalls.{PlainNetCall}
use Rattle.bx_calls.specs.Timers.{t308, clearing_time}
use Rattle.bx_base.specs.Bookings.{Row, AreBookings, Carries, row_at, is_running}
use Rattle.bx_base.specs.Plans.{is_accepted, channel_at}
use Rattle.bx_day.specs.Day.{Day, entry_at, opening}
use Rattle.bx_day.specs.Moves.{is_active}
use Rattle.bx_day.specs.Outages.{Lost, live_day_after, live_happens, lost_since}
use Rattle.bx_events.specs.Events.{LiveEvent}
use Rattle.bx_calls.specs.Sending.{Sent}
use Rattle.bx_day.specs.declared.entry.Standing.{Standing}
use Rattle.bx_day.specs.declared.entry.Activity.{Activity}
use Rattle.bx_day.specs.declared.entry.Standing.TheVariants.{Unoffered, OnCall, Carried}

-- of a live call
abbrev pub OnLive : Standing → (PlainNetCall → Activity → Type 0) → Type 0
OnLive (OnCall call activity) P = P call activity
OnLive _ P = Unit {0}

abbrev pub OnCarried : Standing → (ℕ → ℕ → Type 0) → Type 0
OnCarried (Carried from until) P = P from until
OnCarried _ P = Unit {0}

abbrev pub standing_at : Day → ℕ → Standing
standing_at d i = (entry_at d.entries i).standing

-- a day of a plan, at any moment of it; rows are counted from 0, and lost says which seconds without a link there were from a
-- moment on, and how many outages
pub record IsOrderly (rows : List Row) (assigned : List (Option ℕ)) (lost : ℕ → Lost) (d : Day) : Type 0 where
  -- an offered or live booking is accepted, and its call is on the channel of the plan
  pub planned : (i : ℕ) → i < length rows → OnLive (standing_at d i) (λ call a. (is_accepted assigned i ≡ true) × (call.channel ≡ channel_at assigned i))
  -- no channel is held twice
  pub apart : (i j : ℕ) → i < j → j < length rows → OnLive (standing_at d i) (λ call a. OnLive (standing_at d j) (λ other b. call.channel ≢ other.channel))
  -- a call is Active only while its booking runs
  pub active : (i : ℕ) → i < length rows → OnLive (standing_at d i) (λ call a. is_active call.state ≡ true → is_running (row_at rows i) d.moment ≡ true)
  pub carried : (i : ℕ) → i < length rows → OnCarried (standing_at d i) (λ from until. ((row_at rows i).start ≤ from) × (from ≤ until) × (until ≤ (row_at rows i).end))
  -- T305 and twice T308 with a link after its end a booking is over or missed, where each outage may take twice T308 more
  pub cleared : (i : ℕ) → i < length rows → (row_at rows i).end + clearing_time + ((lost (row_at rows i).end).seconds + (t308 + t308) * (lost (row_at rows i).end).outages) ≤ d.moment → (standing_at d i ≢ Unoffered) × OnLive (standing_at d i) (λ call a. ⊥)

-- a SETUP is sent for an accepted outward booking that runs, which its reference names, on its channel
pub record SetupFits (rows : List Row) (assigned : List (Option ℕ)) (t : ℕ) (o : Outgoing) : Type 0 where
  pub named : 1 ≤ o.reference
  pub accepted : is_accepted assigned (o.reference - 1) ≡ true
  pub outward : (row_at rows (o.reference - 1)).inward ≡ false
  pub runs : is_running (row_at rows (o.reference - 1)) t ≡ true
  pub channel : o.channel ≡ Some (channel_at assigned (o.reference - 1), true)

-- a CALL PROCEEDING is sent on the channel of an accepted inward booking that runs
pub record ProceedingFits (rows : List Row) (assigned : List (Option ℕ)) (t : ℕ) (o : Outgoing) : Type 0 where
  pub row : ℕ
  pub accepted : is_accepted assigned row ≡ true
  pub inward : (row_at rows row).inward ≡ true
  pub runs : is_running (row_at rows row) t ≡ true
  pub channel : o.channel ≡ Some (channel_at assigned row, true)

pub record OutFits (rows : List Row) (assigned : List (Option ℕ)) (t : ℕ) (o : Outgoing) : Type 0 where
  pub setup : o.kind ≡ Setup → SetupFits rows assigned t o
  pub proceeding : o.kind ≡ CallProceeding → ProceedingFits rows assigned t o

pub record SentFits (rows : List Row) (assigned : List (Option ℕ)) (s : Sent Day) : Type 0 where
  pub each : All (OutFits rows assigned s.day.moment) s.sent

-- each day of a carried plan is orderly, whatever its events
abbrev pub DaysAreOrderly : Type 0
DaysAreOrderly =
    (rows : List Row) (channels : List Bool) (assigned : List (Option ℕ)) (events : List LiveEvent)
    → AreBookings rows → Carries rows channels (is_accepted assigned) (channel_at assigned)
    → IsOrderly rows assigned (λ m. lost_since m events (opening rows assigned)) (live_day_after events (opening rows assigned))

-- and what is sent at one more event fits
abbrev pub AllSentFits : Type 0
AllSentFits =
    (rows : List Row) (channels : List Bool) (assigned : List (Option ℕ)) (events : List LiveEvent) (event : LiveEvent)
    → AreBookings rows → Carries rows channels (is_accepted assigned) (channel_at assigned)
    → SentFits rows assigned (live_happens (live_day_after events (opening rows assigned)) event)
