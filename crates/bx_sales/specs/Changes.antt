-- What the laws of a day say whose plan changes while it runs.
use Rattle.std.specs.Prelude.{◌≡◌, ℕ, Bool, List, [], ◌∷◌, Option}
use Rattle.bx_base.specs.Bookings.{Row, AreBookings, Carries}
use Rattle.bx_base.specs.Plans.{is_accepted, channel_at}
use Rattle.bx_day.specs.Changed.{changed, said_at_each, AgreesWith}
use Rattle.bx_day.specs.Day.{Day, opening}
use Rattle.bx_day.specs.Outages.{live_day_after, live_happens}
use Rattle.bx_events.specs.Events.{LiveEvent}

-- ---- a plan that agrees with the day of another

-- its day over the same events is the day so far, changed
abbrev pub IsDayOfChangedPlan : Type 0
IsDayOfChangedPlan =
    (rows : List Row) (assigned : List (Option ℕ)) (rows' : List Row) (assigned' : List (Option ℕ)) (events : List LiveEvent) →
    AreBookings rows →
    AreBookings rows' →
    AgreesWith (live_day_after events (opening rows assigned)) rows' assigned' →
    live_day_after events (opening rows' assigned') ≡ changed rows' assigned' (live_day_after events (opening rows assigned))

-- and at each of them the same was sent
abbrev pub IsSentTheSame : Type 0
IsSentTheSame =
    (rows : List Row) (assigned : List (Option ℕ)) (rows' : List Row) (assigned' : List (Option ℕ)) (events : List LiveEvent) →
    AreBookings rows →
    AreBookings rows' →
    AgreesWith (live_day_after events (opening rows assigned)) rows' assigned' →
    said_at_each events (opening rows' assigned') ≡ said_at_each events (opening rows assigned)

-- ---- changes in the steps of a day

pub data ChangeStep : Type 0 where
  Happened : (event : LiveEvent) → ChangeStep
  -- this is the plan from now on
  Changed : (rows : List Row) (assigned : List (Option ℕ)) → ChangeStep

-- the day after these steps
abbrev pub changed_day_after : List ChangeStep → Day → Day
changed_day_after [] d = d
changed_day_after (Happened event ∷ steps) d = changed_day_after steps (live_happens d event).day
changed_day_after (Changed rows assigned ∷ steps) d = changed_day_after steps (changed rows assigned d)

-- the events among them
abbrev pub events_of_changes : List ChangeStep → List LiveEvent
events_of_changes [] = []
events_of_changes (Happened event ∷ steps) = event ∷ events_of_changes steps
events_of_changes (Changed rows assigned ∷ steps) = events_of_changes steps

-- the last plan: its rows, and their channels
abbrev pub rows_at_last : List Row → List ChangeStep → List Row
rows_at_last rows [] = rows
rows_at_last rows (Happened event ∷ steps) = rows_at_last rows steps
rows_at_last rows (Changed rows' assigned ∷ steps) = rows_at_last rows' steps

abbrev pub assigned_at_last : List (Option ℕ) → List ChangeStep → List (Option ℕ)
assigned_at_last assigned [] = assigned
assigned_at_last assigned (Happened event ∷ steps) = assigned_at_last assigned steps
assigned_at_last assigned (Changed rows assigned' ∷ steps) = assigned_at_last assigned' steps

-- a plan that an exchange goes on with from this day
pub record IsChange (channels : List Bool) (d : Day) (rows : List Row) (assigned : List (Option ℕ)) : Type 0 where
  pub bookings : AreBookings rows
  pub carried : Carries rows channels (is_accepted assigned) (channel_at assigned)
  pub agrees : AgreesWith d rows assigned

abbrev pub AreChanges : List Bool → List ChangeStep → Day → Type 0
AreChanges channels [] d = Unit {0}
AreChanges channels (Happened event ∷ steps) d = AreChanges channels steps (live_happens d event).day
AreChanges channels (Changed rows assigned ∷ steps) d = IsChange channels d rows assigned × AreChanges channels steps (changed rows assigned d)

-- the day of steps is that of the last plan over their events alone
abbrev pub IsDayOfLastChange : Type 0
IsDayOfLastChange =
    (channels : List Bool) (rows : List Row) (assigned : List (Option ℕ)) (steps : List ChangeStep) →
    AreBookings rows →
    AreChanges channels steps (opening rows assigned) →
    changed_day_after steps (opening rows assigned) ≡ live_day_after (events_of_changes steps) (opening (rows_at_last rows steps) (assigned_at_last assigned steps))

-- the rows of the last plan are bookings
abbrev pub HasBookingsAtLast : Type 0
HasBookingsAtLast =
    (channels : List Bool) (rows : List Row) (assigned : List (Option ℕ)) (steps : List ChangeStep) →
    AreBookings rows →
    AreChanges channels steps (opening rows assigned) →
    AreBookings (rows_at_last rows steps)

-- the channels carry the last plan
abbrev pub IsLastChangeCarried : Type 0
IsLastChangeCarried =
    (channels : List Bool) (rows : List Row) (assigned : List (Option ℕ)) (steps : List ChangeStep) →
    Carries rows channels (is_accepted assigned) (channel_at assigned) →
    AreChanges channels steps (opening rows assigned) →
    Carries (rows_at_last rows steps) channels (is_accepted (assigned_at_last assigned steps)) (channel_at (assigned_at_last assigned steps))
