-- What the laws of a day of both ends say.
use Rattle.std.specs.Prelude.{◌≡◌, ◌≤◌, ◌+◌, ℕ, Bool, List, Option}
use Rattle.bx_base.specs.Bookings.{Row, row_at, AreBookings, Carries, pay_of}
use Rattle.bx_base.specs.Channels.{IsChannelSet}
use Rattle.bx_base.specs.Plans.{is_accepted, channel_at}
use Rattle.bx_day.specs.Day.{Day, opening}
use Rattle.bx_day.specs.Law.{standing_at}
use Rattle.bx_day.specs.Outages.{live_day_after}
use Rattle.bx_events.specs.declared.moment.TheConstants.{LAST_MOMENT}
use Rattle.bx_far.specs.FarDay.{FarDay}
use Rattle.bx_far.specs.declared.row.ScriptRow.{ScriptRow}
use Rattle.bx_sessions.specs.BothEnds.{Passage}
use Rattle.bx_records.specs.Totals as totals
use Rattle.bx_records.specs.Totals.{pays_of}
use Rattle.bx_two_ends.specs.Earning.{events_of, IsLongEnough, AreLongEnough, IsCarriedBy}
use Rattle.bx_two_ends.specs.Joined.{IsJoinedDay, IsEngineDay}
use Rattle.bx_two_ends.specs.Lockstep.{turns_from, ends_opening, AnswersAtOnce}
use Rattle.bx_two_ends.specs.Scripts.{AreScriptRows}
use Rattle.bx_world.specs.declared.both_ends.BothEnds.{BothEnds}
use Rattle.bx_world.specs.declared.rehearsal.Rehearsal.{Rehearsal}

-- ---- a day of both ends in one process, through all its turns

-- it is one of both ends in turns
abbrev pub IsOneProcessInTurns : (R W S T : Type 0) → Type 0
IsOneProcessInTurns R W S T =
    (rows : List Row) (channels : List Bool) (assigned : List (Option ℕ)) (script : List ScriptRow) (turns : ℕ) (near : Passage Day R W) (far : Passage FarDay S T) →
    AreBookings rows →
    IsChannelSet channels →
    Carries rows channels (is_accepted assigned) (channel_at assigned) →
    AreScriptRows script →
    turns ≤ LAST_MOMENT →
    IsJoinedDay rows assigned script turns near far →
    near.reached ≡ live_day_after (events_of (turns_from turns (ends_opening rows assigned script))) (opening rows assigned)

-- where the script answers at once, a booking of two seconds or more is carried from a second after its start
abbrev pub IsOneProcessCarried : (R W S T : Type 0) → Type 0
IsOneProcessCarried R W S T =
    (rows : List Row) (channels : List Bool) (assigned : List (Option ℕ)) (script : List ScriptRow) (turns i : ℕ) (near : Passage Day R W) (far : Passage FarDay S T) →
    AreBookings rows →
    IsChannelSet channels →
    Carries rows channels (is_accepted assigned) (channel_at assigned) →
    AreScriptRows script →
    AnswersAtOnce script →
    turns ≤ LAST_MOMENT →
    IsJoinedDay rows assigned script turns near far →
    IsLongEnough rows assigned i turns →
    IsCarriedBy ((row_at rows i).start + 1) (row_at rows i).end (standing_at near.reached i)

-- and where all are such, what is paid for carried calls is the plan's total
abbrev pub IsOneProcessPaid : (R W S T : Type 0) → Type 0
IsOneProcessPaid R W S T =
    (rows : List Row) (channels : List Bool) (assigned : List (Option ℕ)) (script : List ScriptRow) (turns : ℕ) (near : Passage Day R W) (far : Passage FarDay S T) →
    AreBookings rows →
    IsChannelSet channels →
    Carries rows channels (is_accepted assigned) (channel_at assigned) →
    AreScriptRows script →
    AnswersAtOnce script →
    turns ≤ LAST_MOMENT →
    IsJoinedDay rows assigned script turns near far →
    AreLongEnough rows assigned turns →
    pays_of totals.is_carried near.reached.entries ≡ pay_of rows (is_accepted assigned)

-- ---- the same of a day by the program's engine

abbrev pub IsEngineDayInTurns : {R W S T D : Type 0} →
    (R → Option (List ℕ)) → (W → Option (List ℕ)) → (S → Option (List ℕ)) → (T → Option (List ℕ)) →
    (D → List ℕ → Type 0) → (D → List ℕ → Type 0) → (D → ℕ) → (D → ℕ → List ℕ → Type 0) → (D → Bool) → Type 0
IsEngineDayInTurns {R} {W} {S} {T} {D} remaining contents far_remaining far_contents holds may_leave moment left_since has_failed =
    (rows : List Row) (channels : List Bool) (assigned : List (Option ℕ)) (script : List ScriptRow) (old new : Rehearsal (BothEnds R W S T) D) (reached : Day) →
    AreBookings rows →
    IsChannelSet channels →
    Carries rows channels (is_accepted assigned) (channel_at assigned) →
    AreScriptRows script →
    IsEngineDay remaining contents far_remaining far_contents holds may_leave moment left_since has_failed rows assigned script old new reached →
    reached ≡ live_day_after (events_of (turns_from reached.moment (ends_opening rows assigned script))) (opening rows assigned)

abbrev pub IsEngineDayCarried : {R W S T D : Type 0} →
    (R → Option (List ℕ)) → (W → Option (List ℕ)) → (S → Option (List ℕ)) → (T → Option (List ℕ)) →
    (D → List ℕ → Type 0) → (D → List ℕ → Type 0) → (D → ℕ) → (D → ℕ → List ℕ → Type 0) → (D → Bool) → Type 0
IsEngineDayCarried {R} {W} {S} {T} {D} remaining contents far_remaining far_contents holds may_leave moment left_since has_failed =
    (rows : List Row) (channels : List Bool) (assigned : List (Option ℕ)) (script : List ScriptRow) (i : ℕ) (old new : Rehearsal (BothEnds R W S T) D) (reached : Day) →
    AreBookings rows →
    IsChannelSet channels →
    Carries rows channels (is_accepted assigned) (channel_at assigned) →
    AreScriptRows script →
    AnswersAtOnce script →
    IsEngineDay remaining contents far_remaining far_contents holds may_leave moment left_since has_failed rows assigned script old new reached →
    IsLongEnough rows assigned i reached.moment →
    IsCarriedBy ((row_at rows i).start + 1) (row_at rows i).end (standing_at reached i)

abbrev pub IsEngineDayPaid : {R W S T D : Type 0} →
    (R → Option (List ℕ)) → (W → Option (List ℕ)) → (S → Option (List ℕ)) → (T → Option (List ℕ)) →
    (D → List ℕ → Type 0) → (D → List ℕ → Type 0) → (D → ℕ) → (D → ℕ → List ℕ → Type 0) → (D → Bool) → Type 0
IsEngineDayPaid {R} {W} {S} {T} {D} remaining contents far_remaining far_contents holds may_leave moment left_since has_failed =
    (rows : List Row) (channels : List Bool) (assigned : List (Option ℕ)) (script : List ScriptRow) (old new : Rehearsal (BothEnds R W S T) D) (reached : Day) →
    AreBookings rows →
    IsChannelSet channels →
    Carries rows channels (is_accepted assigned) (channel_at assigned) →
    AreScriptRows script →
    AnswersAtOnce script →
    IsEngineDay remaining contents far_remaining far_contents holds may_leave moment left_since has_failed rows assigned script old new reached →
    AreLongEnough rows assigned reached.moment →
    pays_of totals.is_carried reached.entries ≡ pay_of rows (is_accepted assigned)
