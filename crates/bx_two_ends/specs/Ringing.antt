-- What is planned is earned, where the far end answers each call in its own time: calls ring, and no timer gives one up.
use Rattle.std.specs.Prelude.{◌≡◌, ◌≢◌, ◌≤◌, ◌<◌, ◌+◌, ◌⊎◌, ℕ, suc, nat_le, Bool, true, false, List, length, map, slice_index_or, take, Option, Some}
use Rattle.std.specs.List.{AllByRecursion}
use Rattle.bx_base.specs.Bookings.{Row, row_at, AreBookings, Carries, is_running, pay_of}
use Rattle.bx_base.specs.Channels.{IsChannelSet}
use Rattle.bx_base.specs.Plans.{is_accepted, channel_at}
use Rattle.bx_calls.specs.declared.net_state.NetState.{NetState}
use Rattle.bx_calls.specs.declared.net_state.NetState.TheVariants.{CallPresent, IncomingCallProceeding, CallReceived}
use Rattle.bx_calls.specs.declared.net_state.Offer.TheVariants.{Second}
use Rattle.bx_calls.specs.Timers.{t301}
use Rattle.bx_calls.specs.declared.user_state.Policy.{Policy}
use Rattle.bx_calls.specs.declared.user_state.Policy.TheVariants.{Answer}
use Rattle.bx_far.specs.Policies.{policy_of}
use Rattle.bx_far.specs.declared.row.ScriptRow.{ScriptRow}
use Rattle.bx_far.specs.declared.row.ScriptRow.TheVariants.{Follows, Calls}
use Rattle.bx_day.specs.Day.{Day, entry_at, opening, is_live}
use Rattle.bx_day.specs.Law.{OnLive, standing_at}
use Rattle.bx_day.specs.Outages.{live_day_after}
use Rattle.bx_day.specs.Ticks.{tick}
use Rattle.bx_events.specs.declared.moment.TheConstants.{LAST_MOMENT}
use Rattle.bx_records.specs.Totals as totals
use Rattle.bx_records.specs.Totals.{pays_of}
use Rattle.bx_two_ends.specs.Answering.{ClearsAll, is_connect, is_ringing, is_told}
use Rattle.bx_two_ends.specs.Joined.{IsEngineDay}
use Rattle.bx_two_ends.specs.Lockstep.{turns_from, ends_opening}
use Rattle.bx_two_ends.specs.Scripts.{AreScriptRows}
use Rattle.bx_world.specs.declared.both_ends.BothEnds.{BothEnds}
use Rattle.bx_world.specs.declared.rehearsal.Rehearsal.{Rehearsal}
use Rattle.bx_two_ends.specs.Earning.{LiveSecond, Linked, Unlinked, events_of, seconds_after, has_link, is_settled, IsCleared, EachTurn, AreAnswered, IsAlone, IsCarriedBy}

-- ---- a far end that answers each call in its own time

-- a timer gives the call up at moment t: T303 of the second SETUP, T310 of CALL PROCEEDING, T301 of ALERTING
abbrev pub is_given_up : ℕ → NetState → Bool
is_given_up t (CallPresent Second due) = nat_le due t
is_given_up t (IncomingCallProceeding due) = nat_le due t
is_given_up t (CallReceived due) = nat_le due t
is_given_up t _ = false

-- a turn that leaves calls ringing: all else is answered, and of no call is the timer due at the next tick that gives it up
pub record IsInTime (called left : Day) : Type 0 where
  pub cleared : IsCleared called left
  pub waits : (i : ℕ) → OnLive (standing_at left i) (λ call a. is_given_up (left.moment + 1) call.state ≡ false)

-- each turn is such a one
abbrev pub AreInTime : List LiveSecond → Day → Type 0
AreInTime seconds d = EachTurn IsInTime seconds d

-- so many seconds after each second that leaves the call of row i live it is Active, where it is live then, and the second to that
-- moment has a link
abbrev pub AnswersWithin : (ℕ → ℕ) → List LiveSecond → Day → Type 0
AnswersWithin within seconds d = (i n : ℕ) → is_live (standing_at (seconds_after (take n seconds) d) i) ≡ true → has_link d.moment seconds (d.moment + (n + within i)) ≡ true →
    OnLive (standing_at (seconds_after (take (n + within i) seconds) d) i) (λ call a. is_settled call ≡ true)

-- the far end answers the call of each row within so many seconds
pub record AreAnsweredWithin (within : ℕ → ℕ) (seconds : List LiveSecond) (d : Day) : Type 0 where
  pub in_time : AreInTime seconds d
  pub answers : AnswersWithin within seconds d

-- the same by its messages: in the turn to moment k + 1 there comes a CONNECT to the call of row i that rings, and was live so many seconds
-- before that moment
abbrev pub ConnectsWithin : (ℕ → ℕ) → List LiveSecond → Day → Type 0
ConnectsWithin within seconds d = (i n k : ℕ) (received : List (List ℕ)) →
    n + within i ≡ suc k →
    is_live (standing_at (seconds_after (take n seconds) d) i) ≡ true →
    slice_index_or seconds k Unlinked ≡ Linked received →
    is_ringing (standing_at (tick (seconds_after (take k seconds) d)).day i) ≡ true →
    is_told (λ m. is_connect m.kind) (entry_at (tick (seconds_after (take k seconds) d)).day.entries i) received ≡ true

-- no timer gives a call up at the next tick
pub record IsBeforeTimers (called left : Day) : Type 0 where
  pub waits : (i : ℕ) → OnLive (standing_at left i) (λ call a. is_given_up (left.moment + 1) call.state ≡ false)

-- ---- an outward booking that can be carried

-- its channel is cleared by moment cleared, at the opening or in a second with a link; it runs in the seconds with a link to moment
-- offered, and to moment answered, after which it has rung for its seconds; and after its end there is one to moment ended
pub record HasRingingSeconds (rows : List Row) (assigned : List (Option ℕ)) (within : ℕ → ℕ) (seconds : List LiveSecond) (i cleared offered answered ended : ℕ) : Type 0 where
  pub inside : i < length rows
  pub accepted : is_accepted assigned i ≡ true
  pub outward : (row_at rows i).inward ≡ false
  pub alone : IsAlone rows assigned i cleared offered
  pub clears : (cleared ≡ 0) ⊎ (has_link 0 seconds cleared ≡ true)
  pub before : cleared < offered
  pub runs : is_running (row_at rows i) offered ≡ true
  pub offers : has_link 0 seconds offered ≡ true
  pub rings : offered + within i ≤ answered
  pub runs_on : answered < (row_at rows i).end
  pub connects : has_link 0 seconds answered ≡ true
  pub over : (row_at rows i).end ≤ ended
  pub ends : has_link 0 seconds ended ≡ true

-- on a link that is never lost: the seconds that it may ring, and two more, of which the first may go by while the booking before it
-- is cleared
pub record IsLongEnoughToRing (rows : List Row) (assigned : List (Option ℕ)) (within : ℕ → ℕ) (i turns : ℕ) : Type 0 where
  pub inside : i < length rows
  pub accepted : is_accepted assigned i ≡ true
  pub outward : (row_at rows i).inward ≡ false
  pub seconds : (row_at rows i).start + 1 + within i < (row_at rows i).end
  pub over : (row_at rows i).end ≤ turns

abbrev pub AreLongEnoughToRing : List Row → List (Option ℕ) → (ℕ → ℕ) → ℕ → Type 0
AreLongEnoughToRing rows assigned within turns = (i : ℕ) → i < length rows → is_accepted assigned i ≡ true → IsLongEnoughToRing rows assigned within i turns

-- and one more is enough where no accepted booking of its channel ends at its start
pub record IsPunctualToRing (rows : List Row) (assigned : List (Option ℕ)) (within : ℕ → ℕ) (i turns : ℕ) : Type 0 where
  pub inside : i < length rows
  pub accepted : is_accepted assigned i ≡ true
  pub outward : (row_at rows i).inward ≡ false
  pub first : 1 ≤ (row_at rows i).start
  pub after_none : (j : ℕ) → j < length rows → is_accepted assigned j ≡ true → channel_at assigned j ≡ channel_at assigned i → (row_at rows j).end ≢ (row_at rows i).start
  pub seconds : (row_at rows i).start + within i < (row_at rows i).end
  pub over : (row_at rows i).end ≤ turns

-- each accepted booking has its seconds
abbrev pub HaveRingingSeconds : List Row → List (Option ℕ) → (ℕ → ℕ) → List LiveSecond → Type 0
HaveRingingSeconds rows assigned within seconds = (i : ℕ) → i < length rows → is_accepted assigned i ≡ true → (cleared offered answered ended : ℕ) × HasRingingSeconds rows assigned within seconds i cleared offered answered ended

-- ---- a far end of bx

-- how many seconds a policy lets a call ring, and the number of each row
abbrev pub rings_of : Policy → ℕ
rings_of (Answer seconds) = seconds
rings_of _ = 0

abbrev pub rings_for : List ScriptRow → List Row → ℕ → ℕ
rings_for script rows i = rings_of (policy_of script (Some (row_at rows i).number))

-- a policy that answers before T301 is due
abbrev pub IsAnswerInTime : Policy → Type 0
IsAnswerInTime (Answer seconds) = seconds < t301
IsAnswerInTime _ = ⊥

abbrev pub IsAnsweredInTime : ScriptRow → Type 0
IsAnsweredInTime (Follows number policy) = IsAnswerInTime policy
IsAnsweredInTime (Calls number moment channel) = ⊥

-- a script that answers each call so, and calls nobody; the empty one is one
abbrev pub AnswersInTime : List ScriptRow → Type 0
AnswersInTime script = AllByRecursion IsAnsweredInTime script

-- ---- what the laws say

-- a far end that answers each turn answers within no seconds, and the other way round
abbrev pub AnswersWithinNone : Type 0
AnswersWithinNone =
    (seconds : List LiveSecond) (d : Day) →
    d.moment + length seconds ≤ LAST_MOMENT →
    (AreAnswered seconds d → AreAnsweredWithin (λ i. 0) seconds d) × (AreAnsweredWithin (λ i. 0) seconds d → AreAnswered seconds d)

-- a far end that clears each turn by its messages, and connects each call within its seconds, answers each within them, where no timer gives
-- a call up before
abbrev pub ConnectsByMessages : Type 0
ConnectsByMessages =
    (rows : List Row) (channels : List Bool) (assigned : List (Option ℕ)) (within : ℕ → ℕ) (seconds : List LiveSecond) →
    AreBookings rows →
    IsChannelSet channels →
    Carries rows channels (is_accepted assigned) (channel_at assigned) →
    length seconds ≤ LAST_MOMENT →
    ClearsAll seconds (opening rows assigned) →
    EachTurn IsBeforeTimers seconds (opening rows assigned) →
    ConnectsWithin within seconds (opening rows assigned) →
    AreAnsweredWithin within seconds (opening rows assigned)

-- where each call is answered within its seconds, a booking that has its seconds with a link is carried from when they are over
abbrev pub IsCarriedOnceAnswered : Type 0
IsCarriedOnceAnswered =
    (rows : List Row) (channels : List Bool) (assigned : List (Option ℕ)) (within : ℕ → ℕ) (seconds : List LiveSecond) (i cleared offered answered ended : ℕ) →
    AreBookings rows →
    Carries rows channels (is_accepted assigned) (channel_at assigned) →
    length seconds ≤ LAST_MOMENT →
    AreAnsweredWithin within seconds (opening rows assigned) →
    HasRingingSeconds rows assigned within seconds i cleared offered answered ended →
    IsCarriedBy answered (row_at rows i).end (standing_at (live_day_after (events_of seconds) (opening rows assigned)) i)

-- on a link that is never lost, from its seconds and one more after its start
abbrev pub IsCarriedAfterRinging : Type 0
IsCarriedAfterRinging =
    (rows : List Row) (channels : List Bool) (assigned : List (Option ℕ)) (within : ℕ → ℕ) (turns : List (List (List ℕ))) (i : ℕ) →
    AreBookings rows →
    Carries rows channels (is_accepted assigned) (channel_at assigned) →
    length turns ≤ LAST_MOMENT →
    AreAnsweredWithin within (map (λ (received : List (List ℕ)). Linked received) turns) (opening rows assigned) →
    IsLongEnoughToRing rows assigned within i (length turns) →
    IsCarriedBy ((row_at rows i).start + 1 + within i) (row_at rows i).end
    (standing_at (live_day_after (events_of (map (λ (received : List (List ℕ)). Linked received) turns)) (opening rows assigned)) i)

-- and from its seconds after its start, where its channel is free from its start
abbrev pub IsCarriedPunctuallyAfterRinging : Type 0
IsCarriedPunctuallyAfterRinging =
    (rows : List Row) (channels : List Bool) (assigned : List (Option ℕ)) (within : ℕ → ℕ) (turns : List (List (List ℕ))) (i : ℕ) →
    AreBookings rows →
    Carries rows channels (is_accepted assigned) (channel_at assigned) →
    length turns ≤ LAST_MOMENT →
    AreAnsweredWithin within (map (λ (received : List (List ℕ)). Linked received) turns) (opening rows assigned) →
    IsPunctualToRing rows assigned within i (length turns) →
    IsCarriedBy ((row_at rows i).start + within i) (row_at rows i).end
    (standing_at (live_day_after (events_of (map (λ (received : List (List ℕ)). Linked received) turns)) (opening rows assigned)) i)

-- where all accepted bookings have their seconds, the totals have as carried what the plan's bookings pay
abbrev pub IsPaidOnceAnswered : Type 0
IsPaidOnceAnswered =
    (rows : List Row) (channels : List Bool) (assigned : List (Option ℕ)) (within : ℕ → ℕ) (seconds : List LiveSecond) →
    AreBookings rows →
    Carries rows channels (is_accepted assigned) (channel_at assigned) →
    length seconds ≤ LAST_MOMENT →
    AreAnsweredWithin within seconds (opening rows assigned) →
    HaveRingingSeconds rows assigned within seconds →
    pays_of totals.is_carried (live_day_after (events_of seconds) (opening rows assigned)).entries ≡ pay_of rows (is_accepted assigned)

-- on a link that is never lost the seconds that each rings, and two more, are enough for that
abbrev pub IsPaidAfterRinging : Type 0
IsPaidAfterRinging =
    (rows : List Row) (channels : List Bool) (assigned : List (Option ℕ)) (within : ℕ → ℕ) (turns : List (List (List ℕ))) →
    AreBookings rows →
    Carries rows channels (is_accepted assigned) (channel_at assigned) →
    length turns ≤ LAST_MOMENT →
    AreAnsweredWithin within (map (λ (received : List (List ℕ)). Linked received) turns) (opening rows assigned) →
    AreLongEnoughToRing rows assigned within (length turns) →
    pays_of totals.is_carried (live_day_after (events_of (map (λ (received : List (List ℕ)). Linked received) turns)) (opening rows assigned)).entries ≡
    pay_of rows (is_accepted assigned)

-- both ends in turns over a link that loses nothing: a far end whose script answers each call before T301 is due answers the call of each
-- row within the seconds that the script lets its number ring
abbrev pub FarAnswersWithin : Type 0
FarAnswersWithin =
    (rows : List Row) (channels : List Bool) (assigned : List (Option ℕ)) (script : List ScriptRow) (turns : ℕ) →
    AreBookings rows →
    IsChannelSet channels →
    Carries rows channels (is_accepted assigned) (channel_at assigned) →
    AnswersInTime script →
    turns ≤ LAST_MOMENT →
    AreAnsweredWithin (rings_for script rows) (turns_from turns (ends_opening rows assigned script)) (opening rows assigned)

-- a day of both ends by the program's engine, whose script answers each call before T301 is due: a booking that takes the seconds that its
-- number may ring, and two more, is carried from those seconds and one more after its start
abbrev pub IsEngineDayRung : {R W S T D : Type 0} →
    (R → Option (List ℕ)) → (W → Option (List ℕ)) → (S → Option (List ℕ)) → (T → Option (List ℕ)) →
    (D → List ℕ → Type 0) → (D → List ℕ → Type 0) → (D → ℕ) → (D → ℕ → List ℕ → Type 0) → (D → Bool) → Type 0
IsEngineDayRung {R} {W} {S} {T} {D} remaining contents far_remaining far_contents holds may_leave moment left_since has_failed =
    (rows : List Row) (channels : List Bool) (assigned : List (Option ℕ)) (script : List ScriptRow) (i : ℕ) (old new : Rehearsal (BothEnds R W S T) D) (reached : Day) →
    AreBookings rows →
    IsChannelSet channels →
    Carries rows channels (is_accepted assigned) (channel_at assigned) →
    AreScriptRows script →
    AnswersInTime script →
    IsEngineDay remaining contents far_remaining far_contents holds may_leave moment left_since has_failed rows assigned script old new reached →
    IsLongEnoughToRing rows assigned (rings_for script rows) i reached.moment →
    IsCarriedBy ((row_at rows i).start + 1 + rings_for script rows i) (row_at rows i).end (standing_at reached i)

-- and where all are such, what is paid for carried calls is the plan's total
abbrev pub IsEngineDayRungPaid : {R W S T D : Type 0} →
    (R → Option (List ℕ)) → (W → Option (List ℕ)) → (S → Option (List ℕ)) → (T → Option (List ℕ)) →
    (D → List ℕ → Type 0) → (D → List ℕ → Type 0) → (D → ℕ) → (D → ℕ → List ℕ → Type 0) → (D → Bool) → Type 0
IsEngineDayRungPaid {R} {W} {S} {T} {D} remaining contents far_remaining far_contents holds may_leave moment left_since has_failed =
    (rows : List Row) (channels : List Bool) (assigned : List (Option ℕ)) (script : List ScriptRow) (old new : Rehearsal (BothEnds R W S T) D) (reached : Day) →
    AreBookings rows →
    IsChannelSet channels →
    Carries rows channels (is_accepted assigned) (channel_at assigned) →
    AreScriptRows script →
    AnswersInTime script →
    IsEngineDay remaining contents far_remaining far_contents holds may_leave moment left_since has_failed rows assigned script old new reached →
    AreLongEnoughToRing rows assigned (rings_for script rows) reached.moment →
    pays_of totals.is_carried reached.entries ≡ pay_of rows (is_accepted assigned)
