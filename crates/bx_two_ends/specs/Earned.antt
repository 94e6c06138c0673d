-- What the laws of what is earned say.
use Rattle.bx_events.specs.declared.rules.Rules.TheVariants.{Three}
use Rattle.std.specs.Prelude.{◌≡◌, ◌≤◌, ◌+◌, ◌++◌, ℕ, Bool, true, false, List, length, map, Option, Some}
use Rattle.bx_base.specs.Bookings.{Row, row_at, AreBookings, Carries, pay_of}
use Rattle.bx_base.specs.Channels.{IsChannelSet}
use Rattle.bx_base.specs.Plans.{is_accepted, channel_at}
use Rattle.bx_calls.specs.Hearing.{Heard}
use Rattle.bx_calls.specs.NetTable.{fits_active, net_message, net_unlinked}
use Rattle.bx_calls.specs.PlainCalls.{PlainNetCall}
use Rattle.bx_channels.specs.Marks.{is_marked}
use Rattle.bx_day.specs.Day.{opening}
use Rattle.bx_day.specs.Invariant.{stands_accepted}
use Rattle.bx_day.specs.Law.{standing_at}
use Rattle.bx_day.specs.Moves.{is_active}
use Rattle.bx_day.specs.Outages.{live_day_after}
use Rattle.bx_events.specs.Events.{LiveEvent}
use Rattle.bx_events.specs.declared.moment.TheConstants.{LAST_MOMENT}
use Rattle.bx_q931.specs.declared.kind.Kind.TheVariants.{Status}
use Rattle.bx_records.specs.Totals as totals
use Rattle.bx_records.specs.Totals.{pays_of}
use Rattle.bx_two_ends.specs.Answering.{AnswersAll, ClearsAll}
use Rattle.bx_two_ends.specs.Asking.{call_after, is_call_up, is_asked}
use Rattle.bx_two_ends.specs.Earning.{LiveSecond, Linked, events_of, AreAnswered, AreCleared, HasSeconds, IsSettledDay, HasSecondsFrom, IsCalled, IsTalking, IsLongEnough, IsPunctual, IsCarriedBy, IsDayOfPlan, HaveSeconds, AreLongEnough}

-- ---- calls that are asked for

-- 9 seconds with a link after one without, in which no message came of it, an Active call is given up
abbrev pub IsGivenUpInVain : Type 0
IsGivenUpInVain =
    (call : PlainNetCall) (t end : ℕ) →
    is_active call.state ≡ true →
    is_call_up (call_after 9 t end (net_unlinked Three 1 call t end).next) ≡ false

-- where the far end reports a call state that does not fit N10, the call that is asked for is given up at once
abbrev pub IsGivenUpAsReported : Type 0
IsGivenUpAsReported =
    (call : PlainNetCall) (m : Heard) (t state : ℕ) →
    is_asked call.state ≡ true →
    m.kind ≡ Status →
    m.state ≡ Some state →
    fits_active call.origin state ≡ false →
    is_call_up (net_message call m t).next ≡ false

-- ---- the plan

-- no event changes the bookings of a day, nor which of them the plan accepts
abbrev pub KeepsPlan : Type 0
KeepsPlan =
    (rows : List Row) (channels : List Bool) (assigned : List (Option ℕ)) (events : List LiveEvent) →
    AreBookings rows →
    Carries rows channels (is_accepted assigned) (channel_at assigned) →
    IsDayOfPlan rows assigned (live_day_after events (opening rows assigned))

-- ---- what is planned is carried

-- where each turn is answered, a booking with its seconds with a link is carried from when it is offered
abbrev pub IsCarriedInItsSeconds : Type 0
IsCarriedInItsSeconds =
    (rows : List Row) (channels : List Bool) (assigned : List (Option ℕ)) (seconds : List LiveSecond) (i cleared offered ended : ℕ) →
    AreBookings rows →
    Carries rows channels (is_accepted assigned) (channel_at assigned) →
    length seconds ≤ LAST_MOMENT →
    AreAnswered seconds (opening rows assigned) →
    HasSeconds rows assigned seconds i cleared offered ended →
    IsCarriedBy offered (row_at rows i).end (standing_at (live_day_after (events_of seconds) (opening rows assigned)) i)

-- the same from now on, whatever went before, on a day on which no call waits for an answer and no channel is in maintenance
abbrev pub IsCarriedFromNow : Type 0
IsCarriedFromNow =
    (rows : List Row) (channels : List Bool) (assigned : List (Option ℕ)) (events : List LiveEvent) (seconds : List LiveSecond) (i cleared offered ended : ℕ) →
    AreBookings rows →
    Carries rows channels (is_accepted assigned) (channel_at assigned) →
    (live_day_after events (opening rows assigned)).moment + length seconds ≤ LAST_MOMENT →
    IsSettledDay (live_day_after events (opening rows assigned)) →
    AreAnswered seconds (live_day_after events (opening rows assigned)) →
    HasSecondsFrom rows assigned (live_day_after events (opening rows assigned)) seconds i cleared offered ended →
    IsCarriedBy offered (row_at rows i).end (standing_at (live_day_after (events ++ events_of seconds) (opening rows assigned)) i)

-- where each turn is cleared, an inward booking that is called is carried from when it is connected
abbrev pub IsCarriedOnceCalled : Type 0
IsCarriedOnceCalled =
    (rows : List Row) (channels : List Bool) (assigned : List (Option ℕ)) (seconds : List LiveSecond) (i begun connected ended : ℕ) →
    AreBookings rows →
    Carries rows channels (is_accepted assigned) (channel_at assigned) →
    length seconds ≤ LAST_MOMENT →
    AreCleared seconds (opening rows assigned) →
    IsCalled rows assigned seconds i begun connected ended →
    IsCarriedBy connected (row_at rows i).end (standing_at (live_day_after (events_of seconds) (opening rows assigned)) i)

-- where each turn is cleared, a booking whose call is Active at some moment is carried from then on
abbrev pub IsCarriedOnceTalking : Type 0
IsCarriedOnceTalking =
    (rows : List Row) (channels : List Bool) (assigned : List (Option ℕ)) (seconds : List LiveSecond) (i begun ended : ℕ) →
    AreBookings rows →
    Carries rows channels (is_accepted assigned) (channel_at assigned) →
    length seconds ≤ LAST_MOMENT →
    AreCleared seconds (opening rows assigned) →
    IsTalking rows assigned seconds i begun ended →
    IsCarriedBy begun (row_at rows i).end (standing_at (live_day_after (events_of seconds) (opening rows assigned)) i)

-- where each turn is cleared, no channel gets into maintenance
abbrev pub StaysInService : Type 0
StaysInService =
    (rows : List Row) (channels : List Bool) (assigned : List (Option ℕ)) (seconds : List LiveSecond) (channel : ℕ) →
    AreBookings rows →
    Carries rows channels (is_accepted assigned) (channel_at assigned) →
    length seconds ≤ LAST_MOMENT →
    AreCleared seconds (opening rows assigned) →
    is_marked (live_day_after (events_of seconds) (opening rows assigned)).maintenance channel ≡ false

-- on a link that is never lost, a booking of two seconds or more is carried from a second after its start
abbrev pub IsCarriedUnbroken : Type 0
IsCarriedUnbroken =
    (rows : List Row) (channels : List Bool) (assigned : List (Option ℕ)) (turns : List (List (List ℕ))) (i : ℕ) →
    AreBookings rows →
    Carries rows channels (is_accepted assigned) (channel_at assigned) →
    length turns ≤ LAST_MOMENT →
    AreAnswered (map (λ (received : List (List ℕ)). Linked received) turns) (opening rows assigned) →
    IsLongEnough rows assigned i (length turns) →
    IsCarriedBy ((row_at rows i).start + 1) (row_at rows i).end
    (standing_at (live_day_after (events_of (map (λ (received : List (List ℕ)). Linked received) turns)) (opening rows assigned)) i)

-- and one that begins while its channel is free from its start
abbrev pub IsCarriedPunctually : Type 0
IsCarriedPunctually =
    (rows : List Row) (channels : List Bool) (assigned : List (Option ℕ)) (turns : List (List (List ℕ))) (i : ℕ) →
    AreBookings rows →
    Carries rows channels (is_accepted assigned) (channel_at assigned) →
    length turns ≤ LAST_MOMENT →
    AreAnswered (map (λ (received : List (List ℕ)). Linked received) turns) (opening rows assigned) →
    IsPunctual rows assigned i (length turns) →
    IsCarriedBy (row_at rows i).start (row_at rows i).end
    (standing_at (live_day_after (events_of (map (λ (received : List (List ℕ)). Linked received) turns)) (opening rows assigned)) i)

-- ---- answers by messages

-- a far end that answers by its messages answers each turn
abbrev pub AnswersByMessages : Type 0
AnswersByMessages =
    (rows : List Row) (channels : List Bool) (assigned : List (Option ℕ)) (seconds : List LiveSecond) →
    AreBookings rows →
    IsChannelSet channels →
    Carries rows channels (is_accepted assigned) (channel_at assigned) →
    length seconds ≤ LAST_MOMENT →
    AnswersAll seconds (opening rows assigned) →
    AreAnswered seconds (opening rows assigned)

-- one that clears by its messages clears each turn
abbrev pub ClearsByMessages : Type 0
ClearsByMessages =
    (rows : List Row) (channels : List Bool) (assigned : List (Option ℕ)) (seconds : List LiveSecond) →
    AreBookings rows →
    IsChannelSet channels →
    Carries rows channels (is_accepted assigned) (channel_at assigned) →
    length seconds ≤ LAST_MOMENT →
    ClearsAll seconds (opening rows assigned) →
    AreCleared seconds (opening rows assigned)

-- ---- what is planned is paid

-- over every list of events the totals have as accepted what the plan's bookings pay
abbrev pub IsAcceptedAsPlanned : Type 0
IsAcceptedAsPlanned =
    (rows : List Row) (channels : List Bool) (assigned : List (Option ℕ)) (events : List LiveEvent) →
    AreBookings rows →
    Carries rows channels (is_accepted assigned) (channel_at assigned) →
    pays_of stands_accepted (live_day_after events (opening rows assigned)).entries ≡ pay_of rows (is_accepted assigned)

-- where each turn is answered, and each accepted booking has its seconds or is called, the totals have as much as carried
abbrev pub IsPaidAsPlanned : Type 0
IsPaidAsPlanned =
    (rows : List Row) (channels : List Bool) (assigned : List (Option ℕ)) (seconds : List LiveSecond) →
    AreBookings rows →
    Carries rows channels (is_accepted assigned) (channel_at assigned) →
    length seconds ≤ LAST_MOMENT →
    AreAnswered seconds (opening rows assigned) →
    HaveSeconds rows assigned seconds →
    pays_of totals.is_carried (live_day_after (events_of seconds) (opening rows assigned)).entries ≡ pay_of rows (is_accepted assigned)

-- on a link that is never lost two seconds are enough for that
abbrev pub IsPaidUnbroken : Type 0
IsPaidUnbroken =
    (rows : List Row) (channels : List Bool) (assigned : List (Option ℕ)) (turns : List (List (List ℕ))) →
    AreBookings rows →
    Carries rows channels (is_accepted assigned) (channel_at assigned) →
    length turns ≤ LAST_MOMENT →
    AreAnswered (map (λ (received : List (List ℕ)). Linked received) turns) (opening rows assigned) →
    AreLongEnough rows assigned (length turns) →
    pays_of totals.is_carried (live_day_after (events_of (map (λ (received : List (List ℕ)). Linked received) turns)) (opening rows assigned)).entries ≡
    pay_of rows (is_accepted assigned)
