-- What is planned is earned: a day second by second, a far end that answers, and the seconds with a link that an outward
-- booking needs.
use Rattle.bx_events.specs.declared.rules.Rules.TheVariants.{Three}
use Rattle.std.specs.Prelude.{◌≡◌, ◌≢◌, ℕ, ◌+◌, ◌==◌, ◌≤◌, ◌<◌, not, Bool, true, false, List, [], ◌∷◌, map, take, length, Option, ◌⊎◌, if◌then◌else◌}
use Rattle.std.specs.List.{flat_map}
use Rattle.bx_calls.specs.NetTable.{net_is_clearing}
use Rattle.bx_calls.specs.PlainCalls.{PlainNetCall}
use Rattle.bx_calls.specs.declared.net_state.NetOrigin.{NetOrigin}
use Rattle.bx_calls.specs.declared.net_state.NetOrigin.TheVariants.{Inward}
use Rattle.bx_calls.specs.declared.net_state.NetState.{NetState}
use Rattle.bx_calls.specs.declared.net_state.NetState.TheVariants.{OutgoingCallProceeding, Active}
use Rattle.bx_base.specs.Bookings.{Row, row_at, is_running}
use Rattle.bx_base.specs.Plans.{is_accepted, channel_at}
use Rattle.bx_events.specs.Events.{LiveEvent, OnLink, WithoutLink, Tick, Receive}
use Rattle.bx_two_ends.specs.Asking.{StandingUnasked}
use Rattle.bx_channels.specs.Marks.{is_marked}
use Rattle.bx_day.specs.Day.{Day, opening, is_live, is_held, is_unoffered, entry_at}
use Rattle.bx_day.specs.Invariant.{is_refused}
use Rattle.bx_day.specs.Law.{OnLive, standing_at}
use Rattle.bx_day.specs.Moves.{is_active}
use Rattle.bx_day.specs.Outages.{without_link}
use Rattle.bx_day.specs.Run.{receive_octets}
use Rattle.bx_day.specs.Ticks.{tick}
use Rattle.bx_day.specs.declared.entry.Standing.{Standing}
use Rattle.bx_day.specs.declared.entry.Standing.TheVariants.{OnCall, Carried}

-- ---- a day, second by second

-- a second: a tick on the link and the octets that come before the next one, which are its turn; or a second without a link
pub data LiveSecond : Type 0 where
  Linked : (received : List (List ℕ)) → LiveSecond
  Unlinked : LiveSecond

abbrev pub events_in : LiveSecond → List LiveEvent
events_in (Linked received) = OnLink Tick ∷ map (λ octets. OnLink (Receive octets)) received
events_in Unlinked = WithoutLink Three ∷ []

abbrev pub events_of : List LiveSecond → List LiveEvent
events_of seconds = flat_map events_in seconds

abbrev pub heard_in : List (List ℕ) → Day → Day
heard_in [] d = d
heard_in (octets ∷ rest) d = heard_in rest (receive_octets d octets).day

abbrev pub second_after : LiveSecond → Day → Day
second_after (Linked received) d = heard_in received (tick d).day
second_after Unlinked d = without_link d

abbrev pub seconds_after : List LiveSecond → Day → Day
seconds_after [] d = d
seconds_after (s ∷ ss) d = seconds_after ss (second_after s d)

abbrev pub is_linked : LiveSecond → Bool
is_linked (Linked received) = true
is_linked Unlinked = false

-- whether the second to moment t had a link, of seconds from moment m on
abbrev pub has_link : ℕ → List LiveSecond → ℕ → Bool
has_link m [] t = false
has_link m (s ∷ ss) t = if t == m + 1 then is_linked s else has_link (m + 1) ss t

-- ---- a far end that answers

-- Active, or begun by the far end and answered by the next tick
abbrev pub is_settled_in : NetState → NetOrigin → Bool
is_settled_in Active origin = true
is_settled_in OutgoingCallProceeding Inward = true
is_settled_in _ _ = false

abbrev pub is_settled : PlainNetCall → Bool
is_settled call = is_settled_in call.state call.origin

-- a call that is live, and is not being cleared
abbrev pub is_going : Standing → Bool
is_going (OnCall call activity) = not (net_is_clearing call.state)
is_going _ = false

-- a turn, from the day after its tick to the day that it leaves: no DISCONNECT, RELEASE or STATUS ENQUIRY waits for its answer, and
-- no call is over that was not being cleared. A call may ring as long as its timers let it.
pub record IsCleared (called left : Day) : Type 0 where
  pub cleared : (i : ℕ) → OnLive (standing_at left i) (λ call a. net_is_clearing call.state ≡ false)
  pub awake : (i : ℕ) → StandingUnasked (standing_at left i)
  pub kept : (i : ℕ) → is_going (standing_at called i) ≡ true → is_live (standing_at left i) ≡ true

-- and no SETUP waits for its answer
pub record IsAllAnswered (called left : Day) : Type 0 where
  pub settled : (i : ℕ) → OnLive (standing_at left i) (λ call a. is_settled call ≡ true)
  pub kept : (i : ℕ) → is_going (standing_at called i) ≡ true → is_live (standing_at left i) ≡ true

-- of each turn of these seconds
abbrev pub EachTurn : (Day → Day → Type 0) → List LiveSecond → Day → Type 0
EachTurn P [] d = Unit {0}
EachTurn P (Unlinked ∷ ss) d = EachTurn P ss (without_link d)
EachTurn P (Linked received ∷ ss) d = P (tick d).day (heard_in received (tick d).day) × EachTurn P ss (heard_in received (tick d).day)

abbrev pub AreCleared : List LiveSecond → Day → Type 0
AreCleared seconds d = EachTurn IsCleared seconds d

abbrev pub AreAnswered : List LiveSecond → Day → Type 0
AreAnswered seconds d = EachTurn IsAllAnswered seconds d

-- ---- an outward booking that can be carried

-- no other accepted booking of its channel runs from moment t to moment u
abbrev pub IsAlone : List Row → List (Option ℕ) → ℕ → ℕ → ℕ → Type 0
IsAlone rows assigned i t u = (j m : ℕ) → j < length rows → j ≢ i → is_accepted assigned j ≡ true → channel_at assigned j ≡ channel_at assigned i → t ≤ m → m ≤ u → is_running (row_at rows j) m ≡ false

-- its channel is cleared by moment cleared, at the opening or in a second with a link; it runs in the second with a link to
-- moment offered; and after its end there is one to moment ended
pub record HasSeconds (rows : List Row) (assigned : List (Option ℕ)) (seconds : List LiveSecond) (i cleared offered ended : ℕ) : Type 0 where
  pub inside : i < length rows
  pub accepted : is_accepted assigned i ≡ true
  pub outward : (row_at rows i).inward ≡ false
  pub alone : IsAlone rows assigned i cleared offered
  pub clears : (cleared ≡ 0) ⊎ (has_link 0 seconds cleared ≡ true)
  pub before : cleared < offered
  pub runs : is_running (row_at rows i) offered ≡ true
  pub offers : has_link 0 seconds offered ≡ true
  pub over : (row_at rows i).end ≤ ended
  pub ends : has_link 0 seconds ended ≡ true

-- ---- from a day on, whatever went before it

-- no call waits for an answer, and no channel is in maintenance
pub record IsSettledDay (d : Day) : Type 0 where
  pub settled : (j : ℕ) → OnLive (standing_at d j) (λ call a. is_settled call ≡ true)
  pub clean : (c : ℕ) → is_marked d.maintenance c ≡ false

-- a booking that waits on such a day has its seconds from then on: its channel is not held on that day, or is cleared in a second
-- with a link after it; the rest is as before
pub record HasSecondsFrom (rows : List Row) (assigned : List (Option ℕ)) (d : Day) (seconds : List LiveSecond) (i cleared offered ended : ℕ) : Type 0 where
  pub inside : i < length rows
  pub outward : (row_at rows i).inward ≡ false
  pub waits : is_unoffered (standing_at d i) ≡ true
  pub alone : IsAlone rows assigned i cleared offered
  pub clears : ((cleared ≡ d.moment) × (is_held d.entries (channel_at assigned i) ≡ false)) ⊎ (has_link d.moment seconds cleared ≡ true)
  pub later : cleared < offered
  pub runs : is_running (row_at rows i) offered ≡ true
  pub offers : has_link d.moment seconds offered ≡ true
  pub over : (row_at rows i).end ≤ ended
  pub ends : has_link d.moment seconds ended ≡ true

-- ---- a booking whose call is Active, and an inward one that is called

-- the call of this booking is Active when so many seconds are over
abbrev pub IsActiveAt : List Row → List (Option ℕ) → List LiveSecond → ℕ → ℕ → Type 0
IsActiveAt rows assigned seconds i moment = OnLive (standing_at (seconds_after (take moment seconds) (opening rows assigned)) i) (λ call a. is_active call.state ≡ true)

-- its call is Active at moment begun, and after its end there is a second with a link to moment ended
pub record IsTalking (rows : List Row) (assigned : List (Option ℕ)) (seconds : List LiveSecond) (i begun ended : ℕ) : Type 0 where
  pub inside : i < length rows
  pub live : is_live (standing_at (seconds_after (take begun seconds) (opening rows assigned)) i) ≡ true
  pub active : IsActiveAt rows assigned seconds i begun
  pub runs : begun < (row_at rows i).end
  pub over : (row_at rows i).end ≤ ended
  pub ends : has_link 0 seconds ended ≡ true

-- its call is live at moment begun, begun by the far end; it runs in a second with a link to moment connected after that; and
-- after its end there is one to moment ended
pub record IsCalled (rows : List Row) (assigned : List (Option ℕ)) (seconds : List LiveSecond) (i begun connected ended : ℕ) : Type 0 where
  pub inside : i < length rows
  pub live : is_live (standing_at (seconds_after (take begun seconds) (opening rows assigned)) i) ≡ true
  pub settled : OnLive (standing_at (seconds_after (take begun seconds) (opening rows assigned)) i) (λ call a. is_settled call ≡ true)
  pub before : begun < connected
  pub runs : connected < (row_at rows i).end
  pub connects : has_link 0 seconds connected ≡ true
  pub over : (row_at rows i).end ≤ ended
  pub ends : has_link 0 seconds ended ≡ true

-- ---- all accepted bookings

-- each has its seconds with a link, or is called, or comes to talk
abbrev pub HaveSeconds : List Row → List (Option ℕ) → List LiveSecond → Type 0
HaveSeconds rows assigned seconds = (i : ℕ) → i < length rows → is_accepted assigned i ≡ true → ((cleared offered ended : ℕ) × HasSeconds rows assigned seconds i cleared offered ended) ⊎ (((begun connected ended : ℕ) × IsCalled rows assigned seconds i begun connected ended) ⊎ ((begun ended : ℕ) × IsTalking rows assigned seconds i begun ended))

-- on a link that is never lost: two seconds of it, of which the first may go by while the booking before it is cleared
pub record IsLongEnough (rows : List Row) (assigned : List (Option ℕ)) (i turns : ℕ) : Type 0 where
  pub inside : i < length rows
  pub accepted : is_accepted assigned i ≡ true
  pub outward : (row_at rows i).inward ≡ false
  pub seconds : (row_at rows i).start + 1 < (row_at rows i).end
  pub over : (row_at rows i).end ≤ turns

abbrev pub AreLongEnough : List Row → List (Option ℕ) → ℕ → Type 0
AreLongEnough rows assigned turns = (i : ℕ) → i < length rows → is_accepted assigned i ≡ true → IsLongEnough rows assigned i turns

-- and one second of it is enough where no accepted booking of its channel ends at its start
pub record IsPunctual (rows : List Row) (assigned : List (Option ℕ)) (i turns : ℕ) : Type 0 where
  pub inside : i < length rows
  pub accepted : is_accepted assigned i ≡ true
  pub outward : (row_at rows i).inward ≡ false
  pub first : 1 ≤ (row_at rows i).start
  pub after_none : (j : ℕ) → j < length rows → is_accepted assigned j ≡ true → channel_at assigned j ≡ channel_at assigned i → (row_at rows j).end ≢ (row_at rows i).start
  pub over : (row_at rows i).end ≤ turns

-- it was Active from some moment that is not after this one until its end
abbrev pub IsCarriedBy : ℕ → ℕ → Standing → Type 0
IsCarriedBy moment end (Carried from until) = (from ≤ moment) × (until ≡ end)
IsCarriedBy moment end _ = ⊥

-- what no event changes of a day: the bookings of the plan, and which of them it accepts
pub record IsDayOfPlan (rows : List Row) (assigned : List (Option ℕ)) (d : Day) : Type 0 where
  pub size : length d.entries ≡ length rows
  pub booking : (i : ℕ) → i < length rows → (entry_at d.entries i).booking ≡ row_at rows i
  pub accepted : (i : ℕ) → i < length rows → is_refused (standing_at d i) ≡ not (is_accepted assigned i)
