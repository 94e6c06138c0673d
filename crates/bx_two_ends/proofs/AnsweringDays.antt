-- A day whose far end answers by its messages is one whose far end answers each turn.
use Rattle.bx_events.specs.declared.rules.Rules.TheVariants.{Three}
use Rattle.std.proofs.Common.{◌≡◌, ℕ, zero, suc, ◌+◌, ◌≤◌, ◌<◌, Bool, true, false, List, [], ◌∷◌, length, Option, Some, None, arith, refl, sym, subst, ◌∙◌, nat_le, if◌then◌else◌}
use Rattle.std.proofs.lemmas.Bool.{true≢false}
use Rattle.bx_base.specs.Bookings.{Row, AreBookings, Carries}
use Rattle.bx_base.specs.Channels.{IsChannelSet}
use Rattle.bx_base.specs.Plans.{is_accepted, channel_at}
use Rattle.bx_calls.specs.NetTable.{net_second}
use Rattle.bx_calls.specs.PlainCalls.{PlainNetCall}
use Rattle.bx_calls.specs.declared.times.Times.TheVariants.{NotYet, Once, Twice}
use Rattle.bx_calls.specs.declared.net_state.Offer.TheVariants.{Second}
use Rattle.bx_calls.specs.declared.net_state.NetOrigin.{NetOrigin}
use Rattle.bx_calls.specs.declared.net_state.NetState.{NetState}
use Rattle.bx_calls.specs.declared.net_state.NetState.TheVariants.{OutgoingCallProceeding, CallPresent, IncomingCallProceeding, CallReceived, Active, Enquiring, DisconnectIndication, ReleaseRequest}
use Rattle.bx_calls.specs.declared.transition.Transition.{Transition}
use Rattle.bx_two_ends.specs.Answering.{is_connect, is_ringing, is_told, Clears, Answers, EachHeard, ClearsAll, AnswersAll}
use Rattle.bx_two_ends.proofs.Sparing.{turn_cleared}
use Rattle.bx_day.specs.Day.{is_back, Day, entry_of, entries_from, entry_at, is_free, is_live, opening}
use Rattle.bx_two_ends.specs.Earning.{LiveSecond, Linked, Unlinked, heard_in, second_after, AreAnswered, IsAllAnswered, IsCleared, EachTurn, AreCleared}
use Rattle.bx_day.specs.Moves.{follows}
use Rattle.bx_day.specs.Law.{standing_at}
use Rattle.bx_day.specs.Outages.{without_link}
use Rattle.bx_day.specs.Reading.{IsExchange}
use Rattle.bx_day.specs.Ticks.{second_at, waits, passed_in}
use Rattle.bx_day.specs.declared.entry.Activity.{Activity}
use Rattle.bx_day.specs.declared.entry.Activity.TheVariants.{Never}
use Rattle.bx_day.specs.Moves.{over_at}
use Rattle.bx_day.specs.declared.entry.Entry.{Entry}
use Rattle.bx_day.specs.declared.entry.Link.TheVariants.{Up, Down}
use Rattle.bx_day.specs.declared.entry.Moved.{Moved}
use Rattle.bx_day.specs.declared.entry.Standing.{Standing}
use Rattle.bx_day.specs.declared.entry.Standing.TheVariants.{Unoffered, OnCall}
use Rattle.bx_two_ends.proofs.Answering.{is_third_call, IsHearing, IsLeft, left_at, turn_answered, all_heard}
use Rattle.bx_two_ends.proofs.Naming.{IsNamedOnce, names_live, once_second}
use Rattle.bx_two_ends.proofs.Calm.{IsCalm, called_turn, calm_linked, calm_unlinked, without_is, after_standing, day_linked, linked_turn, answered_cleared}
use Rattle.bx_two_ends.proofs.EarnedDays.{opening_calm}
use Rattle.bx_day.proofs.OpeningDay.{opening_is}
use Rattle.bx_day.proofs.Passing.{passed_stays, tick_is}
use Rattle.bx_day.proofs.Second.{call_of}
use Rattle.bx_two_ends.proofs.Turning.{heard_turn}
use Rattle.bx_day.proofs.Tick.{by_cases, offers}

-- ---- a second begins no call that the far end has to begin

abbrev IsOther : Standing → Type 0
IsOther s = is_third_call s ≡ false

by_step : (b : Bool) (a : Activity) (t : ℕ) (x y : Transition PlainNetCall) → IsOther (follows a t x).standing → IsOther (follows a t y).standing → IsOther (follows a t (if b then x else y)).standing
by_step true a t x y f g = f
by_step false a t x y f g = g

over_other : (a : Activity) (t : ℕ) → IsOther (over_at a t)
over_other Never t = refl
over_other a t = refl

other_second : (t end r ch : ℕ) (o : NetOrigin) (s : NetState) (a : Activity) → IsOther (follows a t (net_second (call_of r ch o s) t end)).standing
other_second t end r ch o OutgoingCallProceeding a = by_step (nat_le end t) a t _ _ refl refl
other_second t end r ch o (CallPresent Second due) a = by_step (nat_le end t) a t _ _ refl (by_step (nat_le due t) a t _ _ (over_other a t) refl)
other_second t end r ch o (CallPresent offer due) a = by_step (nat_le end t) a t _ _ refl (by_step (nat_le due t) a t _ _ refl refl)
other_second t end r ch o (IncomingCallProceeding due) a = by_step (nat_le end t) a t _ _ refl (by_step (nat_le due t) a t _ _ refl refl)
other_second t end r ch o (CallReceived due) a = by_step (nat_le end t) a t _ _ refl (by_step (nat_le due t) a t _ _ refl refl)
other_second t end r ch o Active a = by_step (nat_le end t) a t _ _ refl refl
other_second t end r ch o (Enquiring NotYet due) a = by_step (nat_le end t) a t _ _ refl (by_step (nat_le due t) a t _ _ refl refl)
other_second t end r ch o (Enquiring Once due) a = by_step (nat_le end t) a t _ _ refl (by_step (nat_le due t) a t _ _ refl refl)
other_second t end r ch o (Enquiring Twice due) a = by_step (nat_le end t) a t _ _ refl (by_step (nat_le due t) a t _ _ refl refl)
other_second t end r ch o (DisconnectIndication cause due) a = by_step (nat_le due t) a t _ _ refl refl
other_second t end r ch o (ReleaseRequest Twice cause due) a = by_step (nat_le due t) a t _ _ (over_other a t) refl
other_second t end r ch o (ReleaseRequest sent cause due) a = by_step (nat_le due t) a t _ _ refl refl

other_waits : (e : Entry) (t : ℕ) (back free : Bool) → IsOther (waits e t back free).standing
other_waits e t back free = by_cases (offers e t free) _ _ (λ (m : Moved). IsOther m.standing) (λ _. refl) (λ _. by_cases (nat_le e.booking.end t) _ _ (λ (m : Moved). IsOther m.standing) (λ _. refl) (λ _. refl))

other_tick : (t : ℕ) (e : Entry) (back free : Bool) (s : Standing) → IsOther (second_at e t back free s).standing
other_tick t e back free (OnCall c a) = other_second t e.booking.end c.reference c.channel c.origin c.state a
other_tick t e back free Unoffered = other_waits e t back free
other_tick t e back free s = refl

-- ---- all seconds

pub record IsBetween (rows : List Row) (assigned : List (Option ℕ)) (d : Day) : Type 0 where
  pub calm : IsCalm rows assigned d
  pub exchange : IsExchange d
  pub once : IsNamedOnce d

hearing_at : (rows : List Row) (assigned : List (Option ℕ)) (d : Day) → d.moment < 300000 → IsBetween rows assigned d → IsHearing rows assigned (d.moment + 1) (passed_in Up d).day
hearing_at rows assigned d early h = record { turn = called_turn rows assigned d early h.calm; exchange = passed_stays Up d early h.exchange; once = once_second Up d h.once }

pub linked_between : (rows : List Row) (assigned : List (Option ℕ)) (d : Day) (received : List (List ℕ)) → d.moment < 300000 → IsBetween rows assigned d → IsCleared (passed_in Up d).day (heard_in received (passed_in Up d).day) → IsBetween rows assigned (heard_in received (passed_in Up d).day)
linked_between rows assigned d received early h ok =
    let last = all_heard rows assigned (d.moment + 1) received (passed_in Up d).day (hearing_at rows assigned d early h) in
    record { calm = calm_linked rows assigned d received early h.calm ok; exchange = last.exchange; once = last.once }

pub unlinked_between : (rows : List Row) (assigned : List (Option ℕ)) (d : Day) → d.moment < 300000 → IsBetween rows assigned d → IsBetween rows assigned (passed_in (Down Three) d).day
unlinked_between rows assigned d early h = record { calm = calm_unlinked rows assigned d early h.calm; exchange = passed_stays (Down Three) d early h.exchange; once = once_second (Down Three) d h.once }

-- what each turn does, where what is heard in it does so
each_run : (rows : List Row) (assigned : List (Option ℕ)) (P : Day → List (List ℕ) → Type 0) (Q : Day → Day → Type 0)
    → ((d : Day) (received : List (List ℕ)) → d.moment < 300000 → IsBetween rows assigned d → P (passed_in Up d).day received → Q (passed_in Up d).day (heard_in received (passed_in Up d).day))
    → ((c l : Day) → Q c l → IsCleared c l)
    → (seconds : List LiveSecond) (d : Day) → IsBetween rows assigned d → EachHeard P seconds d → d.moment + length seconds ≤ 300000 → EachTurn Q seconds d
each_run rows assigned P Q f g [] d h ok few = tt
each_run rows assigned P Q f g (Linked received ∷ ss) d h ok few =
    let early : d.moment < 300000 = omega (arith, few) in
    let left : Day = heard_in received (passed_in Up d).day in
    let turn = f d received early h (subst (λ x. P x.day received) (tick_is d early) ok.0) in
    let at : left.moment ≡ d.moment + 1 = (heard_turn rows assigned (d.moment + 1) received (passed_in Up d).day (called_turn rows assigned d early h.calm)).moment in
    let is : second_after (Linked received) d ≡ left = day_linked d received early in
    (linked_turn Q d received early turn, subst (EachTurn Q ss) (sym is) (each_run rows assigned P Q f g ss left (linked_between rows assigned d received early h (g (passed_in Up d).day left turn)) (subst (EachHeard P ss) is ok.1) (omega (arith, few, at))))
each_run rows assigned P Q f g (Unlinked ∷ ss) d h ok few =
    let early : d.moment < 300000 = omega (arith, few) in
    let is : without_link d ≡ (passed_in (Down Three) d).day = without_is d early in
    subst (EachTurn Q ss) (sym is) (each_run rows assigned P Q f g ss (passed_in (Down Three) d).day (unlinked_between rows assigned d early h) (subst (EachHeard P ss) is ok) (omega (arith, few)))

answered_turn : (rows : List Row) (assigned : List (Option ℕ)) (d : Day) (received : List (List ℕ)) → d.moment < 300000 → IsBetween rows assigned d → Answers (passed_in Up d).day received → IsAllAnswered (passed_in Up d).day (heard_in received (passed_in Up d).day)
answered_turn rows assigned d received early h ok = turn_answered rows assigned (d.moment + 1) received (passed_in Up d).day (hearing_at rows assigned d early h) ok (λ j. let e = entry_at d.entries j in subst IsOther (sym (after_standing Up d j)) (other_tick (d.moment + 1) e (is_back d) (is_free d e.channel) e.standing))

-- a booking whose call is connected, if it rings
pub left_turn : (rows : List Row) (assigned : List (Option ℕ)) (d : Day) (received : List (List ℕ)) (i : ℕ) → d.moment < 300000 → IsBetween rows assigned d → Clears (passed_in Up d).day received → (is_ringing (standing_at (passed_in Up d).day i) ≡ true → is_told (λ m. is_connect m.kind) (entry_at (passed_in Up d).day.entries i) received ≡ true) → IsLeft (passed_in Up d).day (heard_in received (passed_in Up d).day) i
left_turn rows assigned d received i early h clears connected = left_at rows assigned (d.moment + 1) i received (passed_in Up d).day (hearing_at rows assigned d early h) clears connected (let e = entry_at d.entries i in subst IsOther (sym (after_standing Up d i)) (other_tick (d.moment + 1) e (is_back d) (is_free d e.channel) e.standing))

pub cleared_turn : (rows : List Row) (assigned : List (Option ℕ)) (d : Day) (received : List (List ℕ)) → d.moment < 300000 → IsBetween rows assigned d → Clears (passed_in Up d).day received → IsCleared (passed_in Up d).day (heard_in received (passed_in Up d).day)
cleared_turn rows assigned d received early h ok = turn_cleared rows assigned (d.moment + 1) received (passed_in Up d).day (hearing_at rows assigned d early h) ok

-- at the opening none is live
idle_of : (k : ℕ) (b : Row) (a : Option ℕ) → is_live (entry_of k b a).standing ≡ false
idle_of k b None = refl
idle_of k b (Some c) = refl

pub idle_at : (k : ℕ) (rows : List Row) (assigned : List (Option ℕ)) (j : ℕ) → is_live (entry_at (entries_from k rows assigned) j).standing ≡ false
idle_at k [] assigned j = refl
idle_at k (b ∷ bs) [] zero = idle_of k b None
idle_at k (b ∷ bs) [] (suc j) = idle_at (k + 1) bs [] j
idle_at k (b ∷ bs) (a ∷ as') zero = idle_of k b a
idle_at k (b ∷ bs) (a ∷ as') (suc j) = idle_at (k + 1) bs as' j

pub opening_between : (rows : List Row) (channels : List Bool) (assigned : List (Option ℕ)) → AreBookings rows → IsChannelSet channels → Carries rows channels (is_accepted assigned) (channel_at assigned) → IsBetween rows assigned (opening rows assigned)
opening_between rows channels assigned b set h = record {
  calm = opening_calm rows channels assigned b h;
  exchange = opening_is rows channels assigned b set h;
  once = λ m i j flag hi hj. absurd (true≢false (sym (names_live m (entry_at (entries_from 1 rows assigned) i).standing hi) ∙ idle_at 1 rows assigned i));
}

pub answered_by : (rows : List Row) (channels : List Bool) (assigned : List (Option ℕ)) (seconds : List LiveSecond) → AreBookings rows → IsChannelSet channels → Carries rows channels (is_accepted assigned) (channel_at assigned) → length seconds ≤ 300000 → AnswersAll seconds (opening rows assigned) → AreAnswered seconds (opening rows assigned)
answered_by rows channels assigned seconds b set h few ok = each_run rows assigned Answers IsAllAnswered (answered_turn rows assigned) answered_cleared seconds (opening rows assigned) (opening_between rows channels assigned b set h) ok (omega (arith, few))

pub cleared_by : (rows : List Row) (channels : List Bool) (assigned : List (Option ℕ)) (seconds : List LiveSecond) → AreBookings rows → IsChannelSet channels → Carries rows channels (is_accepted assigned) (channel_at assigned) → length seconds ≤ 300000 → ClearsAll seconds (opening rows assigned) → AreCleared seconds (opening rows assigned)
cleared_by rows channels assigned seconds b set h few ok = each_run rows assigned Clears IsCleared (cleared_turn rows assigned) (λ c l k. k) seconds (opening rows assigned) (opening_between rows channels assigned b set h) ok (omega (arith, few))
