-- A second with a link on a channel, and one without: how the two ends of it go on.
use Rattle.bx_events.specs.declared.rules.Rules.TheVariants.{Three}
use Rattle.std.proofs.Common.{◌≡◌, ◌≢◌, inl, inr, ℕ, ◌+◌, ◌≤◌, ◌<◌, ◌&&◌, not, nat_le, Bool, true, false, List, [], ◌∷◌, ◌++◌, Option, Some, None, refl, sym, ap, subst, ◌∙◌, arith, if◌then◌else◌}
use Rattle.std.proofs.lemmas.Bool.{true≢false, eq-eqb, le-leb, lt-leb, leb-true, leb-false, cases_eq}
use Rattle.bx_q931.specs.Outgoing.{Outgoing, plain}
use Rattle.bx_q931.specs.declared.kind.Kind.TheVariants.{Connect, ConnectAcknowledge, Disconnect, ReleaseComplete, StatusEnquiry}
use Rattle.bx_calls.specs.NetTable.{net_flag, net_offer_due, net_release_due, net_is_clearing, net_second, net_timer, net_disconnects, net_releases, net_asks, net_same, net_to, net_unlinked, net_lost}
use Rattle.bx_calls.specs.UserTable.{user_second, user_disconnects, user_same, user_releases, user_later, user_unlinked}
use Rattle.bx_calls.specs.PlainCalls.{PlainNetCall, PlainUserCall}
use Rattle.bx_calls.specs.Saying as saying
use Rattle.bx_calls.specs.Saying.{network, with_cause, with_channel, setup_of, status_of}
use Rattle.bx_calls.specs.UnknownTable.{refusal_of}
use Rattle.bx_calls.specs.declared.call_state.CallState.TheVariants as call
use Rattle.bx_calls.specs.declared.net_state.NetOrigin.{NetOrigin}
use Rattle.bx_calls.specs.declared.net_state.NetOrigin.TheVariants.{Outward, Inward}
use Rattle.bx_calls.specs.declared.net_state.NetState.{NetState}
use Rattle.bx_calls.specs.declared.net_state.NetState.TheVariants as net
use Rattle.bx_calls.specs.declared.net_state.Offer.{Offer}
use Rattle.bx_calls.specs.declared.net_state.Offer.TheVariants.{First, Second, Anew, PutOff, Unlinked, Asked}
use Rattle.bx_calls.specs.declared.times.Times.{Times}
use Rattle.bx_calls.specs.declared.times.Times.TheVariants.{NotYet, Once, Twice}
use Rattle.bx_calls.specs.declared.transition.Transition.{Transition}
use Rattle.bx_calls.specs.declared.unknown_reference.Side.TheVariants.{Network, User}
use Rattle.bx_calls.specs.declared.user_state.Policy.TheVariants.{Answer}
use Rattle.bx_calls.specs.declared.user_state.UserOrigin.{UserOrigin}
use Rattle.bx_calls.specs.declared.user_state.UserOrigin.TheVariants.{Offered}
use Rattle.bx_calls.specs.declared.user_state.UserState.{UserState}
use Rattle.bx_calls.specs.declared.user_state.UserState.TheVariants as user
use Rattle.bx_day.proofs.Once.{decide}
use Rattle.bx_day.proofs.Tick.{by_cases}
use Rattle.bx_two_ends.proofs.OneChannel.{Left, left_as, IsPart, NearTicks, near_meets, near_outlasts, near_left, near_stepped, far_meets, far_outlasts, far_passes, far_stepped}
use Rattle.bx_two_ends.proofs.ChannelStates as states
use Rattle.bx_two_ends.proofs.ChannelStates.{IsNearCall, IsFarCall, IsOffering, IsTalkingState, IsClearingState, IsConnecting, IsUpThere, IsReleasing, Nothing, LeftOver, OfferedBehind, Connected, Talks, Cleared, ClearedAlone, ClearedBoth, IsLoose, LostNear, LostFar, IsLost, IsPutOff, IsReleased, IsActiveHere, IsActiveThere, IsSettling, Idle, Talking, Waiting, Clearing, IsUnbrokenNear, IsUnbrokenFar, IsThere, IsKeptOn, TurnLeaves, asked_in, passed_in_turn, left_in}
use Rattle.bx_two_ends.proofs.FarTurns.{IsAnswering}
use Rattle.bx_two_ends.proofs.ChannelLosses.{near_named, near_other, far_named, far_other, release_of, cause_at, release_is, Half, Any, half_none, half_then, half_last, IsUnbrokenThere, Turn, turn_quiet, turn_says}

-- ---- what is settled, or lost, is loose

active_talks : (s : NetState) → IsActiveHere s → IsTalkingState s
active_talks net.Active h = tt
active_talks s h = absurd h

active_up : (s : UserState) → IsActiveThere s → IsUpThere s
active_up (user.Active since) h = tt
active_up s h = absurd h

put_off_offers : (t : ℕ) (s : NetState) → IsPutOff t s → IsOffering s
put_off_offers t (net.CallPresent PutOff due) h = tt
put_off_offers t s h = absurd h

released_clears : (b : ℕ) (s : NetState) → IsReleased b s → IsClearingState s
released_clears b (net.ReleaseRequest Once cause due) h = tt
released_clears b s h = absurd h

pub loose_of : (ends : ℕ → ℕ) (k b t : ℕ) (near : Option PlainNetCall) (far : Option PlainUserCall) → IsSettling ends k b t near far → IsLoose ends k t near far
loose_of ends k b t near far (Idle n f) = Nothing n f
loose_of ends k b t near far (Talking c x n f here there same s q late) = Talks c x n f here there same (active_talks c.state s) tt (active_up x.state q) tt late
loose_of ends k b t near far (Waiting c n f here s now late) = states.Offered c n f here (put_off_offers t c.state s) tt late
loose_of ends k b t near far (Clearing c n f here s soon early) = Cleared c n f here (released_clears b c.state s) tt early

pub lost_loose : (ends : ℕ → ℕ) (k t : ℕ) (near : Option PlainNetCall) (far : Option PlainUserCall) → IsLost ends k t near far → IsLoose ends k t near far
lost_loose ends k t near far (Nothing n f) = Nothing n f
lost_loose ends k t near far (LeftOver x n f there q q' early) = LeftOver x n f there q tt early
lost_loose ends k t near far (states.Offered c n f here s s' late) = states.Offered c n f here s tt late
lost_loose ends k t near far (OfferedBehind c x n f here there s s' q q' late early) = OfferedBehind c x n f here there s tt q tt late early
lost_loose ends k t near far (Connected c x n f here there same s s' q q' late) = Connected c x n f here there same s tt q tt late
lost_loose ends k t near far (Talks c x n f here there same s s' q q' late) = Talks c x n f here there same s tt q tt late
lost_loose ends k t near far (Cleared c n f here s s' early) = Cleared c n f here s tt early
lost_loose ends k t near far (ClearedAlone c x n f here there same s s' q q' early) = ClearedAlone c x n f here there same s tt q tt early
lost_loose ends k t near far (ClearedBoth c x n f here there s s' q q' early far_early) = ClearedBoth c x n f here there s tt q tt early far_early

-- ---- a second without a link

near_after : (k : ℕ) (c : PlainNetCall) (s : NetState) → IsNearCall k c → IsNearCall k (record c { state = s })
near_after k c s h = record { channel = h.channel; origin = h.origin }

far_after : (k : ℕ) (x : PlainUserCall) (s : UserState) → IsFarCall k x → IsFarCall k (record x { state = s })
far_after k x s h = record { channel = h.channel; origin = h.origin }

unlinked_ended : (c : PlainNetCall) (u end : ℕ) → net_is_clearing c.state ≡ false → end ≤ u → near_left (net_unlinked Three 1 c u end).next ≡ Some (record c { state = net.DisconnectIndication 16 (u + 1) })
unlinked_ended c u end going ended =
    ap (λ b. near_left (if not b && nat_le end u then net_to c None (net.DisconnectIndication 16 (u + 1)) else net_to c None (net_lost Three 1 u c.state)).next) going
    ∙ ap (λ b. near_left (if b then net_to c None (net.DisconnectIndication 16 (u + 1)) else net_to c None (net_lost Three 1 u c.state)).next) (le-leb end u ended)

unlinked_goes : (c : PlainNetCall) (u end : ℕ) → net_is_clearing c.state ≡ false → u < end → near_left (net_unlinked Three 1 c u end).next ≡ Some (record c { state = net_lost Three 1 u c.state })
unlinked_goes c u end going late =
    ap (λ b. near_left (if not b && nat_le end u then net_to c None (net.DisconnectIndication 16 (u + 1)) else net_to c None (net_lost Three 1 u c.state)).next) going
    ∙ ap (λ b. near_left (if b then net_to c None (net.DisconnectIndication 16 (u + 1)) else net_to c None (net_lost Three 1 u c.state)).next) (lt-leb end u late)

unlinked_clears : (c : PlainNetCall) (u end : ℕ) → net_is_clearing c.state ≡ true → near_left (net_unlinked Three 1 c u end).next ≡ Some (record c { state = net_lost Three 1 u c.state })
unlinked_clears c u end clears = ap (λ b. near_left (if not b && nat_le end u then net_to c None (net.DisconnectIndication 16 (u + 1)) else net_to c None (net_lost Three 1 u c.state)).next) clears

-- kinds of states in it
offering_going : (s : NetState) → IsOffering s → net_is_clearing s ≡ false
offering_going (net.CallPresent offer due) h = refl
offering_going s h = absurd h

talking_going : (s : NetState) → IsTalkingState s → net_is_clearing s ≡ false
talking_going net.Active h = refl
talking_going (net.Enquiring asked due) h = refl
talking_going s h = absurd h

clearing_clears : (s : NetState) → IsClearingState s → net_is_clearing s ≡ true
clearing_clears (net.DisconnectIndication cause due) h = refl
clearing_clears (net.ReleaseRequest sent cause due) h = refl
clearing_clears s h = absurd h

offering_lost : (u : ℕ) (s : NetState) → IsOffering s → IsOffering (net_lost Three 1 u s) × LostNear u (net_lost Three 1 u s)
offering_lost u (net.CallPresent offer due) h = (tt, refl)
offering_lost u s h = absurd h

talking_lost : (u : ℕ) (s : NetState) → IsTalkingState s → IsTalkingState (net_lost Three 1 u s) × LostNear u (net_lost Three 1 u s)
talking_lost u net.Active h = (tt, refl)
talking_lost u (net.Enquiring asked due) h = (tt, refl)
talking_lost u s h = absurd h

clearing_lost : (u : ℕ) (s : NetState) → IsClearingState s → IsClearingState (net_lost Three 1 u s) × LostNear u (net_lost Three 1 u s)
clearing_lost u (net.DisconnectIndication cause due) h = (tt, refl)
clearing_lost u (net.ReleaseRequest sent cause due) h = (tt, refl)
clearing_lost u s h = absurd h

connecting_lost : (u : ℕ) (s : UserState) → IsConnecting s → IsConnecting (user_later u s) × LostFar u (user_later u s)
connecting_lost u (user.ConnectRequest due) h = (tt, refl)
connecting_lost u s h = absurd h

up_lost : (u : ℕ) (s : UserState) → IsUpThere s → IsUpThere (user_later u s) × LostFar u (user_later u s)
up_lost u (user.ConnectRequest due) h = (tt, refl)
up_lost u (user.Active since) h = (tt, tt)
up_lost u s h = absurd h

connecting_up : (s : UserState) → IsConnecting s → IsUpThere s
connecting_up (user.ConnectRequest due) h = tt
connecting_up s h = absurd h

releasing_lost : (u : ℕ) (s : UserState) → IsReleasing s → IsReleasing (user_later u s) × LostFar u (user_later u s)
releasing_lost u (user.ReleaseRequest sent cause due) h = (tt, refl)
releasing_lost u s h = absurd h

-- the two ends, where the booking of the call ends, goes on, or has ended
module _ (ends : ℕ → ℕ) (k t : ℕ) (near : Option PlainNetCall) (far : Option PlainUserCall) where
  near_ended : (c : PlainNetCall) → near ≡ Some c → net_is_clearing c.state ≡ false → ends c.reference ≤ t + 1 → near_outlasts ends (t + 1) near ≡ Some (record c { state = net.DisconnectIndication 16 (t + 1 + 1) })
  near_ended c n going ended = ap (near_outlasts ends (t + 1)) n ∙ unlinked_ended c (t + 1) (ends c.reference) going ended

  near_goes : (c : PlainNetCall) → near ≡ Some c → net_is_clearing c.state ≡ false → t + 1 < ends c.reference → near_outlasts ends (t + 1) near ≡ Some (record c { state = net_lost Three 1 (t + 1) c.state })
  near_goes c n going late = ap (near_outlasts ends (t + 1)) n ∙ unlinked_goes c (t + 1) (ends c.reference) going late

  near_clears : (c : PlainNetCall) → near ≡ Some c → net_is_clearing c.state ≡ true → near_outlasts ends (t + 1) near ≡ Some (record c { state = net_lost Three 1 (t + 1) c.state })
  near_clears c n clears = ap (near_outlasts ends (t + 1)) n ∙ unlinked_clears c (t + 1) (ends c.reference) clears

  pub lost_after : IsLoose ends k t near far → IsLost ends k (t + 1) (near_outlasts ends (t + 1) near) (far_outlasts (t + 1) far)
  lost_after (Nothing n f) = Nothing (ap (near_outlasts ends (t + 1)) n) (ap (far_outlasts (t + 1)) f)
  lost_after (LeftOver x n f there q q' early) =
      let p = releasing_lost (t + 1) x.state q in
      LeftOver (user_unlinked (t + 1) x) (ap (near_outlasts ends (t + 1)) n) (ap (far_outlasts (t + 1)) f) (far_after k x (user_later (t + 1) x.state) there) p.0 p.1 (omega (arith, early))
  lost_after (states.Offered c n f here s s' late) = decide (nat_le (ends c.reference) (t + 1))
      (λ ended.
      let e = leb-true (ends c.reference) (t + 1) ended in
      Cleared (record c { state = net.DisconnectIndication 16 (t + 1 + 1) }) (near_ended c n (offering_going c.state s) e) (ap (far_outlasts (t + 1)) f) (near_after k c (net.DisconnectIndication 16 (t + 1 + 1)) here) tt refl e)
      (λ goes.
      let e = leb-false (ends c.reference) (t + 1) goes in
      let p = offering_lost (t + 1) c.state s in
      states.Offered (record c { state = net_lost Three 1 (t + 1) c.state }) (near_goes c n (offering_going c.state s) e) (ap (far_outlasts (t + 1)) f) (near_after k c (net_lost Three 1 (t + 1) c.state) here) p.0 p.1 e)
  lost_after (OfferedBehind c x n f here there s s' q q' late early) =
      let g = releasing_lost (t + 1) x.state q in
      decide (nat_le (ends c.reference) (t + 1))
      (λ ended.
      let e = leb-true (ends c.reference) (t + 1) ended in
      ClearedBoth (record c { state = net.DisconnectIndication 16 (t + 1 + 1) }) (user_unlinked (t + 1) x) (near_ended c n (offering_going c.state s) e) (ap (far_outlasts (t + 1)) f) (near_after k c (net.DisconnectIndication 16 (t + 1 + 1)) here) (far_after k x (user_later (t + 1) x.state) there) tt refl g.0 g.1 e (omega (arith, early)))
      (λ goes.
      let e = leb-false (ends c.reference) (t + 1) goes in
      let p = offering_lost (t + 1) c.state s in
      OfferedBehind (record c { state = net_lost Three 1 (t + 1) c.state }) (user_unlinked (t + 1) x) (near_goes c n (offering_going c.state s) e) (ap (far_outlasts (t + 1)) f) (near_after k c (net_lost Three 1 (t + 1) c.state) here) (far_after k x (user_later (t + 1) x.state) there) p.0 p.1 g.0 g.1 e (omega (arith, early)))
  lost_after (Connected c x n f here there same s s' q q' late) =
      let g = connecting_lost (t + 1) x.state q in
      decide (nat_le (ends c.reference) (t + 1))
      (λ ended.
      let e = leb-true (ends c.reference) (t + 1) ended in
      ClearedAlone (record c { state = net.DisconnectIndication 16 (t + 1 + 1) }) (user_unlinked (t + 1) x) (near_ended c n (offering_going c.state s) e) (ap (far_outlasts (t + 1)) f) (near_after k c (net.DisconnectIndication 16 (t + 1 + 1)) here) (far_after k x (user_later (t + 1) x.state) there) same tt refl (connecting_up (user_later (t + 1) x.state) g.0) g.1 e)
      (λ goes.
      let e = leb-false (ends c.reference) (t + 1) goes in
      let p = offering_lost (t + 1) c.state s in
      Connected (record c { state = net_lost Three 1 (t + 1) c.state }) (user_unlinked (t + 1) x) (near_goes c n (offering_going c.state s) e) (ap (far_outlasts (t + 1)) f) (near_after k c (net_lost Three 1 (t + 1) c.state) here) (far_after k x (user_later (t + 1) x.state) there) same p.0 p.1 g.0 g.1 e)
  lost_after (Talks c x n f here there same s s' q q' late) =
      let g = up_lost (t + 1) x.state q in
      decide (nat_le (ends c.reference) (t + 1))
      (λ ended.
      let e = leb-true (ends c.reference) (t + 1) ended in
      ClearedAlone (record c { state = net.DisconnectIndication 16 (t + 1 + 1) }) (user_unlinked (t + 1) x) (near_ended c n (talking_going c.state s) e) (ap (far_outlasts (t + 1)) f) (near_after k c (net.DisconnectIndication 16 (t + 1 + 1)) here) (far_after k x (user_later (t + 1) x.state) there) same tt refl g.0 g.1 e)
      (λ goes.
      let e = leb-false (ends c.reference) (t + 1) goes in
      let p = talking_lost (t + 1) c.state s in
      Talks (record c { state = net_lost Three 1 (t + 1) c.state }) (user_unlinked (t + 1) x) (near_goes c n (talking_going c.state s) e) (ap (far_outlasts (t + 1)) f) (near_after k c (net_lost Three 1 (t + 1) c.state) here) (far_after k x (user_later (t + 1) x.state) there) same p.0 p.1 g.0 g.1 e)
  lost_after (Cleared c n f here s s' early) =
      let p = clearing_lost (t + 1) c.state s in
      Cleared (record c { state = net_lost Three 1 (t + 1) c.state }) (near_clears c n (clearing_clears c.state s)) (ap (far_outlasts (t + 1)) f) (near_after k c (net_lost Three 1 (t + 1) c.state) here) p.0 p.1 (omega (arith, early))
  lost_after (ClearedAlone c x n f here there same s s' q q' early) =
      let p = clearing_lost (t + 1) c.state s in
      let g = up_lost (t + 1) x.state q in
      ClearedAlone (record c { state = net_lost Three 1 (t + 1) c.state }) (user_unlinked (t + 1) x) (near_clears c n (clearing_clears c.state s)) (ap (far_outlasts (t + 1)) f) (near_after k c (net_lost Three 1 (t + 1) c.state) here) (far_after k x (user_later (t + 1) x.state) there) same p.0 p.1 g.0 g.1 (omega (arith, early))
  lost_after (ClearedBoth c x n f here there s s' q q' early far_early) =
      let p = clearing_lost (t + 1) c.state s in
      let g = releasing_lost (t + 1) x.state q in
      ClearedBoth (record c { state = net_lost Three 1 (t + 1) c.state }) (user_unlinked (t + 1) x) (near_clears c n (clearing_clears c.state s)) (ap (far_outlasts (t + 1)) f) (near_after k c (net_lost Three 1 (t + 1) c.state) here) (far_after k x (user_later (t + 1) x.state) there) p.0 p.1 g.0 g.1 (omega (arith, early)) (omega (arith, far_early))

pub lost_kept : (ends : ℕ → ℕ) (k t : ℕ) (near : Option PlainNetCall) (far : Option PlainUserCall) → IsLoose ends k t near far → IsKeptOn ends (t + 1) near (near_outlasts ends (t + 1) near)
lost_kept ends k t None far h = tt
lost_kept ends k t (Some c) far h = λ late. by_cases (not (net_is_clearing c.state) && nat_le (ends c.reference) (t + 1)) (net_to c None (net.DisconnectIndication 16 (t + 1 + 1))) (net_to c None (net_lost Three 1 (t + 1) c.state)) (λ (step : Transition PlainNetCall). IsThere c.reference (near_left step.next)) (λ _. refl) (λ _. refl)

-- ---- a tick does not break a call that was lost, or is settled

abbrev IsCalled : (ends : ℕ → ℕ) → ℕ → Option PlainNetCall → Type 0
IsCalled ends u None = Unit {0}
IsCalled ends u (Some c) = IsUnbrokenNear (net_second c u (ends c.reference)).next × IsKeptOn ends u (Some c) (near_left (net_second c u (ends c.reference)).next)

abbrev IsSoundStep : ℕ → Transition PlainNetCall → Type 0
IsSoundStep r step = IsUnbrokenNear step.next × IsThere r (near_left step.next)

-- unlike one whose RELEASE was sent twice, and one that was offered a second time
abbrev IsSteady : NetState → Type 0
IsSteady (net.CallPresent Unlinked due) = Unit {0}
IsSteady (net.CallPresent PutOff due) = Unit {0}
IsSteady net.Active = Unit {0}
IsSteady (net.Enquiring NotYet due) = Unit {0}
IsSteady (net.DisconnectIndication cause due) = Unit {0}
IsSteady (net.ReleaseRequest NotYet cause due) = Unit {0}
IsSteady (net.ReleaseRequest Once cause due) = Unit {0}
IsSteady _ = ⊥

steady_timer : (c : PlainNetCall) (u : ℕ) (s : NetState) → IsSteady s → IsSoundStep c.reference (net_timer c u s)
steady_timer c u (net.CallPresent Unlinked due) h = by_cases (nat_le due u) (net_offer_due c u Unlinked) (net_same c None) (IsSoundStep c.reference) (λ _. (tt, refl)) (λ _. (tt, refl))
steady_timer c u (net.CallPresent PutOff due) h = by_cases (nat_le due u) (net_offer_due c u PutOff) (net_same c None) (IsSoundStep c.reference) (λ _. (tt, refl)) (λ _. (tt, refl))
steady_timer c u net.Active h = (tt, refl)
steady_timer c u (net.Enquiring NotYet due) h = by_cases (nat_le due u) (net_asks c Once u) (net_same c None) (IsSoundStep c.reference) (λ _. (tt, refl)) (λ _. (tt, refl))
steady_timer c u (net.DisconnectIndication cause due) h = by_cases (nat_le due u) (net_releases c Once (Some cause) u) (net_same c None) (IsSoundStep c.reference) (λ _. (tt, refl)) (λ _. (tt, refl))
steady_timer c u (net.ReleaseRequest NotYet cause due) h = by_cases (nat_le due u) (net_release_due c u NotYet cause) (net_same c None) (IsSoundStep c.reference) (λ _. (tt, refl)) (λ _. (tt, refl))
steady_timer c u (net.ReleaseRequest Once cause due) h = by_cases (nat_le due u) (net_release_due c u Once cause) (net_same c None) (IsSoundStep c.reference) (λ _. (tt, refl)) (λ _. (tt, refl))
steady_timer c u s h = absurd h

steady_called : (ends : ℕ → ℕ) (u : ℕ) (c : PlainNetCall) → IsSteady c.state → IsCalled ends u (Some c)
steady_called ends u c h =
    let p : IsSoundStep c.reference (net_second c u (ends c.reference)) = by_cases (not (net_is_clearing c.state) && nat_le (ends c.reference) u) (net_disconnects c 16 u) (net_timer c u c.state) (IsSoundStep c.reference) (λ _. (tt, refl)) (λ _. steady_timer c u c.state h) in
    (p.0, λ late. p.1)

steady_at : (ends : ℕ → ℕ) (u : ℕ) (near : Option PlainNetCall) (c : PlainNetCall) → near ≡ Some c → IsSteady c.state → IsCalled ends u near
steady_at ends u near c n h = subst (IsCalled ends u) (sym n) (steady_called ends u c h)

none_at : (ends : ℕ → ℕ) (u : ℕ) (near : Option PlainNetCall) → near ≡ None → IsCalled ends u near
none_at ends u near n = subst (IsCalled ends u) (sym n) tt

lost_steady : (t : ℕ) (s : NetState) → LostNear t s → IsSteady s
lost_steady t (net.CallPresent Unlinked due) h = tt
lost_steady t (net.Enquiring NotYet due) h = tt
lost_steady t (net.DisconnectIndication cause due) h = tt
lost_steady t (net.ReleaseRequest NotYet cause due) h = tt
lost_steady t s h = absurd h

active_steady : (s : NetState) → IsActiveHere s → IsSteady s
active_steady net.Active h = tt
active_steady s h = absurd h

put_off_steady : (t : ℕ) (s : NetState) → IsPutOff t s → IsSteady s
put_off_steady t (net.CallPresent PutOff due) h = tt
put_off_steady t s h = absurd h

released_steady : (b : ℕ) (s : NetState) → IsReleased b s → IsSteady s
released_steady b (net.ReleaseRequest Once cause due) h = tt
released_steady b s h = absurd h

lost_at : (ends : ℕ → ℕ) (k t : ℕ) (near : Option PlainNetCall) (far : Option PlainUserCall) → IsLost ends k t near far → IsCalled ends (t + 1) near
lost_at ends k t near far (Nothing n f) = none_at ends (t + 1) near n
lost_at ends k t near far (LeftOver x n f there q q' early) = none_at ends (t + 1) near n
lost_at ends k t near far (states.Offered c n f here s s' late) = steady_at ends (t + 1) near c n (lost_steady t c.state s')
lost_at ends k t near far (OfferedBehind c x n f here there s s' q q' late early) = steady_at ends (t + 1) near c n (lost_steady t c.state s')
lost_at ends k t near far (Connected c x n f here there same s s' q q' late) = steady_at ends (t + 1) near c n (lost_steady t c.state s')
lost_at ends k t near far (Talks c x n f here there same s s' q q' late) = steady_at ends (t + 1) near c n (lost_steady t c.state s')
lost_at ends k t near far (Cleared c n f here s s' early) = steady_at ends (t + 1) near c n (lost_steady t c.state s')
lost_at ends k t near far (ClearedAlone c x n f here there same s s' q q' early) = steady_at ends (t + 1) near c n (lost_steady t c.state s')
lost_at ends k t near far (ClearedBoth c x n f here there s s' q q' early far_early) = steady_at ends (t + 1) near c n (lost_steady t c.state s')

settling_at : (ends : ℕ → ℕ) (k b t : ℕ) (near : Option PlainNetCall) (far : Option PlainUserCall) → IsSettling ends k b t near far → IsCalled ends (t + 1) near
settling_at ends k b t near far (Idle n f) = none_at ends (t + 1) near n
settling_at ends k b t near far (Talking c x n f here there same s q late) = steady_at ends (t + 1) near c n (active_steady c.state s)
settling_at ends k b t near far (Waiting c n f here s now late) = steady_at ends (t + 1) near c n (put_off_steady t c.state s)
settling_at ends k b t near far (Clearing c n f here s soon early) = steady_at ends (t + 1) near c n (released_steady b c.state s)

pub lost_called : (ends : ℕ → ℕ) (k t : ℕ) (c : PlainNetCall) (far : Option PlainUserCall) → IsLost ends k t (Some c) far → IsUnbrokenNear (net_second c (t + 1) (ends c.reference)).next × IsKeptOn ends (t + 1) (Some c) (near_left (net_second c (t + 1) (ends c.reference)).next)
lost_called ends k t c far h = lost_at ends k t (Some c) far h

pub settling_called : (ends : ℕ → ℕ) (k b t : ℕ) (c : PlainNetCall) (far : Option PlainUserCall) → IsSettling ends k b t (Some c) far → IsUnbrokenNear (net_second c (t + 1) (ends c.reference)).next × IsKeptOn ends (t + 1) (Some c) (near_left (net_second c (t + 1) (ends c.reference)).next)
settling_called ends k b t c far h = settling_at ends k b t (Some c) far h

-- ---- calls as they are written out

abbrev near_of : ℕ → ℕ → List ℕ → NetState → PlainNetCall
near_of k r number s = record { reference = r; channel = k; origin = Outward number; state = s }

abbrev far_of : ℕ → ℕ → ℕ → UserState → PlainUserCall
far_of k r at s = record { reference = r; channel = k; origin = Offered (Answer 0) at; state = s }

here_is : (k r : ℕ) (number : List ℕ) (s : NetState) → IsNearCall k (near_of k r number s)
here_is k r number s = record { channel = refl; origin = refl }

there_is : (k r at : ℕ) (s : UserState) → IsFarCall k (far_of k r at s)
there_is k r at s = record { channel = refl; origin = refl }

near_written : (k : ℕ) (c : PlainNetCall) → IsNearCall k c → (number : List ℕ) × (c ≡ near_of k c.reference number c.state)
near_written k c h = written c.origin h.origin
  where
    written : (o : NetOrigin) → net_flag o ≡ false → (number : List ℕ) × (record { reference = c.reference; channel = c.channel; origin = o; state = c.state } ≡ near_of k c.reference number c.state)
    written (Outward number) e = (number, ap (λ ch. record { reference = c.reference; channel = ch; origin = Outward number; state = c.state }) h.channel)
    written Inward e = absurd (true≢false e)

far_written : (k : ℕ) (x : PlainUserCall) → IsFarCall k x → (at : ℕ) × (x ≡ far_of k x.reference at x.state)
far_written k x h = written x.origin h.origin
  where
    written : (o : UserOrigin) → IsAnswering o → (at : ℕ) × (record { reference = x.reference; channel = x.channel; origin = o; state = x.state } ≡ far_of k x.reference at x.state)
    written (Offered (Answer n) at) e = (at, ap (λ ch. record { reference = x.reference; channel = ch; origin = Offered (Answer n) at; state = x.state }) h.channel ∙ ap (λ m. record { reference = x.reference; channel = k; origin = Offered (Answer m) at; state = x.state }) e)
    written o e = absurd e

module _ (ends : ℕ → ℕ) (k u : ℕ) where
  loose_none : IsLoose ends k u None None
  loose_none = Nothing refl refl

  loose_left : (r at : ℕ) (q : UserState) → IsReleasing q → ends r ≤ u → IsLoose ends k u None (Some (far_of k r at q))
  loose_left r at q h early = LeftOver (far_of k r at q) refl refl (there_is k r at q) h tt early

  loose_offered : (r : ℕ) (number : List ℕ) (s : NetState) → IsOffering s → u < ends r → IsLoose ends k u (Some (near_of k r number s)) None
  loose_offered r number s h late = states.Offered (near_of k r number s) refl refl (here_is k r number s) h tt late

  loose_behind : (r r' at : ℕ) (number : List ℕ) (s : NetState) (q : UserState) → IsOffering s → IsReleasing q → u < ends r → ends r' ≤ u → IsLoose ends k u (Some (near_of k r number s)) (Some (far_of k r' at q))
  loose_behind r r' at number s q h h' late early = OfferedBehind (near_of k r number s) (far_of k r' at q) refl refl (here_is k r number s) (there_is k r' at q) h tt h' tt late early

  loose_connected : (r at : ℕ) (number : List ℕ) (s : NetState) (q : UserState) → IsOffering s → IsConnecting q → u < ends r → IsLoose ends k u (Some (near_of k r number s)) (Some (far_of k r at q))
  loose_connected r at number s q h h' late = Connected (near_of k r number s) (far_of k r at q) refl refl (here_is k r number s) (there_is k r at q) refl h tt h' tt late

  loose_talks : (r at : ℕ) (number : List ℕ) (s : NetState) (q : UserState) → IsTalkingState s → IsUpThere q → u < ends r → IsLoose ends k u (Some (near_of k r number s)) (Some (far_of k r at q))
  loose_talks r at number s q h h' late = Talks (near_of k r number s) (far_of k r at q) refl refl (here_is k r number s) (there_is k r at q) refl h tt h' tt late

  loose_cleared : (r : ℕ) (number : List ℕ) (s : NetState) → IsClearingState s → ends r ≤ u → IsLoose ends k u (Some (near_of k r number s)) None
  loose_cleared r number s h early = Cleared (near_of k r number s) refl refl (here_is k r number s) h tt early

  loose_alone : (r at : ℕ) (number : List ℕ) (s : NetState) (q : UserState) → IsClearingState s → IsUpThere q → ends r ≤ u → IsLoose ends k u (Some (near_of k r number s)) (Some (far_of k r at q))
  loose_alone r at number s q h h' early = ClearedAlone (near_of k r number s) (far_of k r at q) refl refl (here_is k r number s) (there_is k r at q) refl h tt h' tt early

  loose_both : (r r' at : ℕ) (number : List ℕ) (s : NetState) (q : UserState) → IsClearingState s → IsReleasing q → ends r ≤ u → ends r' ≤ u → IsLoose ends k u (Some (near_of k r number s)) (Some (far_of k r' at q))
  loose_both r r' at number s q h h' early early' = ClearedBoth (near_of k r number s) (far_of k r' at q) refl refl (here_is k r number s) (there_is k r' at q) h tt h' tt early early'

-- ---- steps of these calls

abbrev pub stopped_of : ℕ → Outgoing
stopped_of r = with_cause network 16 (plain r false Disconnect)

pub tick_ends : (c : PlainNetCall) (u end : ℕ) → net_is_clearing c.state ≡ false → end ≤ u → net_second c u end ≡ net_disconnects c 16 u
tick_ends c u end going ended =
    ap (λ b. if not b && nat_le end u then net_disconnects c 16 u else net_timer c u c.state) going
    ∙ ap (λ b. if b then net_disconnects c 16 u else net_timer c u c.state) (le-leb end u ended)

pub tick_goes : (c : PlainNetCall) (u end : ℕ) → net_is_clearing c.state ≡ false → u < end → net_second c u end ≡ net_timer c u c.state
tick_goes c u end going late =
    ap (λ b. if not b && nat_le end u then net_disconnects c 16 u else net_timer c u c.state) going
    ∙ ap (λ b. if b then net_disconnects c 16 u else net_timer c u c.state) (lt-leb end u late)

tick_clears : (c : PlainNetCall) (u end : ℕ) → net_is_clearing c.state ≡ true → net_second c u end ≡ net_timer c u c.state
tick_clears c u end clears = ap (λ b. if not b && nat_le end u then net_disconnects c 16 u else net_timer c u c.state) clears

-- U19, whose RELEASE is due: it is said
releases_due : (k r at due u : ℕ) (cause : Option ℕ) → due ≤ u → far_passes u (Some (far_of k r at (user.ReleaseRequest NotYet cause due))) ≡ record { call = Some (far_of k r at (user.ReleaseRequest Once cause (u + 4))); said = release_of r true (cause_at saying.user cause) ∷ [] }
releases_due k r at due u cause late =
    ap (λ b. far_stepped (if b then user_releases (far_of k r at (user.ReleaseRequest NotYet cause due)) Once cause u else user_same (far_of k r at (user.ReleaseRequest NotYet cause due)) None)) (le-leb due u late)
    ∙ ap (λ o. record { call = Some (far_of k r at (user.ReleaseRequest Once cause (u + 4))); said = o ∷ [] }) (release_is saying.user cause r true)

-- or not
releases_later : (k r at due u : ℕ) (cause : Option ℕ) → u < due → user_second (far_of k r at (user.ReleaseRequest Once cause due)) u ≡ user_same (far_of k r at (user.ReleaseRequest Once cause due)) None
releases_later k r at due u cause early = ap (λ b. if b then user_releases (far_of k r at (user.ReleaseRequest Once cause due)) Twice cause u else user_same (far_of k r at (user.ReleaseRequest Once cause due)) None) (lt-leb due u early)

-- U8 and U10, whose timer is not due
up_passes : (k r at t : ℕ) (q : UserState) → IsUpThere q → LostFar t q → far_passes (t + 1) (Some (far_of k r at q)) ≡ left_as (Some (far_of k r at q))
up_passes k r at t (user.ConnectRequest due) h due_is = ap (λ b. far_stepped (if b then user_disconnects (far_of k r at (user.ConnectRequest due)) 102 (t + 1) else user_same (far_of k r at (user.ConnectRequest due)) None)) (lt-leb due (t + 1) (omega (arith, due_is)))
up_passes k r at t (user.Active since) h due_is = refl
up_passes k r at t q h due_is = absurd h

up_unbroken : (k r at u : ℕ) (q : UserState) → IsUpThere q → IsUnbrokenThere u (Some (far_of k r at q))
up_unbroken k r at u (user.ConnectRequest due) h = by_cases (nat_le due u) (user_disconnects (far_of k r at (user.ConnectRequest due)) 102 u) (user_same (far_of k r at (user.ConnectRequest due)) None) (λ (step : Transition PlainUserCall). IsUnbrokenFar step.next) (λ _. tt) (λ _. tt)
up_unbroken k r at u (user.Active since) h = tt
up_unbroken k r at u q h = absurd h

-- U19, whose RELEASE was sent once at most
abbrev IsFew : Times → Type 0
IsFew Twice = ⊥
IsFew _ = Unit {0}

releasing_unbroken : (k r at u : ℕ) (sent : Times) (cause : Option ℕ) (due : ℕ) → IsFew sent → IsUnbrokenThere u (Some (far_of k r at (user.ReleaseRequest sent cause due)))
releasing_unbroken k r at u NotYet cause due few = by_cases (nat_le due u) (user_releases (far_of k r at (user.ReleaseRequest NotYet cause due)) Once cause u) (user_same (far_of k r at (user.ReleaseRequest NotYet cause due)) None) (λ (step : Transition PlainUserCall). IsUnbrokenFar step.next) (λ _. tt) (λ _. tt)
releasing_unbroken k r at u Once cause due few = by_cases (nat_le due u) (user_releases (far_of k r at (user.ReleaseRequest Once cause due)) Twice cause u) (user_same (far_of k r at (user.ReleaseRequest Once cause due)) None) (λ (step : Transition PlainUserCall). IsUnbrokenFar step.next) (λ _. tt) (λ _. tt)
releasing_unbroken k r at u Twice cause due few = absurd few

-- ---- turns, by what the exchange has said at its tick to moment t + 1

-- RELEASE of a call that is over, or another, at the exchange
abbrev IsNot : ℕ → Option PlainNetCall → Type 0
IsNot r None = Unit {0}
IsNot r (Some c) = c.reference ≢ r

stray_met : (u : ℕ) (near : Option PlainNetCall) (r : ℕ) (cause : Option (ℕ × ℕ)) → IsNot r near → near_meets u near (release_of r true cause) ≡ record { call = near; said = refusal_of Network r false 81 ∷ [] }
stray_met u None r cause h = refl
stray_met u (Some c) r cause h = near_other u c (release_of r true cause) h

half_stray : (Leaves : Option PlainNetCall → Option PlainUserCall → Type 0) (ends : ℕ → ℕ) (k u : ℕ) (start near : Option PlainNetCall) (r at due : ℕ) (sent : Times) (why : Option ℕ) (cause : Option (ℕ × ℕ)) → IsNot r near → Leaves near None
    → ((q : UserState) → IsReleasing q → IsLoose ends k u near (Some (far_of k r at q))) → IsLoose ends k u near None → IsKeptOn ends u start near → Half Leaves ends k u start near (Some (far_of k r at (user.ReleaseRequest sent why due))) (release_of r true cause ∷ [])
half_stray Leaves ends k u start near r at due sent why cause other l loose after kept =
    let x : PlainUserCall = far_of k r at (user.ReleaseRequest sent why due) in
    let before : IsLoose ends k u near (Some x) = loose (user.ReleaseRequest sent why due) tt in
    half_last Leaves ends k u start near near (Some x) None (release_of r true cause) (refusal_of Network r false 81) (stray_met u near r cause other) (far_named u k x (refusal_of Network r false 81) refl) l before before after kept kept

module _ (Leaves : Option PlainNetCall → Option PlainUserCall → Type 0) (ends : ℕ → ℕ) (k t : ℕ) where
  -- the far end has no call
  turn_alone : (c : PlainNetCall) (near : Option PlainNetCall) (m a : Outgoing) → far_meets t k None m ≡ record { call = None; said = a ∷ [] } → near_meets (t + 1) (Some c) a ≡ left_as near → Leaves near None → IsLoose ends k (t + 1) (Some c) None → IsLoose ends k (t + 1) near None → IsKeptOn ends (t + 1) (Some c) near
      → Turn Leaves ends k t None (record { call = Some c; said = m ∷ [] })
  turn_alone c near m a eq met l loose after kept =
      turn_says Leaves ends k t None (Some c) m (left_as None) (record { call = None; said = a ∷ [] }) (left_as None) tt refl (half_none Any ends k (t + 1) (Some c) (Some c) None tt loose (λ _. refl))
      eq tt refl (half_then Leaves ends k (t + 1) (Some c) (Some c) near None a [] met (half_none Any ends k (t + 1) (Some c) (Some c) None tt loose (λ _. refl)) (half_none Leaves ends k (t + 1) (Some c) near None l after kept))

  -- or releases another
  turn_behind : (c : PlainNetCall) (near : Option PlainNetCall) (r at due : ℕ) (cause : Option ℕ) (m a : Outgoing) → due ≤ t + 1 → IsNot r (Some c) → IsNot r near
      → far_meets t k (Some (far_of k r at (user.ReleaseRequest NotYet cause due))) m ≡ record { call = Some (far_of k r at (user.ReleaseRequest NotYet cause due)); said = a ∷ [] } → near_meets (t + 1) (Some c) a ≡ left_as near → Leaves near None
      → ((q : UserState) → IsReleasing q → IsLoose ends k (t + 1) (Some c) (Some (far_of k r at q))) → IsLoose ends k (t + 1) (Some c) None → ((q : UserState) → IsReleasing q → IsLoose ends k (t + 1) near (Some (far_of k r at q))) → IsLoose ends k (t + 1) near None → IsKeptOn ends (t + 1) (Some c) near
      → Turn Leaves ends k t (Some (far_of k r at (user.ReleaseRequest NotYet cause due))) (record { call = Some c; said = m ∷ [] })
  turn_behind c near r at due cause m a late other other' eq met l loose alone loose' alone' kept =
      let x : PlainUserCall = far_of k r at (user.ReleaseRequest NotYet cause due) in
      let y : PlainUserCall = far_of k r at (user.ReleaseRequest Once cause (t + 1 + 4)) in
      let release : Outgoing = release_of r true (cause_at saying.user cause) in
      let passed : Left PlainUserCall = record { call = Some y; said = release ∷ [] } in
      let passes : far_passes (t + 1) (Some x) ≡ passed = releases_due k r at due (t + 1) cause late in
      let lost : Half Any ends k (t + 1) (Some c) (Some c) (Some y) (release ∷ []) = half_stray Any ends k (t + 1) (Some c) (Some c) r at (t + 1 + 4) Once cause (cause_at saying.user cause) other tt loose alone (λ _. refl) in
      turn_says Leaves ends k t (Some x) (Some c) m passed (record { call = Some x; said = a ∷ [] }) passed (releasing_unbroken k r at (t + 1) NotYet cause due tt) passes lost
      eq (releasing_unbroken k r at (t + 1) NotYet cause due tt) passes
      (half_then Leaves ends k (t + 1) (Some c) (Some c) near (Some y) a (release ∷ []) met lost (half_stray Leaves ends k (t + 1) (Some c) near r at (t + 1 + 4) Once cause (cause_at saying.user cause) other' l loose' alone' kept))

  -- the far end has it up, and says so
  turn_same : (c : PlainNetCall) (near : PlainNetCall) (x y : PlainUserCall) (m a reply : Outgoing) → IsUnbrokenThere (t + 1) (Some x) → far_passes (t + 1) (Some x) ≡ left_as (Some x) → far_meets t k (Some x) m ≡ record { call = Some x; said = a ∷ [] }
      → near_meets (t + 1) (Some c) a ≡ record { call = Some near; said = reply ∷ [] } → far_meets (t + 1) k (Some x) reply ≡ left_as (Some y) → Leaves (Some near) (Some y) → IsLoose ends k (t + 1) (Some c) (Some x) → IsLoose ends k (t + 1) (Some near) (Some x) → IsLoose ends k (t + 1) (Some near) (Some y) → near.reference ≡ c.reference
      → Turn Leaves ends k t (Some x) (record { call = Some c; said = m ∷ [] })
  turn_same c near x y m a reply sound passes eq met back l loose half both same =
      turn_says Leaves ends k t (Some x) (Some c) m (left_as (Some x)) (record { call = Some x; said = a ∷ [] }) (left_as (Some x)) sound passes (half_none Any ends k (t + 1) (Some c) (Some c) (Some x) tt loose (λ _. refl))
      eq sound passes (half_last Leaves ends k (t + 1) (Some c) (Some c) (Some near) (Some x) (Some y) a reply met back l loose half both (λ _. refl) (λ _. same))

  -- and the exchange knows
  turn_known : (c : PlainNetCall) (near : PlainNetCall) (x : PlainUserCall) (m a : Outgoing) → IsUnbrokenThere (t + 1) (Some x) → far_passes (t + 1) (Some x) ≡ left_as (Some x) → far_meets t k (Some x) m ≡ record { call = Some x; said = a ∷ [] }
      → near_meets (t + 1) (Some c) a ≡ left_as (Some near) → Leaves (Some near) (Some x) → IsLoose ends k (t + 1) (Some c) (Some x) → IsLoose ends k (t + 1) (Some near) (Some x) → near.reference ≡ c.reference
      → Turn Leaves ends k t (Some x) (record { call = Some c; said = m ∷ [] })
  turn_known c near x m a sound passes eq met l loose after same =
      turn_says Leaves ends k t (Some x) (Some c) m (left_as (Some x)) (record { call = Some x; said = a ∷ [] }) (left_as (Some x)) sound passes (half_none Any ends k (t + 1) (Some c) (Some c) (Some x) tt loose (λ _. refl))
      eq sound passes (half_then Leaves ends k (t + 1) (Some c) (Some c) (Some near) (Some x) a [] met (half_none Any ends k (t + 1) (Some c) (Some c) (Some x) tt loose (λ _. refl)) (half_none Leaves ends k (t + 1) (Some c) (Some near) (Some x) l after (λ _. same)))

-- ---- each pair of calls after the tick

abbrev enquiry_of : ℕ → Outgoing
enquiry_of r = plain r false StatusEnquiry

abbrev over_of : ℕ → Option (ℕ × ℕ) → Outgoing
over_of r cause = record (plain r true ReleaseComplete) { cause = cause }

over_met : (k u r : ℕ) (number : List ℕ) (s : NetState) (cause : Option (ℕ × ℕ)) → IsClearingState s → near_meets u (Some (near_of k r number s)) (over_of r cause) ≡ left_as None
over_met k u r number (net.DisconnectIndication why due) cause h = near_named u (near_of k r number (net.DisconnectIndication why due)) (over_of r cause) refl
over_met k u r number (net.ReleaseRequest sent why due) cause h = near_named u (near_of k r number (net.ReleaseRequest sent why due)) (over_of r cause) refl
over_met k u r number s cause h = absurd h

abbrev IsFresh : Offer → Type 0
IsFresh First = Unit {0}
IsFresh Anew = Unit {0}
IsFresh _ = ⊥

abbrev connect_of : ℕ → ℕ → Outgoing
connect_of k r = with_channel k (plain r true Connect)

abbrev acknowledge_of : ℕ → Outgoing
acknowledge_of r = plain r false ConnectAcknowledge

connect_met : (k u r : ℕ) (number : List ℕ) (offer : Offer) (due : ℕ) → IsFresh offer → near_meets u (Some (near_of k r number (net.CallPresent offer due))) (connect_of k r) ≡ record { call = Some (near_of k r number net.Active); said = acknowledge_of r ∷ [] }
connect_met k u r number First due h =
    let c : PlainNetCall = near_of k r number (net.CallPresent First due) in
    near_named u c (connect_of k r) refl ∙ ap (λ b. near_stepped (if b then net_to c (Some (acknowledge_of r)) net.Active else net_releases c Once (Some 6) u)) (eq-eqb k k refl)
connect_met k u r number Anew due h =
    let c : PlainNetCall = near_of k r number (net.CallPresent Anew due) in
    near_named u c (connect_of k r) refl ∙ ap (λ b. near_stepped (if b then net_to c (Some (acknowledge_of r)) net.Active else net_releases c Once (Some 6) u)) (eq-eqb k k refl)
connect_met k u r number offer due h = absurd h

module _ (ends : ℕ → ℕ) (k b t : ℕ) where
  apart_of : (r r' : ℕ) → t + 1 < ends r → ends r' ≤ t → r ≢ r'
  apart_of r r' late early e = omega (arith, late, subst (λ j. ends j ≤ t) (sym e) early)

  settled_talks : (r at since : ℕ) (number : List ℕ) → t + 1 < ends r → IsSettling ends k b (t + 1) (Some (near_of k r number net.Active)) (Some (far_of k r at (user.Active since)))
  settled_talks r at since number late = Talking (near_of k r number net.Active) (far_of k r at (user.Active since)) refl refl (here_is k r number net.Active) (there_is k r at (user.Active since)) refl tt tt late

  settled_waits : (r : ℕ) (number : List ℕ) → t ≡ b → t + 1 < ends r → IsSettling ends k b (t + 1) (Some (near_of k r number (net.CallPresent PutOff (t + 1 + 1)))) None
  settled_waits r number now late = Waiting (near_of k r number (net.CallPresent PutOff (t + 1 + 1))) refl refl (here_is k r number (net.CallPresent PutOff (t + 1 + 1))) refl (omega (arith, now)) late

  settled_clears : (r due : ℕ) (cause : Option ℕ) (number : List ℕ) → due ≡ b + 5 → t + 1 < b + 5 → ends r ≤ t + 1 → IsSettling ends k b (t + 1) (Some (near_of k r number (net.ReleaseRequest Once cause due))) None
  settled_clears r due cause number is soon early = Clearing (near_of k r number (net.ReleaseRequest Once cause due)) refl refl (here_is k r number (net.ReleaseRequest Once cause due)) is soon early

  -- nothing is said, and nobody has a call
  turn_nothing : Turn (IsSettling ends k b (t + 1)) ends k t None (left_as None)
  turn_nothing = turn_quiet (IsSettling ends k b (t + 1)) ends k t None None (left_as None) tt refl (half_none (IsSettling ends k b (t + 1)) ends k (t + 1) None None None (Idle refl refl) (Nothing refl refl) tt)

  -- the far end releases a call that is over here
  turn_left : (r at due : ℕ) (cause : Option ℕ) → due ≤ t + 1 → ends r ≤ t → Turn (IsSettling ends k b (t + 1)) ends k t (Some (far_of k r at (user.ReleaseRequest NotYet cause due))) (left_as None)
  turn_left r at due cause late early =
      let x : PlainUserCall = far_of k r at (user.ReleaseRequest NotYet cause due) in
      let y : PlainUserCall = far_of k r at (user.ReleaseRequest Once cause (t + 1 + 4)) in
      turn_quiet (IsSettling ends k b (t + 1)) ends k t (Some x) None (record { call = Some y; said = release_of r true (cause_at saying.user cause) ∷ [] }) (releasing_unbroken k r at (t + 1) NotYet cause due tt) (releases_due k r at due (t + 1) cause late)
      (half_stray (IsSettling ends k b (t + 1)) ends k (t + 1) None None r at (t + 1 + 4) Once cause (cause_at saying.user cause) tt (Idle refl refl) (λ q h. loose_left ends k (t + 1) r at q h (omega (arith, early))) (loose_none ends k (t + 1)) tt)

  -- both are up
  turn_stays : (r at since : ℕ) (number : List ℕ) → t + 1 < ends r → Turn (IsSettling ends k b (t + 1)) ends k t (Some (far_of k r at (user.Active since))) (left_as (Some (near_of k r number net.Active)))
  turn_stays r at since number late =
      let c : PlainNetCall = near_of k r number net.Active in
      let x : PlainUserCall = far_of k r at (user.Active since) in
      turn_quiet (IsSettling ends k b (t + 1)) ends k t (Some x) (Some c) (left_as (Some x)) tt refl
      (half_none (IsSettling ends k b (t + 1)) ends k (t + 1) (Some c) (Some c) (Some x) (settled_talks r at since number late) (loose_talks ends k (t + 1) r at number net.Active (user.Active since) tt tt late) (λ _. refl))

  -- T308 runs, and the far end has no call
  turn_waits : (r due : ℕ) (cause : Option ℕ) (number : List ℕ) → due ≡ b + 5 → t + 1 < b + 5 → ends r ≤ t + 1 → Turn (IsSettling ends k b (t + 1)) ends k t None (left_as (Some (near_of k r number (net.ReleaseRequest Once cause due))))
  turn_waits r due cause number is soon early =
      let c : PlainNetCall = near_of k r number (net.ReleaseRequest Once cause due) in
      turn_quiet (IsSettling ends k b (t + 1)) ends k t None (Some c) (left_as None) tt refl
      (half_none (IsSettling ends k b (t + 1)) ends k (t + 1) (Some c) (Some c) None (settled_clears r due cause number is soon early) (loose_cleared ends k (t + 1) r number (net.ReleaseRequest Once cause due) tt early) (λ _. refl))

  -- SETUP, which the far end takes
  turn_offer : (r due : ℕ) (number : List ℕ) (offer : Offer) → IsFresh offer → t + 1 < ends r → Turn (IsSettling ends k b (t + 1)) ends k t None (record { call = Some (near_of k r number (net.CallPresent offer due)); said = setup_of r k number ∷ [] })
  turn_offer r due number offer fresh late =
      let c : PlainNetCall = near_of k r number (net.CallPresent offer due) in
      let x : PlainUserCall = far_of k r t user.CallPresent in
      let y : PlainUserCall = far_of k r t (user.ConnectRequest (t + 1 + 4)) in
      turn_says (IsSettling ends k b (t + 1)) ends k t None (Some c) (setup_of r k number) (left_as None) (left_as (Some x)) (record { call = Some y; said = connect_of k r ∷ [] }) tt refl
      (half_none Any ends k (t + 1) (Some c) (Some c) None tt (loose_offered ends k (t + 1) r number (net.CallPresent offer due) tt late) (λ _. refl))
      refl tt refl
      (half_last (IsSettling ends k b (t + 1)) ends k (t + 1) (Some c) (Some c) (Some (near_of k r number net.Active)) (Some y) (Some (far_of k r t (user.Active (t + 1)))) (connect_of k r) (acknowledge_of r) (connect_met k (t + 1) r number offer due fresh) (far_named (t + 1) k y (acknowledge_of r) refl)
      (settled_talks r t (t + 1) number late) (loose_connected ends k (t + 1) r t number (net.CallPresent offer due) (user.ConnectRequest (t + 1 + 4)) tt tt late) (loose_talks ends k (t + 1) r t number net.Active (user.ConnectRequest (t + 1 + 4)) tt tt late)
      (loose_talks ends k (t + 1) r t number net.Active (user.Active (t + 1)) tt tt late) (λ _. refl) (λ _. refl))

  -- SETUP, while it releases another
  turn_anew_behind : (r r' at due due' : ℕ) (cause : Option ℕ) (number : List ℕ) → t ≡ b → due' ≤ t + 1 → t + 1 < ends r → ends r' ≤ t → Turn (IsSettling ends k b (t + 1)) ends k t (Some (far_of k r' at (user.ReleaseRequest NotYet cause due'))) (record { call = Some (near_of k r number (net.CallPresent Anew due)); said = setup_of r k number ∷ [] })
  turn_anew_behind r r' at due due' cause number now far_due late early =
      let c : PlainNetCall = near_of k r number (net.CallPresent Anew due) in
      let x : PlainUserCall = far_of k r' at (user.ReleaseRequest NotYet cause due') in
      turn_behind (IsSettling ends k b (t + 1)) ends k t c (Some (near_of k r number (net.CallPresent PutOff (t + 1 + 1)))) r' at due' cause (setup_of r k number) (refusal_of User r true 44) far_due
      (apart_of r r' late early) (apart_of r r' late early) (far_other t k x (setup_of r k number) (λ e. apart_of r r' late early (sym e))) (near_named (t + 1) c (refusal_of User r true 44) refl) (settled_waits r number now late)
      (λ q h. loose_behind ends k (t + 1) r r' at number (net.CallPresent Anew due) q tt h late (omega (arith, early))) (loose_offered ends k (t + 1) r number (net.CallPresent Anew due) tt late)
      (λ q h. loose_behind ends k (t + 1) r r' at number (net.CallPresent PutOff (t + 1 + 1)) q tt h late (omega (arith, early))) (loose_offered ends k (t + 1) r number (net.CallPresent PutOff (t + 1 + 1)) tt late) (λ _. refl)

  -- STATUS ENQUIRY of a call that was offered
  turn_asked_alone : (r due : ℕ) (number : List ℕ) → t ≡ b → t + 1 < ends r → Turn (IsSettling ends k b (t + 1)) ends k t None (record { call = Some (near_of k r number (net.CallPresent Asked due)); said = enquiry_of r ∷ [] })
  turn_asked_alone r due number now late =
      let c : PlainNetCall = near_of k r number (net.CallPresent Asked due) in
      let a : Outgoing = status_of r true saying.user 30 call.Null in
      turn_alone (IsSettling ends k b (t + 1)) ends k t c (Some (near_of k r number (net.CallPresent PutOff (t + 1 + 1)))) (enquiry_of r) a refl (near_named (t + 1) c a refl) (settled_waits r number now late)
      (loose_offered ends k (t + 1) r number (net.CallPresent Asked due) tt late) (loose_offered ends k (t + 1) r number (net.CallPresent PutOff (t + 1 + 1)) tt late) (λ _. refl)

  turn_asked_behind : (r r' at due due' : ℕ) (cause : Option ℕ) (number : List ℕ) → t ≡ b → due' ≤ t + 1 → t + 1 < ends r → ends r' ≤ t → Turn (IsSettling ends k b (t + 1)) ends k t (Some (far_of k r' at (user.ReleaseRequest NotYet cause due'))) (record { call = Some (near_of k r number (net.CallPresent Asked due)); said = enquiry_of r ∷ [] })
  turn_asked_behind r r' at due due' cause number now far_due late early =
      let c : PlainNetCall = near_of k r number (net.CallPresent Asked due) in
      let x : PlainUserCall = far_of k r' at (user.ReleaseRequest NotYet cause due') in
      let a : Outgoing = status_of r true saying.user 30 call.Null in
      turn_behind (IsSettling ends k b (t + 1)) ends k t c (Some (near_of k r number (net.CallPresent PutOff (t + 1 + 1)))) r' at due' cause (enquiry_of r) a far_due
      (apart_of r r' late early) (apart_of r r' late early) (far_other t k x (enquiry_of r) (λ e. apart_of r r' late early (sym e))) (near_named (t + 1) c a refl) (settled_waits r number now late)
      (λ q h. loose_behind ends k (t + 1) r r' at number (net.CallPresent Asked due) q tt h late (omega (arith, early))) (loose_offered ends k (t + 1) r number (net.CallPresent Asked due) tt late)
      (λ q h. loose_behind ends k (t + 1) r r' at number (net.CallPresent PutOff (t + 1 + 1)) q tt h late (omega (arith, early))) (loose_offered ends k (t + 1) r number (net.CallPresent PutOff (t + 1 + 1)) tt late) (λ _. refl)

  -- which the far end has connected
  turn_asked_connected : (r at due due' : ℕ) (number : List ℕ) → due' ≡ t + 4 → t + 1 < ends r → Turn (IsSettling ends k b (t + 1)) ends k t (Some (far_of k r at (user.ConnectRequest due'))) (record { call = Some (near_of k r number (net.CallPresent Asked due)); said = enquiry_of r ∷ [] })
  turn_asked_connected r at due due' number far_due late =
      let c : PlainNetCall = near_of k r number (net.CallPresent Asked due) in
      let x : PlainUserCall = far_of k r at (user.ConnectRequest due') in
      let a : Outgoing = status_of r true saying.user 30 call.ConnectRequest in
      turn_same (IsSettling ends k b (t + 1)) ends k t c (near_of k r number net.Active) x (far_of k r at (user.Active (t + 1))) (enquiry_of r) a (acknowledge_of r) (up_unbroken k r at (t + 1) (user.ConnectRequest due') tt) (up_passes k r at t (user.ConnectRequest due') tt far_due)
      (far_named t k x (enquiry_of r) refl) (near_named (t + 1) c a refl) (far_named (t + 1) k x (acknowledge_of r) refl) (settled_talks r at (t + 1) number late)
      (loose_connected ends k (t + 1) r at number (net.CallPresent Asked due) (user.ConnectRequest due') tt tt late) (loose_talks ends k (t + 1) r at number net.Active (user.ConnectRequest due') tt tt late)
      (loose_talks ends k (t + 1) r at number net.Active (user.Active (t + 1)) tt tt late) refl

  -- of a call that is up
  turn_enquired : (r at due : ℕ) (number : List ℕ) (q : UserState) → IsUpThere q → LostFar t q → t + 1 < ends r → Turn (IsSettling ends k b (t + 1)) ends k t (Some (far_of k r at q)) (record { call = Some (near_of k r number (net.Enquiring Once due)); said = enquiry_of r ∷ [] })
  turn_enquired r at due number (user.ConnectRequest due') h far_due late =
      let c : PlainNetCall = near_of k r number (net.Enquiring Once due) in
      let x : PlainUserCall = far_of k r at (user.ConnectRequest due') in
      let a : Outgoing = status_of r true saying.user 30 call.ConnectRequest in
      turn_same (IsSettling ends k b (t + 1)) ends k t c (near_of k r number net.Active) x (far_of k r at (user.Active (t + 1))) (enquiry_of r) a (acknowledge_of r) (up_unbroken k r at (t + 1) (user.ConnectRequest due') tt) (up_passes k r at t (user.ConnectRequest due') tt far_due)
      (far_named t k x (enquiry_of r) refl) (near_named (t + 1) c a refl) (far_named (t + 1) k x (acknowledge_of r) refl) (settled_talks r at (t + 1) number late)
      (loose_talks ends k (t + 1) r at number (net.Enquiring Once due) (user.ConnectRequest due') tt tt late) (loose_talks ends k (t + 1) r at number net.Active (user.ConnectRequest due') tt tt late)
      (loose_talks ends k (t + 1) r at number net.Active (user.Active (t + 1)) tt tt late) refl
  turn_enquired r at due number (user.Active since) h far_due late =
      let c : PlainNetCall = near_of k r number (net.Enquiring Once due) in
      let x : PlainUserCall = far_of k r at (user.Active since) in
      let a : Outgoing = status_of r true saying.user 30 call.Active in
      turn_known (IsSettling ends k b (t + 1)) ends k t c (near_of k r number net.Active) x (enquiry_of r) a tt refl (far_named t k x (enquiry_of r) refl) (near_named (t + 1) c a refl) (settled_talks r at since number late)
      (loose_talks ends k (t + 1) r at number (net.Enquiring Once due) (user.Active since) tt tt late) (loose_talks ends k (t + 1) r at number net.Active (user.Active since) tt tt late) refl
  turn_enquired r at due number q h far_due late = absurd h

  -- DISCONNECT or RELEASE of a call that the far end knows nothing of
  kept_none : (r : ℕ) (number : List ℕ) (s : NetState) → ends r ≤ t + 1 → IsKeptOn ends (t + 1) (Some (near_of k r number s)) None
  kept_none r number s early = λ late. omega (arith, early, late)

  turn_clears_alone : (r : ℕ) (number : List ℕ) (s : NetState) (m : Outgoing) → IsClearingState s → ends r ≤ t + 1 → far_meets t k None m ≡ record { call = None; said = refusal_of User r true 81 ∷ [] } → Turn (IsSettling ends k b (t + 1)) ends k t None (record { call = Some (near_of k r number s); said = m ∷ [] })
  turn_clears_alone r number s m h early eq =
      turn_alone (IsSettling ends k b (t + 1)) ends k t (near_of k r number s) None m (refusal_of User r true 81) eq (over_met k (t + 1) r number s (Some (0, 81)) h) (Idle refl refl) (loose_cleared ends k (t + 1) r number s h early) (loose_none ends k (t + 1)) (kept_none r number s early)

  -- or of one that it releases another for
  turn_clears_behind : (r r' at due : ℕ) (cause : Option ℕ) (number : List ℕ) (s : NetState) (m : Outgoing) → r ≢ r' → due ≤ t + 1 → IsClearingState s → ends r ≤ t + 1 → ends r' ≤ t
      → far_meets t k (Some (far_of k r' at (user.ReleaseRequest NotYet cause due))) m ≡ record { call = Some (far_of k r' at (user.ReleaseRequest NotYet cause due)); said = refusal_of User r true 81 ∷ [] }
      → Turn (IsSettling ends k b (t + 1)) ends k t (Some (far_of k r' at (user.ReleaseRequest NotYet cause due))) (record { call = Some (near_of k r number s); said = m ∷ [] })
  turn_clears_behind r r' at due cause number s m other far_due h early early' eq =
      turn_behind (IsSettling ends k b (t + 1)) ends k t (near_of k r number s) None r' at due cause m (refusal_of User r true 81) far_due other tt eq (over_met k (t + 1) r number s (Some (0, 81)) h) (Idle refl refl)
      (λ q g. loose_both ends k (t + 1) r r' at number s q h g early (omega (arith, early'))) (loose_cleared ends k (t + 1) r number s h early)
      (λ q g. loose_left ends k (t + 1) r' at q g (omega (arith, early'))) (loose_none ends k (t + 1)) (kept_none r number s early)

  -- DISCONNECT of a call that the far end has up
  turn_stops_up : (r at due why : ℕ) (number : List ℕ) (q : UserState) → IsUpThere q → LostFar t q → ends r ≤ t + 1 → Turn (IsSettling ends k b (t + 1)) ends k t (Some (far_of k r at q)) (record { call = Some (near_of k r number (net.DisconnectIndication why due)); said = stopped_of r ∷ [] })
  turn_stops_up r at due why number q h far_due early =
      let c : PlainNetCall = near_of k r number (net.DisconnectIndication why due) in
      let y : PlainUserCall = far_of k r at (user.ReleaseRequest Once None (t + 4)) in
      let release : Outgoing = release_of r true None in
      let over : Outgoing = plain r false ReleaseComplete in
      turn_says (IsSettling ends k b (t + 1)) ends k t (Some (far_of k r at q)) (Some c) (stopped_of r) (left_as (Some (far_of k r at q))) (record { call = Some y; said = release ∷ [] }) (left_as (Some y)) (up_unbroken k r at (t + 1) q h) (up_passes k r at t q h far_due)
      (half_none Any ends k (t + 1) (Some c) (Some c) (Some (far_of k r at q)) tt (loose_alone ends k (t + 1) r at number (net.DisconnectIndication why due) q tt h early) (λ _. refl))
      (stops q h) (releasing_unbroken k r at (t + 1) Once None (t + 4) tt) (ap far_stepped (releases_later k r at (t + 4) (t + 1) None (omega arith)))
      (half_last (IsSettling ends k b (t + 1)) ends k (t + 1) (Some c) (Some c) None (Some y) None release over (near_named (t + 1) c release refl) (far_named (t + 1) k y over refl) (Idle refl refl)
      (loose_both ends k (t + 1) r r at number (net.DisconnectIndication why due) (user.ReleaseRequest Once None (t + 4)) tt tt early early) (loose_left ends k (t + 1) r at (user.ReleaseRequest Once None (t + 4)) tt early) (loose_none ends k (t + 1)) (λ _. refl) (kept_none r number (net.DisconnectIndication why due) early))
    where
      stops : (p : UserState) → IsUpThere p → far_meets t k (Some (far_of k r at p)) (stopped_of r) ≡ record { call = Some (far_of k r at (user.ReleaseRequest Once None (t + 4))); said = release_of r true None ∷ [] }
      stops (user.ConnectRequest due') g = far_named t k (far_of k r at (user.ConnectRequest due')) (stopped_of r) refl
      stops (user.Active since) g = far_named t k (far_of k r at (user.Active since)) (stopped_of r) refl
      stops p g = absurd g

  -- RELEASE of it
  turn_releases_up : (r at due : ℕ) (cause : Option (ℕ × ℕ)) (why : Option ℕ) (number : List ℕ) (q : UserState) → IsUpThere q → LostFar t q → ends r ≤ t + 1 → Turn (IsSettling ends k b (t + 1)) ends k t (Some (far_of k r at q)) (record { call = Some (near_of k r number (net.ReleaseRequest Once why due)); said = release_of r false cause ∷ [] })
  turn_releases_up r at due cause why number q h far_due early =
      let c : PlainNetCall = near_of k r number (net.ReleaseRequest Once why due) in
      let over : Outgoing = over_of r None in
      let lost : Half Any ends k (t + 1) (Some c) (Some c) (Some (far_of k r at q)) [] = half_none Any ends k (t + 1) (Some c) (Some c) (Some (far_of k r at q)) tt (loose_alone ends k (t + 1) r at number (net.ReleaseRequest Once why due) q tt h early) (λ _. refl) in
      turn_says (IsSettling ends k b (t + 1)) ends k t (Some (far_of k r at q)) (Some c) (release_of r false cause) (left_as (Some (far_of k r at q))) (record { call = None; said = over ∷ [] }) (left_as None) (up_unbroken k r at (t + 1) q h) (up_passes k r at t q h far_due) lost
      (releases q h) tt refl
      (half_then (IsSettling ends k b (t + 1)) ends k (t + 1) (Some c) (Some c) None None over [] (over_met k (t + 1) r number (net.ReleaseRequest Once why due) None tt)
      (half_none Any ends k (t + 1) (Some c) (Some c) None tt (loose_cleared ends k (t + 1) r number (net.ReleaseRequest Once why due) tt early) (λ _. refl))
      (half_none (IsSettling ends k b (t + 1)) ends k (t + 1) (Some c) None None (Idle refl refl) (loose_none ends k (t + 1)) (kept_none r number (net.ReleaseRequest Once why due) early)))
    where
      releases : (p : UserState) → IsUpThere p → far_meets t k (Some (far_of k r at p)) (release_of r false cause) ≡ record { call = None; said = over_of r None ∷ [] }
      releases (user.ConnectRequest due') g = far_named t k (far_of k r at (user.ConnectRequest due')) (release_of r false cause) refl
      releases (user.Active since) g = far_named t k (far_of k r at (user.Active since)) (release_of r false cause) refl
      releases p g = absurd g

  -- of one that it releases, too
  turn_releases_both : (r at due due' : ℕ) (cause : Option (ℕ × ℕ)) (why why' : Option ℕ) (number : List ℕ) → due ≡ b + 5 → t + 1 < b + 5 → due' ≤ t + 1 → ends r ≤ t + 1 → Turn (IsSettling ends k b (t + 1)) ends k t (Some (far_of k r at (user.ReleaseRequest NotYet why' due'))) (record { call = Some (near_of k r number (net.ReleaseRequest Once why due)); said = release_of r false cause ∷ [] })
  turn_releases_both r at due due' cause why why' number is soon far_due early =
      let c : PlainNetCall = near_of k r number (net.ReleaseRequest Once why due) in
      let x : PlainUserCall = far_of k r at (user.ReleaseRequest NotYet why' due') in
      let y : PlainUserCall = far_of k r at (user.ReleaseRequest Once why' (t + 1 + 4)) in
      let release : Outgoing = release_of r true (cause_at saying.user why') in
      let lost : Half Any ends k (t + 1) (Some c) (Some c) (Some y) (release ∷ []) = half_then Any ends k (t + 1) (Some c) (Some c) None (Some y) release [] (near_named (t + 1) c release refl)
      (half_none Any ends k (t + 1) (Some c) (Some c) (Some y) tt (loose_both ends k (t + 1) r r at number (net.ReleaseRequest Once why due) (user.ReleaseRequest Once why' (t + 1 + 4)) tt tt early early) (λ _. refl))
      (half_none Any ends k (t + 1) (Some c) None (Some y) tt (loose_left ends k (t + 1) r at (user.ReleaseRequest Once why' (t + 1 + 4)) tt early) (kept_none r number (net.ReleaseRequest Once why due) early)) in
      turn_says (IsSettling ends k b (t + 1)) ends k t (Some x) (Some c) (release_of r false cause) (record { call = Some y; said = release ∷ [] }) (left_as None) (left_as None) (releasing_unbroken k r at (t + 1) NotYet why' due' tt) (releases_due k r at due' (t + 1) why' far_due) lost
      (far_named t k x (release_of r false cause) refl) tt refl
      (half_none (IsSettling ends k b (t + 1)) ends k (t + 1) (Some c) (Some c) None (settled_clears r due why number is soon early) (loose_cleared ends k (t + 1) r number (net.ReleaseRequest Once why due) tt early) (λ _. refl))

-- ---- whole turns

pair_at : (Goes : Option PlainNetCall → Option PlainUserCall → Type 0) (near n : Option PlainNetCall) (far f : Option PlainUserCall) → near ≡ n → far ≡ f → Goes n f → Goes near far
pair_at Goes near n far f p q h = subst (λ x. Goes x far) (sym p) (subst (Goes n) (sym q) h)

near_is : (k : ℕ) (near : Option PlainNetCall) (c : PlainNetCall) → near ≡ Some c → (here : IsNearCall k c) → near ≡ Some (near_of k c.reference (near_written k c here).0 c.state)
near_is k near c n here = n ∙ ap (λ y. Some y) (near_written k c here).1

far_is : (k : ℕ) (far : Option PlainUserCall) (x : PlainUserCall) → far ≡ Some x → (there : IsFarCall k x) → far ≡ Some (far_of k x.reference (far_written k x there).0 x.state)
far_is k far x f there = f ∙ ap (λ y. Some y) (far_written k x there).1

-- of one call
far_same : (k r : ℕ) (far : Option PlainUserCall) (x : PlainUserCall) → far ≡ Some x → (there : IsFarCall k x) → x.reference ≡ r → far ≡ Some (far_of k r (far_written k x there).0 x.state)
far_same k r far x f there same = far_is k far x f there ∙ ap (λ j. Some (far_of k j (far_written k x there).0 x.state)) same

abbrev Goes : (ℕ → ℕ) → Bool → ℕ → ℕ → ℕ → Option PlainNetCall → Option PlainUserCall → Type 0
Goes ends back k b t near far = (called : Left PlainNetCall) → NearTicks ends back k (t + 1) near called → Turn (IsSettling ends k b (t + 1)) ends k t far called

module _ (ends : ℕ → ℕ) (k b t : ℕ) where
  begins : (back : Bool) (called : Left PlainNetCall) → NearTicks ends back k (t + 1) None called → Turn (IsSettling ends k b (t + 1)) ends k t None called
  begins back called (inl e) = subst (Turn (IsSettling ends k b (t + 1)) ends k t None) (sym e) (turn_nothing ends k b t)
  begins true called (inr p) = subst (Turn (IsSettling ends k b (t + 1)) ends k t None) (sym p.3) (turn_offer ends k b t p.0 (t + 1 + 4) p.1 Anew tt p.2)
  begins false called (inr p) = subst (Turn (IsSettling ends k b (t + 1)) ends k t None) (sym p.3) (turn_offer ends k b t p.0 (t + 1 + 4) p.1 First tt p.2)

  abbrev IsTickOf : ℕ → List ℕ → NetState → Left PlainNetCall → Type 0
  IsTickOf r number s called = called ≡ near_stepped (net_second (near_of k r number s) (t + 1) (ends r))

  ticks_ended : (r : ℕ) (number : List ℕ) (s : NetState) (called : Left PlainNetCall) → net_is_clearing s ≡ false → ends r ≤ t + 1 → IsTickOf r number s called → called ≡ record { call = Some (near_of k r number (net.DisconnectIndication 16 (t + 1 + 30))); said = stopped_of r ∷ [] }
  ticks_ended r number s called going ended e = e ∙ ap near_stepped (tick_ends (near_of k r number s) (t + 1) (ends r) going ended)

  -- N6, which is due
  ticks_offer : (r due : ℕ) (number : List ℕ) (offer : Offer) (called : Left PlainNetCall) → due ≤ t + 1 → t + 1 < ends r → IsTickOf r number (net.CallPresent offer due) called → called ≡ near_stepped (net_offer_due (near_of k r number (net.CallPresent offer due)) (t + 1) offer)
  ticks_offer r due number offer called is_due late e =
      let c : PlainNetCall = near_of k r number (net.CallPresent offer due) in
      e ∙ ap near_stepped (tick_goes c (t + 1) (ends r) refl late ∙ ap (λ a. if a then net_offer_due c (t + 1) offer else net_same c None) (le-leb due (t + 1) is_due))

  -- N19, which is due
  ticks_release : (r due : ℕ) (number : List ℕ) (sent : Times) (cause : Option ℕ) (called : Left PlainNetCall) → due ≤ t + 1 → IsTickOf r number (net.ReleaseRequest sent cause due) called → called ≡ near_stepped (net_release_due (near_of k r number (net.ReleaseRequest sent cause due)) (t + 1) sent cause)
  ticks_release r due number sent cause called is_due e =
      let c : PlainNetCall = near_of k r number (net.ReleaseRequest sent cause due) in
      e ∙ ap near_stepped (tick_clears c (t + 1) (ends r) refl ∙ ap (λ a. if a then net_release_due c (t + 1) sent cause else net_same c None) (le-leb due (t + 1) is_due))

  -- ---- settled ones

  talking_goes : (r at : ℕ) (number : List ℕ) (s : NetState) (q : UserState) → IsActiveHere s → IsActiveThere q → (called : Left PlainNetCall) → IsTickOf r number s called → Turn (IsSettling ends k b (t + 1)) ends k t (Some (far_of k r at q)) called
  talking_goes r at number net.Active (user.Active since) h g called e = decide (nat_le (ends r) (t + 1))
      (λ ended.
      let early : ends r ≤ t + 1 = leb-true (ends r) (t + 1) ended in
      subst (Turn (IsSettling ends k b (t + 1)) ends k t (Some (far_of k r at (user.Active since)))) (sym (ticks_ended r number net.Active called refl early e)) (turn_stops_up ends k b t r at (t + 1 + 30) 16 number (user.Active since) tt tt early))
      (λ goes.
      let late : t + 1 < ends r = leb-false (ends r) (t + 1) goes in
      subst (Turn (IsSettling ends k b (t + 1)) ends k t (Some (far_of k r at (user.Active since)))) (sym (e ∙ ap near_stepped (tick_goes (near_of k r number net.Active) (t + 1) (ends r) refl late))) (turn_stays ends k b t r at since number late))
  talking_goes r at number net.Active q h g called e = absurd g
  talking_goes r at number s q h g called e = absurd h

  waiting_goes : (r : ℕ) (number : List ℕ) (s : NetState) → IsPutOff t s → (called : Left PlainNetCall) → IsTickOf r number s called → Turn (IsSettling ends k b (t + 1)) ends k t None called
  waiting_goes r number (net.CallPresent PutOff due) h called e = decide (nat_le (ends r) (t + 1))
      (λ ended.
      let early : ends r ≤ t + 1 = leb-true (ends r) (t + 1) ended in
      subst (Turn (IsSettling ends k b (t + 1)) ends k t None) (sym (ticks_ended r number (net.CallPresent PutOff due) called refl early e)) (turn_clears_alone ends k b t r number (net.DisconnectIndication 16 (t + 1 + 30)) (stopped_of r) tt early refl))
      (λ goes.
      let late : t + 1 < ends r = leb-false (ends r) (t + 1) goes in
      subst (Turn (IsSettling ends k b (t + 1)) ends k t None) (sym (ticks_offer r due number PutOff called (omega (arith, h)) late e)) (turn_offer ends k b t r (t + 1 + 4) number First tt late))
  waiting_goes r number s h called e = absurd h

  clearing_goes : (r : ℕ) (number : List ℕ) (s : NetState) → IsReleased b s → ends r ≤ t → (called : Left PlainNetCall) → IsTickOf r number s called → Turn (IsSettling ends k b (t + 1)) ends k t None called
  clearing_goes r number (net.ReleaseRequest Once cause due) h early called e = decide (nat_le due (t + 1))
      (λ late.
      let is_due : due ≤ t + 1 = leb-true due (t + 1) late in
      subst (Turn (IsSettling ends k b (t + 1)) ends k t None) (sym (ticks_release r due number Once cause called is_due e ∙ ap (λ o. record { call = Some (near_of k r number (net.ReleaseRequest Twice cause (t + 1 + 4))); said = o ∷ [] }) (release_is network cause r false)))
      (turn_clears_alone ends k b t r number (net.ReleaseRequest Twice cause (t + 1 + 4)) (release_of r false (cause_at network cause)) tt (omega (arith, early)) refl))
      (λ soon.
      let c : PlainNetCall = near_of k r number (net.ReleaseRequest Once cause due) in
      let before : t + 1 < due = leb-false due (t + 1) soon in
      subst (Turn (IsSettling ends k b (t + 1)) ends k t None) (sym (e ∙ ap near_stepped (tick_clears c (t + 1) (ends r) refl ∙ ap (λ a. if a then net_release_due c (t + 1) Once cause else net_same c None) soon)))
      (turn_waits ends k b t r due cause number h (omega (arith, before, h)) (omega (arith, early))))
  clearing_goes r number s h early called e = absurd h

settling_turn : (ends : ℕ → ℕ) (back : Bool) (k b t : ℕ) (near : Option PlainNetCall) (far : Option PlainUserCall) → IsSettling ends k b t near far → (called : Left PlainNetCall) → NearTicks ends back k (t + 1) near called → Turn (IsSettling ends k b (t + 1)) ends k t far called
settling_turn ends back k b t near far (Idle n f) = pair_at (Goes ends back k b t) near None far None n f (begins ends k b t back)
settling_turn ends back k b t near far (Talking c x n f here there same s q late) =
    pair_at (Goes ends back k b t) near _ far _ (near_is k near c n here) (far_same k c.reference far x f there same) (talking_goes ends k b t c.reference (far_written k x there).0 (near_written k c here).0 c.state x.state s q)
settling_turn ends back k b t near far (Waiting c n f here s now late) =
    pair_at (Goes ends back k b t) near _ far None (near_is k near c n here) f (waiting_goes ends k b t c.reference (near_written k c here).0 c.state s)
settling_turn ends back k b t near far (Clearing c n f here s soon early) =
    pair_at (Goes ends back k b t) near _ far None (near_is k near c n here) f (clearing_goes ends k b t c.reference (near_written k c here).0 c.state s early)

pub settling_whole : (ends : ℕ → ℕ) (back : Bool) (k b t : ℕ) (near : Option PlainNetCall) (far : Option PlainUserCall) (called : Left PlainNetCall) → IsSettling ends k b t near far → NearTicks ends back k (t + 1) near called
    → TurnLeaves (IsSettling ends k b (t + 1)) ends k t far called called.said ((asked_in k t far called.said).said ++ (passed_in_turn k t far called.said).said) (left_in t called ((asked_in k t far called.said).said ++ (passed_in_turn k t far called.said).said)).said
settling_whole ends back k b t near far called h ticks = (settling_turn ends back k b t near far h called ticks).whole

pub settling_cut : (ends : ℕ → ℕ) (back : Bool) (k b t : ℕ) (near : Option PlainNetCall) (far : Option PlainUserCall) (called : Left PlainNetCall) (come received replies : List Outgoing) → IsSettling ends k b t near far → NearTicks ends back k (t + 1) near called
    → IsPart come called.said → IsPart received ((asked_in k t far come).said ++ (passed_in_turn k t far come).said) → IsPart replies (left_in t called received).said → TurnLeaves (IsLoose ends k (t + 1)) ends k t far called come received replies
settling_cut ends back k b t near far called come received replies h ticks = (settling_turn ends back k b t near far h called ticks).cut come received replies

-- ---- the first turn after seconds without a link

module _ (ends : ℕ → ℕ) (k t : ℕ) where
  left_over_goes : (r' at : ℕ) (q : UserState) → IsReleasing q → LostFar t q → ends r' ≤ t → (called : Left PlainNetCall) → NearTicks ends true k (t + 1) None called → Turn (IsSettling ends k t (t + 1)) ends k t (Some (far_of k r' at q)) called
  left_over_goes r' at (user.ReleaseRequest NotYet cause due) g is early called (inl e) = subst (Turn (IsSettling ends k t (t + 1)) ends k t (Some (far_of k r' at (user.ReleaseRequest NotYet cause due)))) (sym e) (turn_left ends k t t r' at due cause (omega (arith, is)) early)
  left_over_goes r' at (user.ReleaseRequest NotYet cause due) g is early called (inr p) = subst (Turn (IsSettling ends k t (t + 1)) ends k t (Some (far_of k r' at (user.ReleaseRequest NotYet cause due)))) (sym p.3) (turn_anew_behind ends k t t p.0 r' at (t + 1 + 4) due cause p.1 refl (omega (arith, is)) p.2 early)
  left_over_goes r' at (user.ReleaseRequest Once cause due) g is early called ticks = absurd is
  left_over_goes r' at (user.ReleaseRequest Twice cause due) g is early called ticks = absurd is
  left_over_goes r' at q g is early called ticks = absurd g

  -- N6: the far end is asked
  asked_tick : (r due : ℕ) (number : List ℕ) (called : Left PlainNetCall) → due ≡ t + 1 → t + 1 < ends r → IsTickOf ends k t t r number (net.CallPresent Unlinked due) called → called ≡ record { call = Some (near_of k r number (net.CallPresent Asked (t + 1 + 4))); said = enquiry_of r ∷ [] }
  asked_tick r due number called is late e = ticks_offer ends k t t r due number Unlinked called (omega (arith, is)) late e

  offered_goes : (r : ℕ) (number : List ℕ) (s : NetState) → IsOffering s → LostNear t s → (called : Left PlainNetCall) → IsTickOf ends k t t r number s called → Turn (IsSettling ends k t (t + 1)) ends k t None called
  offered_goes r number (net.CallPresent Unlinked due) h is called e = decide (nat_le (ends r) (t + 1))
      (λ ended.
      let early : ends r ≤ t + 1 = leb-true (ends r) (t + 1) ended in
      subst (Turn (IsSettling ends k t (t + 1)) ends k t None) (sym (ticks_ended ends k t t r number (net.CallPresent Unlinked due) called refl early e)) (turn_clears_alone ends k t t r number (net.DisconnectIndication 16 (t + 1 + 30)) (stopped_of r) tt early refl))
      (λ goes.
      let late : t + 1 < ends r = leb-false (ends r) (t + 1) goes in
      subst (Turn (IsSettling ends k t (t + 1)) ends k t None) (sym (asked_tick r due number called is late e)) (turn_asked_alone ends k t t r (t + 1 + 4) number refl late))
  offered_goes r number (net.CallPresent First due) h is called e = absurd is
  offered_goes r number (net.CallPresent Second due) h is called e = absurd is
  offered_goes r number (net.CallPresent Anew due) h is called e = absurd is
  offered_goes r number (net.CallPresent PutOff due) h is called e = absurd is
  offered_goes r number (net.CallPresent Asked due) h is called e = absurd is
  offered_goes r number s h is called e = absurd h

  behind_goes : (r r' at : ℕ) (number : List ℕ) (s : NetState) (q : UserState) → IsOffering s → LostNear t s → IsReleasing q → LostFar t q → t < ends r → ends r' ≤ t → (called : Left PlainNetCall) → IsTickOf ends k t t r number s called → Turn (IsSettling ends k t (t + 1)) ends k t (Some (far_of k r' at q)) called
  behind_goes r r' at number (net.CallPresent Unlinked due) (user.ReleaseRequest NotYet cause due') h is g is' before early' called e =
      let x : PlainUserCall = far_of k r' at (user.ReleaseRequest NotYet cause due') in
      let other : r ≢ r' = λ p. omega (arith, before, subst (λ j. ends j ≤ t) (sym p) early') in
      decide (nat_le (ends r) (t + 1))
      (λ ended.
      let early : ends r ≤ t + 1 = leb-true (ends r) (t + 1) ended in
      subst (Turn (IsSettling ends k t (t + 1)) ends k t (Some x)) (sym (ticks_ended ends k t t r number (net.CallPresent Unlinked due) called refl early e))
      (turn_clears_behind ends k t t r r' at due' cause number (net.DisconnectIndication 16 (t + 1 + 30)) (stopped_of r) other (omega (arith, is')) tt early early' (far_other t k x (stopped_of r) (λ p. other (sym p)))))
      (λ goes.
      let late : t + 1 < ends r = leb-false (ends r) (t + 1) goes in
      subst (Turn (IsSettling ends k t (t + 1)) ends k t (Some x)) (sym (asked_tick r due number called is late e)) (turn_asked_behind ends k t t r r' at (t + 1 + 4) due' cause number refl (omega (arith, is')) late early'))
  behind_goes r r' at number (net.CallPresent Unlinked due) (user.ReleaseRequest Once cause due') h is g is' before early' called e = absurd is'
  behind_goes r r' at number (net.CallPresent Unlinked due) (user.ReleaseRequest Twice cause due') h is g is' before early' called e = absurd is'
  behind_goes r r' at number (net.CallPresent Unlinked due) q h is g is' before early' called e = absurd g
  behind_goes r r' at number (net.CallPresent First due) q h is g is' before early' called e = absurd is
  behind_goes r r' at number (net.CallPresent Second due) q h is g is' before early' called e = absurd is
  behind_goes r r' at number (net.CallPresent Anew due) q h is g is' before early' called e = absurd is
  behind_goes r r' at number (net.CallPresent PutOff due) q h is g is' before early' called e = absurd is
  behind_goes r r' at number (net.CallPresent Asked due) q h is g is' before early' called e = absurd is
  behind_goes r r' at number s q h is g is' before early' called e = absurd h

  connected_goes : (r at : ℕ) (number : List ℕ) (s : NetState) (q : UserState) → IsOffering s → LostNear t s → IsConnecting q → LostFar t q → (called : Left PlainNetCall) → IsTickOf ends k t t r number s called → Turn (IsSettling ends k t (t + 1)) ends k t (Some (far_of k r at q)) called
  connected_goes r at number (net.CallPresent Unlinked due) (user.ConnectRequest due') h is g is' called e = decide (nat_le (ends r) (t + 1))
      (λ ended.
      let early : ends r ≤ t + 1 = leb-true (ends r) (t + 1) ended in
      subst (Turn (IsSettling ends k t (t + 1)) ends k t (Some (far_of k r at (user.ConnectRequest due')))) (sym (ticks_ended ends k t t r number (net.CallPresent Unlinked due) called refl early e)) (turn_stops_up ends k t t r at (t + 1 + 30) 16 number (user.ConnectRequest due') tt is' early))
      (λ goes.
      let late : t + 1 < ends r = leb-false (ends r) (t + 1) goes in
      subst (Turn (IsSettling ends k t (t + 1)) ends k t (Some (far_of k r at (user.ConnectRequest due')))) (sym (asked_tick r due number called is late e)) (turn_asked_connected ends k t t r at (t + 1 + 4) due' number is' late))
  connected_goes r at number (net.CallPresent Unlinked due) q h is g is' called e = absurd g
  connected_goes r at number (net.CallPresent First due) q h is g is' called e = absurd is
  connected_goes r at number (net.CallPresent Second due) q h is g is' called e = absurd is
  connected_goes r at number (net.CallPresent Anew due) q h is g is' called e = absurd is
  connected_goes r at number (net.CallPresent PutOff due) q h is g is' called e = absurd is
  connected_goes r at number (net.CallPresent Asked due) q h is g is' called e = absurd is
  connected_goes r at number s q h is g is' called e = absurd h

  talks_goes : (r at : ℕ) (number : List ℕ) (s : NetState) (q : UserState) → IsTalkingState s → LostNear t s → IsUpThere q → LostFar t q → (called : Left PlainNetCall) → IsTickOf ends k t t r number s called → Turn (IsSettling ends k t (t + 1)) ends k t (Some (far_of k r at q)) called
  talks_goes r at number (net.Enquiring NotYet due) q h is g is' called e = decide (nat_le (ends r) (t + 1))
      (λ ended.
      let early : ends r ≤ t + 1 = leb-true (ends r) (t + 1) ended in
      subst (Turn (IsSettling ends k t (t + 1)) ends k t (Some (far_of k r at q))) (sym (ticks_ended ends k t t r number (net.Enquiring NotYet due) called refl early e)) (turn_stops_up ends k t t r at (t + 1 + 30) 16 number q g is' early))
      (λ goes.
      let c : PlainNetCall = near_of k r number (net.Enquiring NotYet due) in
      let late : t + 1 < ends r = leb-false (ends r) (t + 1) goes in
      subst (Turn (IsSettling ends k t (t + 1)) ends k t (Some (far_of k r at q))) (sym (e ∙ ap near_stepped (tick_goes c (t + 1) (ends r) refl late ∙ ap (λ a. if a then net_asks c Once (t + 1) else net_same c None) (le-leb due (t + 1) (omega (arith, is))))))
      (turn_enquired ends k t t r at (t + 1 + 4) number q g is' late))
  talks_goes r at number net.Active q h is g is' called e = absurd is
  talks_goes r at number (net.Enquiring Once due) q h is g is' called e = absurd is
  talks_goes r at number (net.Enquiring Twice due) q h is g is' called e = absurd is
  talks_goes r at number s q h is g is' called e = absurd h

  -- N12 and N19: RELEASE
  released_tick : (r : ℕ) (number : List ℕ) (s : NetState) (called : Left PlainNetCall) → IsClearingState s → LostNear t s → IsTickOf ends k t t r number s called → (cause : Option ℕ) × (called ≡ record { call = Some (near_of k r number (net.ReleaseRequest Once cause (t + 1 + 4))); said = release_of r false (cause_at network cause) ∷ [] })
  released_tick r number (net.DisconnectIndication cause due) called h is e =
      let c : PlainNetCall = near_of k r number (net.DisconnectIndication cause due) in
      (Some cause, e ∙ ap near_stepped (tick_clears c (t + 1) (ends r) refl ∙ ap (λ a. if a then net_releases c Once (Some cause) (t + 1) else net_same c None) (le-leb due (t + 1) (omega (arith, is)))))
  released_tick r number (net.ReleaseRequest NotYet cause due) called h is e =
      (cause, ticks_release ends k t t r due number NotYet cause called (omega (arith, is)) e ∙ ap (λ o. record { call = Some (near_of k r number (net.ReleaseRequest Once cause (t + 1 + 4))); said = o ∷ [] }) (release_is network cause r false))
  released_tick r number (net.ReleaseRequest Once cause due) called h is e = absurd is
  released_tick r number (net.ReleaseRequest Twice cause due) called h is e = absurd is
  released_tick r number s called h is e = absurd h

  cleared_goes : (r : ℕ) (number : List ℕ) (s : NetState) → IsClearingState s → LostNear t s → ends r ≤ t → (called : Left PlainNetCall) → IsTickOf ends k t t r number s called → Turn (IsSettling ends k t (t + 1)) ends k t None called
  cleared_goes r number s h is early called e =
      let p = released_tick r number s called h is e in
      subst (Turn (IsSettling ends k t (t + 1)) ends k t None) (sym p.1) (turn_clears_alone ends k t t r number (net.ReleaseRequest Once p.0 (t + 1 + 4)) (release_of r false (cause_at network p.0)) tt (omega (arith, early)) refl)

  alone_goes : (r at : ℕ) (number : List ℕ) (s : NetState) (q : UserState) → IsClearingState s → LostNear t s → IsUpThere q → LostFar t q → ends r ≤ t → (called : Left PlainNetCall) → IsTickOf ends k t t r number s called → Turn (IsSettling ends k t (t + 1)) ends k t (Some (far_of k r at q)) called
  alone_goes r at number s q h is g is' early called e =
      let p = released_tick r number s called h is e in
      subst (Turn (IsSettling ends k t (t + 1)) ends k t (Some (far_of k r at q))) (sym p.1) (turn_releases_up ends k t t r at (t + 1 + 4) (cause_at network p.0) p.0 number q g is' (omega (arith, early)))

  both_goes : (r r' at : ℕ) (number : List ℕ) (s : NetState) (q : UserState) → IsClearingState s → LostNear t s → IsReleasing q → LostFar t q → ends r ≤ t → ends r' ≤ t → (called : Left PlainNetCall) → IsTickOf ends k t t r number s called → Turn (IsSettling ends k t (t + 1)) ends k t (Some (far_of k r' at q)) called
  both_goes r r' at number s (user.ReleaseRequest NotYet cause due) h is g is' early early' called e =
      let p = released_tick r number s called h is e in
      let x : PlainUserCall = far_of k r' at (user.ReleaseRequest NotYet cause due) in
      let m : Outgoing = release_of r false (cause_at network p.0) in
      subst (Turn (IsSettling ends k t (t + 1)) ends k t (Some x)) (sym p.1) (elim (cases_eq r r') [
        | inl same ↦ subst (λ j. Turn (IsSettling ends k t (t + 1)) ends k t (Some (far_of k j at (user.ReleaseRequest NotYet cause due))) (record { call = Some (near_of k r number (net.ReleaseRequest Once p.0 (t + 1 + 4))); said = m ∷ [] })) same
            (turn_releases_both ends k t t r at (t + 1 + 4) due (cause_at network p.0) p.0 cause number (omega arith) (omega arith) (omega (arith, is')) (omega (arith, early)))
        | inr other ↦ turn_clears_behind ends k t t r r' at due cause number (net.ReleaseRequest Once p.0 (t + 1 + 4)) m other (omega (arith, is')) tt (omega (arith, early)) early' (far_other t k x m (λ q. other (sym q)))
      ])
  both_goes r r' at number s (user.ReleaseRequest Once cause due) h is g is' early early' called e = absurd is'
  both_goes r r' at number s (user.ReleaseRequest Twice cause due) h is g is' early early' called e = absurd is'
  both_goes r r' at number s q h is g is' early early' called e = absurd g

lost_turn : (ends : ℕ → ℕ) (k t : ℕ) (near : Option PlainNetCall) (far : Option PlainUserCall) → IsLost ends k t near far → (called : Left PlainNetCall) → NearTicks ends true k (t + 1) near called → Turn (IsSettling ends k t (t + 1)) ends k t far called
lost_turn ends k t near far (Nothing n f) = pair_at (Goes ends true k t t) near None far None n f (begins ends k t t true)
lost_turn ends k t near far (LeftOver x n f there q q' early) =
    pair_at (Goes ends true k t t) near None far _ n (far_is k far x f there) (left_over_goes ends k t x.reference (far_written k x there).0 x.state q q' early)
lost_turn ends k t near far (states.Offered c n f here s s' late) =
    pair_at (Goes ends true k t t) near _ far None (near_is k near c n here) f (offered_goes ends k t c.reference (near_written k c here).0 c.state s s')
lost_turn ends k t near far (OfferedBehind c x n f here there s s' q q' late early) =
    pair_at (Goes ends true k t t) near _ far _ (near_is k near c n here) (far_is k far x f there) (behind_goes ends k t c.reference x.reference (far_written k x there).0 (near_written k c here).0 c.state x.state s s' q q' late early)
lost_turn ends k t near far (Connected c x n f here there same s s' q q' late) =
    pair_at (Goes ends true k t t) near _ far _ (near_is k near c n here) (far_same k c.reference far x f there same) (connected_goes ends k t c.reference (far_written k x there).0 (near_written k c here).0 c.state x.state s s' q q')
lost_turn ends k t near far (Talks c x n f here there same s s' q q' late) =
    pair_at (Goes ends true k t t) near _ far _ (near_is k near c n here) (far_same k c.reference far x f there same) (talks_goes ends k t c.reference (far_written k x there).0 (near_written k c here).0 c.state x.state s s' q q')
lost_turn ends k t near far (Cleared c n f here s s' early) =
    pair_at (Goes ends true k t t) near _ far None (near_is k near c n here) f (cleared_goes ends k t c.reference (near_written k c here).0 c.state s s' early)
lost_turn ends k t near far (ClearedAlone c x n f here there same s s' q q' early) =
    pair_at (Goes ends true k t t) near _ far _ (near_is k near c n here) (far_same k c.reference far x f there same) (alone_goes ends k t c.reference (far_written k x there).0 (near_written k c here).0 c.state x.state s s' q q' early)
lost_turn ends k t near far (ClearedBoth c x n f here there s s' q q' early far_early) =
    pair_at (Goes ends true k t t) near _ far _ (near_is k near c n here) (far_is k far x f there) (both_goes ends k t c.reference x.reference (far_written k x there).0 (near_written k c here).0 c.state x.state s s' q q' early far_early)

pub lost_whole : (ends : ℕ → ℕ) (k t : ℕ) (near : Option PlainNetCall) (far : Option PlainUserCall) (called : Left PlainNetCall) → IsLost ends k t near far → NearTicks ends true k (t + 1) near called
    → TurnLeaves (IsSettling ends k t (t + 1)) ends k t far called called.said ((asked_in k t far called.said).said ++ (passed_in_turn k t far called.said).said) (left_in t called ((asked_in k t far called.said).said ++ (passed_in_turn k t far called.said).said)).said
lost_whole ends k t near far called h ticks = (lost_turn ends k t near far h called ticks).whole

pub lost_cut : (ends : ℕ → ℕ) (k t : ℕ) (near : Option PlainNetCall) (far : Option PlainUserCall) (called : Left PlainNetCall) (come received replies : List Outgoing) → IsLost ends k t near far → NearTicks ends true k (t + 1) near called
    → IsPart come called.said → IsPart received ((asked_in k t far come).said ++ (passed_in_turn k t far come).said) → IsPart replies (left_in t called received).said → TurnLeaves (IsLoose ends k (t + 1)) ends k t far called come received replies
lost_cut ends k t near far called come received replies h ticks = (lost_turn ends k t near far h called ticks).cut come received replies
