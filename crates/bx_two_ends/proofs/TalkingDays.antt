-- Calls that are up on days of both ends over a link that is lost: each goes on to the end of its booking, whatever is lost.
use Rattle.bx_events.specs.declared.rules.Rules.TheVariants.{Three}
use Rattle.std.proofs.Common.{◌≡◌, inl, inr, ℕ, zero, suc, ◌+◌, ◌≤◌, ◌<◌, Bool, true, false, List, ◌++◌, length, length-append, map, max, replicate, Option, Some, None, refl, sym, ap, subst, ◌∙◌, arith}
use Rattle.std.proofs.Math.Nat.{le-max_left, le-max_right}
use Rattle.std.proofs.lemmas.Bool.{cases_lt}
use Rattle.bx_base.specs.Bookings.{Row, row_at, AreBookings, Carries}
use Rattle.bx_base.specs.Channels.{IsChannelSet}
use Rattle.bx_base.specs.Plans.{is_accepted, channel_at}
use Rattle.bx_q931.specs.Outgoing.{out_octets}
use Rattle.bx_calls.specs.NetTable.{net_is_clearing}
use Rattle.bx_calls.specs.PlainCalls.{PlainNetCall, PlainUserCall}
use Rattle.bx_calls.specs.Sending.{Sent}
use Rattle.bx_calls.specs.declared.net_state.NetState.{NetState}
use Rattle.bx_calls.specs.declared.net_state.NetState.TheVariants.{OutgoingCallProceeding, CallPresent, IncomingCallProceeding, CallReceived, Active, Enquiring, DisconnectIndication, ReleaseRequest}
use Rattle.bx_calls.specs.declared.times.Times.TheVariants.{NotYet}
use Rattle.bx_calls.specs.declared.user_state.UserState.{UserState}
use Rattle.bx_day.specs.Day.{Day, entry_at, is_back, is_free, is_live}
use Rattle.bx_day.specs.Law.{OnLive, standing_at}
use Rattle.bx_day.specs.Moves.{is_active}
use Rattle.bx_day.specs.Ticks.{tick, passed_in, second_at, unlinked_at}
use Rattle.bx_day.specs.declared.entry.Activity.{Activity}
use Rattle.bx_day.specs.declared.entry.Link.TheVariants.{Up, Down}
use Rattle.bx_day.specs.declared.entry.Standing.{Standing}
use Rattle.bx_day.specs.declared.entry.Standing.TheVariants.{OnCall}
use Rattle.bx_day.proofs.Passing.{tick_is}
use Rattle.bx_far.specs.FarDay.{holder}
use Rattle.bx_far.specs.declared.row.ScriptRow.{ScriptRow}
use Rattle.bx_two_ends.specs.Earning.{heard_in, IsCarriedBy, IsAllAnswered, AreAnswered}
use Rattle.bx_two_ends.specs.Lockstep.{Ends, ends_after, ends_opening, octets_received, turns_from, AnswersAtOnce}
use Rattle.bx_two_ends.specs.LossyLink.{LinkSecond, Whole, ends_cut, ends_apart, ends_over, answers_in, day_of_both, LosesWithLink, IsLongBetween, IsUpWithin}
use Rattle.bx_two_ends.proofs.Answering.{going_live}
use Rattle.bx_two_ends.proofs.Calm.{after_standing, without_is, IsBooked, Stands, following, day_linked, turn_linked, link_stands, called_turn}
use Rattle.bx_two_ends.proofs.Carrying.{IsUp, IsOver, IsKept, IsQuietCall, is_pressed, up_tick, end_tick, over_tick, up_unlinked, end_unlinked, over_unlinked, up_going, up_kept, over_cleared, active_up}
use Rattle.bx_two_ends.proofs.ChannelDays.{Between, PairOn}
use Rattle.bx_two_ends.proofs.ChannelDays as days
use Rattle.bx_two_ends.proofs.ChannelStates.{IsPair, Nothing, LeftOver, Offered, OfferedBehind, Connected, Talks, Cleared, ClearedAlone, ClearedBoth, IsOffering, IsTalkingState, LostNear, LostFar, IsLoose, IsLost, IsSettling, Idle, Talking, Waiting, Clearing, active_is, IsPutOff, IsReleased}
use Rattle.bx_two_ends.proofs.ChannelTurns.{loose_of}
use Rattle.bx_two_ends.proofs.EarnedDays.{alone_in, runs_from}
use Rattle.bx_two_ends.proofs.LossyDays.{Ready, Behind, Settles, Turned, cut_turn, settling_turn, apart_turn, seconds_keep, all_ready, ready_near, ready_run, settling_run, steady_run, steady_stands, standing_up, carried_later, Settling, opening_ready, over_both}
use Rattle.bx_two_ends.proofs.NearChannel.{ends_of, IsOutward, NearFits, near_unique}
use Rattle.bx_two_ends.proofs.Turning.{fits_at, heard_turn, heard_kept, heard_over, keeps_of, on_live_at}

-- ---- the exchange's state, of what is there of a channel

abbrev NearHas : (NetState → Type 0) → Option PlainNetCall → Type 0
NearHas P None = Unit {0}
NearHas P (Some c) = P c.state

pub pair_has : (P : NetState → Type 0) (Q : UserState → Type 0) (ends : ℕ → ℕ) (k t : ℕ) (near : Option PlainNetCall) (far : Option PlainUserCall) → IsPair P Q ends k t near far → NearHas P near
pair_has P Q ends k t near far (Nothing n f) = subst (NearHas P) (sym n) tt
pair_has P Q ends k t near far (LeftOver x n f there q q' early) = subst (NearHas P) (sym n) tt
pair_has P Q ends k t near far (Offered c n f here s p late) = subst (NearHas P) (sym n) p
pair_has P Q ends k t near far (OfferedBehind c x n f here there s p q q' late early) = subst (NearHas P) (sym n) p
pair_has P Q ends k t near far (Connected c x n f here there same s p q q' late) = subst (NearHas P) (sym n) p
pair_has P Q ends k t near far (Talks c x n f here there same s p q q' late) = subst (NearHas P) (sym n) p
pair_has P Q ends k t near far (Cleared c n f here s p early) = subst (NearHas P) (sym n) p
pair_has P Q ends k t near far (ClearedAlone c x n f here there same s p q q' early) = subst (NearHas P) (sym n) p
pair_has P Q ends k t near far (ClearedBoth c x n f here there s p q q' early far_early) = subst (NearHas P) (sym n) p

-- a call whose booking goes on is not being cleared
abbrev IsUncleared : (ℕ → ℕ) → ℕ → Option PlainNetCall → Type 0
IsUncleared ends t None = Unit {0}
IsUncleared ends t (Some c) = t < ends c.reference → net_is_clearing c.state ≡ false

offering_uncleared : (s : NetState) → IsOffering s → net_is_clearing s ≡ false
offering_uncleared (CallPresent offer due) h = refl
offering_uncleared OutgoingCallProceeding h = absurd h
offering_uncleared (IncomingCallProceeding due) h = absurd h
offering_uncleared (CallReceived due) h = absurd h
offering_uncleared Active h = absurd h
offering_uncleared (Enquiring asked due) h = absurd h
offering_uncleared (DisconnectIndication cause due) h = absurd h
offering_uncleared (ReleaseRequest sent cause due) h = absurd h

talking_uncleared : (s : NetState) → IsTalkingState s → net_is_clearing s ≡ false
talking_uncleared Active h = refl
talking_uncleared (Enquiring asked due) h = refl
talking_uncleared OutgoingCallProceeding h = absurd h
talking_uncleared (CallPresent offer due) h = absurd h
talking_uncleared (IncomingCallProceeding due) h = absurd h
talking_uncleared (CallReceived due) h = absurd h
talking_uncleared (DisconnectIndication cause due) h = absurd h
talking_uncleared (ReleaseRequest sent cause due) h = absurd h

loose_uncleared : (ends : ℕ → ℕ) (k t : ℕ) (near : Option PlainNetCall) (far : Option PlainUserCall) → IsLoose ends k t near far → IsUncleared ends t near
loose_uncleared ends k t near far (Nothing n f) = subst (IsUncleared ends t) (sym n) tt
loose_uncleared ends k t near far (LeftOver x n f there q q' early) = subst (IsUncleared ends t) (sym n) tt
loose_uncleared ends k t near far (Offered c n f here s p late) = subst (IsUncleared ends t) (sym n) (λ _. offering_uncleared c.state s)
loose_uncleared ends k t near far (OfferedBehind c x n f here there s p q q' late early) = subst (IsUncleared ends t) (sym n) (λ _. offering_uncleared c.state s)
loose_uncleared ends k t near far (Connected c x n f here there same s p q q' late) = subst (IsUncleared ends t) (sym n) (λ _. offering_uncleared c.state s)
loose_uncleared ends k t near far (Talks c x n f here there same s p q q' late) = subst (IsUncleared ends t) (sym n) (λ _. talking_uncleared c.state s)
loose_uncleared ends k t near far (Cleared c n f here s p early) = subst (IsUncleared ends t) (sym n) (λ on. absurd (omega (arith, on, early)))
loose_uncleared ends k t near far (ClearedAlone c x n f here there same s p q q' early) = subst (IsUncleared ends t) (sym n) (λ on. absurd (omega (arith, on, early)))
loose_uncleared ends k t near far (ClearedBoth c x n f here there s p q q' early far_early) = subst (IsUncleared ends t) (sym n) (λ on. absurd (omega (arith, on, early)))

-- where a call is up between two seconds, it was not asked for yet
abbrev IsCalmHere : Option PlainNetCall → Type 0
IsCalmHere None = Unit {0}
IsCalmHere (Some c) = IsTalkingState c.state → is_pressed c.state ≡ false

lost_calm : (t : ℕ) (s : NetState) → LostNear t s → IsTalkingState s → is_pressed s ≡ false
lost_calm t (Enquiring NotYet due) p h = refl
lost_calm t (Enquiring asked due) p h = absurd p
lost_calm t Active p h = refl
lost_calm t OutgoingCallProceeding p h = absurd h
lost_calm t (CallPresent offer due) p h = absurd h
lost_calm t (IncomingCallProceeding due) p h = absurd h
lost_calm t (CallReceived due) p h = absurd h
lost_calm t (DisconnectIndication cause due) p h = absurd h
lost_calm t (ReleaseRequest sent cause due) p h = absurd h

put_off_silent : (t : ℕ) (s : NetState) → IsPutOff t s → IsTalkingState s → ⊥
put_off_silent t Active p h = p
put_off_silent t (Enquiring asked due) p h = p
put_off_silent t s p h = h

released_silent : (b : ℕ) (s : NetState) → IsReleased b s → IsTalkingState s → ⊥
released_silent b Active p h = p
released_silent b (Enquiring asked due) p h = p
released_silent b s p h = h

settling_calm : (ends : ℕ → ℕ) (k b t : ℕ) (near : Option PlainNetCall) (far : Option PlainUserCall) → IsSettling ends k b t near far → IsCalmHere near
settling_calm ends k b t near far (Idle n f) = subst IsCalmHere (sym n) tt
settling_calm ends k b t near far (Talking c x n f here there same up up' late) = subst IsCalmHere (sym n) (λ _. ap is_pressed (active_is c.state up))
settling_calm ends k b t near far (Waiting c n f here put at late) = subst IsCalmHere (sym n) (λ h. absurd (put_off_silent t c.state put h))
settling_calm ends k b t near far (Clearing c n f here sent soon past) = subst IsCalmHere (sym n) (λ h. absurd (released_silent b c.state sent h))

calm_of : (t : ℕ) (near : Option PlainNetCall) → NearHas (LostNear t) near → IsCalmHere near
calm_of t None p = tt
calm_of t (Some c) p = lost_calm t c.state p

-- ---- how far a booking has come whose call was up at moment u

-- the call is up while the booking runs, and is cleared from its end on
pub record Through (i u end : ℕ) (d : Day) : Type 0 where
  pub up : d.moment < end → IsUp u (standing_at d i)
  pub over : end ≤ d.moment → IsOver u end (standing_at d i)

talking_of : (u : ℕ) (c : PlainNetCall) (a : Activity) → IsUp u (OnCall c a) → IsTalkingState c.state
talking_of u c a up = at c.state a up
  where
    at : (s : NetState) (a : Activity) → IsUp u (OnCall (record c { state = s }) a) → IsTalkingState s
    at Active a h = tt
    at (Enquiring asked due) a h = tt
    at OutgoingCallProceeding a h = absurd h
    at (CallPresent offer due) a h = absurd h
    at (IncomingCallProceeding due) a h = absurd h
    at (CallReceived due) a h = absurd h
    at (DisconnectIndication cause due) a h = absurd h
    at (ReleaseRequest sent cause due) a h = absurd h

module _ (rows : List Row) (assigned : List (Option ℕ)) (i u : ℕ) (inside : i < length rows) where
  abbrev End : ℕ
  End = (row_at rows i).end

  -- where a property of what is there of each channel holds of the booking's call
  on_call : (P : Option PlainNetCall → Type 0) (Pairs : ℕ → Option PlainNetCall → Option PlainUserCall → Type 0) (t : ℕ) (e : Ends) → Between rows assigned Pairs t e → ((k : ℕ) (near : Option PlainNetCall) (far : Option PlainUserCall) → Pairs k near far → P near) → (c : PlainNetCall) (a : Activity) → standing_at e.exchange i ≡ OnCall c a → P (Some c)
  on_call P Pairs t e h f c a is =
      let k = (entry_at e.exchange.entries i).channel in
      let p = h.pairs k (days.live_channel rows assigned t i e.exchange c a h.near is) in
      subst P (near_unique rows assigned t e.exchange k i p.call c a h.near p.is is refl) (f k p.call (holder e.far k) p.pair)

  quiet_at : (e : Ends) → ((c : PlainNetCall) (a : Activity) → standing_at e.exchange i ≡ OnCall c a → IsCalmHere (Some c)) → IsUp u (standing_at e.exchange i) → IsQuietCall (standing_at e.exchange i)
  quiet_at e f up = at (standing_at e.exchange i) refl up
    where
      at : (s : Standing) → standing_at e.exchange i ≡ s → IsUp u s → IsQuietCall s
      at (OnCall c a) is h = f c a is (talking_of u c a h)
      at s is h = absurd h

  -- what the tick makes of it
  ticked_through : (t : ℕ) (d : Day) → t < 300000 → NearFits rows assigned t d → (IsUp u (standing_at d i) → IsQuietCall (standing_at d i)) → Through i u End d → (t + 1 < End → IsUp u (standing_at (tick d).day i)) × (End ≤ t + 1 → IsOver u End (standing_at (tick d).day i))
  ticked_through t d early h quiet way =
      let e = entry_at d.entries i in
      let n = d.moment + 1 in
      let book : e.booking ≡ row_at rows i = (h.fits.framed.0 i inside).booking in
      let soon : d.moment < 300000 = (let at = h.moment in omega (arith, at, early)) in
      let here : (P : Standing → Type 0) → P (second_at e n (is_back d) (is_free d e.channel) e.standing).standing → P (standing_at (tick d).day i) = λ P p. subst (λ (s : Sent Day). P (standing_at s.day i)) (sym (tick_is d soon)) (subst P (sym (after_standing Up d i)) p) in (
        λ less. (let at = h.moment in let up = way.up (omega (arith, at, less)) in
            here (IsUp u) (up_tick u n e (is_back d) (is_free d e.channel) e.standing up (quiet up) (subst (λ (r : Row). n < r.end) (sym book) (omega (arith, at, less))))),
        λ past. elim (cases_lt d.moment End) [
          | inl less ↦ (let at = h.moment in let is : n ≡ End = omega (arith, at, less, past) in
              here (IsOver u End) (subst (λ (r : Row). IsOver u r.end (second_at e n (is_back d) (is_free d e.channel) e.standing).standing) book (end_tick u n e (is_back d) (is_free d e.channel) e.standing (way.up less) (is ∙ ap (λ (r : Row). r.end) (sym book)))))
          | inr late ↦ here (IsOver u End) (subst (λ (r : Row). IsOver u r.end (second_at e n (is_back d) (is_free d e.channel) e.standing).standing) book (over_tick u n e (is_back d) (is_free d e.channel) e.standing (subst (λ (r : Row). IsOver u r.end e.standing) (sym book) (way.over late))))
        ],
      )

  -- and what is heard after it
  heard_through : (Leaves : ℕ → Option PlainNetCall → Option PlainUserCall → Type 0) (t : ℕ) (e after : Ends) (received : List (List ℕ)) → after.exchange ≡ heard_in received (tick e.exchange).day → Turned rows assigned Leaves t e after → ((k : ℕ) (near : Option PlainNetCall) (far : Option PlainUserCall) → Leaves k near far → IsUncleared (ends_of rows) (t + 1) near)
      → (t + 1 < End → IsUp u (standing_at (tick e.exchange).day i)) × (End ≤ t + 1 → IsOver u End (standing_at (tick e.exchange).day i)) → Through i u End after.exchange
  heard_through Leaves t e after received is w f way =
      let left = after.exchange in
      let at : left.moment ≡ t + 1 = w.left.near.moment in
      record {
        up = λ less.
            (let on : t + 1 < End = omega (arith, less, at) in
            let now = way.0 on in
            let live : is_live (standing_at left i) ≡ true = w.kept i (going_live (standing_at (tick e.exchange).day i) (up_going u (standing_at (tick e.exchange).day i) now)) on in
            keeps_of left.moment u (entry_at left.entries i) (standing_at left i) (fits_at left i w.left.near.fits.day) live
            (uncleared_on on)
            (subst (λ (d : Day). IsKept u (standing_at d i)) (sym is) (heard_kept u (t + 1) i received (tick e.exchange).day w.called.moment (up_kept u (standing_at (tick e.exchange).day i) now))));
        over = λ past. subst (λ (d : Day). IsOver u End (standing_at d i)) (sym is) (heard_over u End (t + 1) i received (tick e.exchange).day w.called.moment (way.1 (omega (arith, past, at))));
      }
    where
      uncleared_on : t + 1 < End → OnLive (standing_at after.exchange i) (λ call a. net_is_clearing call.state ≡ false)
      uncleared_on on = at (standing_at after.exchange i) refl
        where
          at : (s : Standing) → standing_at after.exchange i ≡ s → OnLive s (λ call a. net_is_clearing call.state ≡ false)
          at (OnCall c a) same = on_call (IsUncleared (ends_of rows) (t + 1)) Leaves (t + 1) after w.left f c a same
              (subst (λ r. t + 1 < ends_of rows r) (sym (subst (IsOutward i) same (w.left.near.outward i)).0) on)
          at s same = tt

  -- ---- each kind of second

  whole_through : (t : ℕ) (e : Ends) → t < 300000 → Ready rows assigned t e → Through i u End e.exchange → Through i u End (ends_after e).exchange
  whole_through t e early (Behind h) way = heard_through (λ k v w. IsSettling (ends_of rows) k t (t + 1) v w) t e (ends_after e) (octets_received e) refl (apart_turn rows assigned t e early h) (λ k near far p. loose_uncleared (ends_of rows) k (t + 1) near far (loose_of (ends_of rows) k t (t + 1) near far p))
      (ticked_through t e.exchange early h.0.near (quiet_at e (on_call IsCalmHere (λ k v w. IsLost (ends_of rows) k t v w) t e h.0 (λ k near far p. calm_of t near (pair_has (LostNear t) (LostFar t) (ends_of rows) k t near far p)))) way)
  whole_through t e early (Settles b low h) way = heard_through (λ k v w. IsSettling (ends_of rows) k b (t + 1) v w) t e (ends_after e) (octets_received e) refl (settling_turn rows assigned b t e early h) (λ k near far p. loose_uncleared (ends_of rows) k (t + 1) near far (loose_of (ends_of rows) k b (t + 1) near far p))
      (ticked_through t e.exchange early h.near (quiet_at e (on_call IsCalmHere (λ k v w. IsSettling (ends_of rows) k b t v w) t e h (λ k near far p. settling_calm (ends_of rows) k b t near far p))) way)

  cut_through : (calls answers replies : List Bool) (t : ℕ) (e : Ends) → t < 300000 → Ready rows assigned t e → Through i u End e.exchange → Through i u End (ends_cut calls answers replies e).exchange
  cut_through calls answers replies t e early r way = heard_through (λ k v w. IsLoose (ends_of rows) k (t + 1) v w) t e (ends_cut calls answers replies e) (map (λ o. out_octets o) (answers_in calls answers e)) refl (cut_turn rows assigned calls answers replies t e early r) (λ k near far p. loose_uncleared (ends_of rows) k (t + 1) near far p)
      (called r)
    where
      called : Ready rows assigned t e → (t + 1 < End → IsUp u (standing_at (tick e.exchange).day i)) × (End ≤ t + 1 → IsOver u End (standing_at (tick e.exchange).day i))
      called (Behind h) = ticked_through t e.exchange early h.0.near (quiet_at e (on_call IsCalmHere (λ k v w. IsLost (ends_of rows) k t v w) t e h.0 (λ k near far p. calm_of t near (pair_has (LostNear t) (LostFar t) (ends_of rows) k t near far p)))) way
      called (Settles b low h) = ticked_through t e.exchange early h.near (quiet_at e (on_call IsCalmHere (λ k v w. IsSettling (ends_of rows) k b t v w) t e h (λ k near far p. settling_calm (ends_of rows) k b t near far p))) way

  lost_through : (t : ℕ) (e : Ends) → t < 300000 → NearFits rows assigned t e.exchange → Through i u End e.exchange → Through i u End (ends_apart e).exchange
  lost_through t e early h way =
      let d = e.exchange in
      let x = entry_at d.entries i in
      let n = d.moment + 1 in
      let soon : d.moment < 300000 = (let at = h.moment in omega (arith, at, early)) in
      let book : x.booking ≡ row_at rows i = (h.fits.framed.0 i inside).booking in
      let here : (P : Standing → Type 0) → P (unlinked_at Three x n x.standing).standing → P (standing_at (passed_in (Down Three) d).day i) = λ P p. subst P (sym (after_standing (Down Three) d i)) p in
      subst (Through i u End) (sym (without_is d soon)) (record {
        up = λ less. here (IsUp u) (up_unlinked u n x x.standing (way.up (omega (arith, less))) (subst (λ (r : Row). n < r.end) (sym book) less));
        over = λ past. elim (cases_lt d.moment End) [
          | inl less ↦ (let is : n ≡ End = omega (arith, less, past) in
              here (IsOver u End) (subst (λ (r : Row). IsOver u r.end (unlinked_at Three x n x.standing).standing) book (end_unlinked u n x x.standing (way.up less) (is ∙ ap (λ (r : Row). r.end) (sym book)))))
          | inr late ↦ here (IsOver u End) (subst (λ (r : Row). IsOver u r.end (unlinked_at Three x n x.standing).standing) book (over_unlinked u n x x.standing (subst (λ (r : Row). IsOver u r.end x.standing) (sym book) (way.over late))))
        ];
      })

  -- ---- all seconds

  through_all : (seconds : List LinkSecond) (t : ℕ) (e : Ends) → LosesWithLink seconds → t + length seconds ≤ 300000 → Ready rows assigned t e → Through i u End e.exchange → Ready rows assigned (t + length seconds) (ends_over seconds e) × Through i u End (ends_over seconds e).exchange
  through_all = seconds_keep rows assigned (λ e. Through i u End e.exchange) whole_through cut_through lost_through

  whole_loses : (n : ℕ) → LosesWithLink (replicate n Whole)
  whole_loses zero = tt
  whole_loses (suc n) = whole_loses n

  whole_size : (n : ℕ) → length (replicate n Whole) ≡ n
  whole_size zero = refl
  whole_size (suc n) = ap suc (whole_size n)

  -- five whole seconds later it is over
  over_carried : (m n : ℕ) (e : Ends) → m + suc n ≤ 300000 → 5 ≤ suc n → End ≤ m + suc n → Ready rows assigned m e → Through i u End e.exchange → IsCarriedBy u End (standing_at (ends_over (replicate (suc n) Whole) e).exchange i)
  over_carried m n e few five past h way =
      let settled = ready_run rows assigned n m e few h in
      let low = settled.1 in
      let left : Ends = ends_over (replicate (suc n) Whole) e in
      let last = through_all (replicate (suc n) Whole) m e (whole_loses (suc n)) (omega (arith, few, whole_size (suc n))) h way in
      over_cleared u End (standing_at left.exchange i) (last.1.over (let at = settled.2.near.moment in omega (arith, at, past)))
      (λ c a is. ap net_is_clearing (active_is c.state (standing_up rows assigned settled.0 (m + suc n) left (omega (arith, low, five)) settled.2 i c a is)))

-- ---- of every carried plan, and a script that answers each call at once

pub carried_through : (rows : List Row) (channels : List Bool) (assigned : List (Option ℕ)) (script : List ScriptRow) (before after : List LinkSecond) (whole i : ℕ) → AreBookings rows → IsChannelSet channels → Carries rows channels (is_accepted assigned) (channel_at assigned) → AnswersAtOnce script → LosesWithLink before → LosesWithLink after → length (before ++ after) + whole ≤ 300000 → IsUpWithin rows assigned script before after whole i
    → IsCarriedBy (length before) (row_at rows i).end (standing_at (day_of_both rows assigned script (before ++ after) whole).exchange i)
carried_through rows channels assigned script before after zero i b set carries once ok ok' few k = absurd (let five = k.five in omega (arith, five))
carried_through rows channels assigned script before after (suc n) i b set carries once ok ok' few k =
    let opened : Ends = ends_opening rows assigned script in
    let split : Ends = ends_over before opened in
    let size : length (before ++ after) ≡ length before + length after = length-append before after in
    let first : Ready rows assigned (length before) split = subst (λ m. Ready rows assigned m split) (let q : 0 + length before ≡ length before = omega arith in q) (all_ready rows assigned before 0 opened ok (omega (arith, few, size)) (opening_ready rows channels assigned script b set carries once)) in
    let near = ready_near rows assigned (length before) split first in
    let at : split.exchange.moment ≡ length before = near.moment in
    let up : IsUp (length before) (standing_at split.exchange i) = active_up (length before) split.exchange.moment (entry_at split.exchange.entries i) (standing_at split.exchange i) (fits_at split.exchange i near.fits.day) k.live (on_live_at (standing_at split.exchange i) (λ call a. is_active call.state ≡ true) k.up) (omega (arith, at)) in
    let second = through_all rows assigned i (length before) k.inside after (length before) split ok' (omega (arith, few, size)) first (record { up = λ less. up; over = λ past. absurd (let runs = k.runs in omega (arith, past, at, runs)) }) in
    let runs = k.over in
    subst (λ (e : Ends). IsCarriedBy (length before) (row_at rows i).end (standing_at e.exchange i)) (sym (over_both rows assigned (before ++ after) (replicate (suc n) Whole) opened ∙ ap (ends_over (replicate (suc n) Whole)) (over_both rows assigned before after opened)))
    (over_carried rows assigned i (length before) k.inside (length before + length after) n (ends_over after split) (omega (arith, few, size)) k.five (omega (arith, runs, size)) second.0 second.1)

-- ---- six seconds with a whole link, and what is lost after them

module _ (rows : List Row) (assigned : List (Option ℕ)) (i cleared offered : ℕ) (booked : IsBooked rows assigned i cleared offered (row_at rows i).end) where
  stands_run : (n : ℕ) (e : Ends) → Stands rows assigned i cleared offered (row_at rows i).end e.exchange → AreAnswered (turns_from n e) e.exchange → e.exchange.moment + n ≤ 300000 → Stands rows assigned i cleared offered (row_at rows i).end (ends_over (replicate n Whole) e).exchange
  stands_run zero e s ok few = s
  stands_run (suc n) e s ok few =
      let d = e.exchange in
      let early : d.moment < 300000 = omega (arith, few) in
      let is : (ends_after e).exchange ≡ following d (octets_received e) = day_linked d (octets_received e) early in
      let next = link_stands rows assigned i cleared offered (row_at rows i).end d (octets_received e) early booked s (turn_linked IsAllAnswered d (octets_received e) early ok.0) in
      let at : (following d (octets_received e)).moment ≡ d.moment + 1 = (heard_turn rows assigned (d.moment + 1) (octets_received e) (passed_in Up d).day (called_turn rows assigned d early s.calm)).moment in
      stands_run n (ends_after e) (subst (Stands rows assigned i cleared offered (row_at rows i).end) (sym is) next) ok.1 (let q = ap (λ (x : Day). x.moment) is in omega (arith, few, q, at))

module _ (rows : List Row) (assigned : List (Option ℕ)) where
  -- five seconds behind what was lost, for n more, in which the booking is offered
  six_through : (channels : List Bool) (b t n i offered cleared : ℕ) (e : Ends) → Carries rows channels (is_accepted assigned) (channel_at assigned) → t + n ≤ 300000 → b + 5 ≤ t → Settling rows assigned b t e → i < length rows → is_accepted assigned i ≡ true → (row_at rows i).inward ≡ false → (row_at rows i).start + 1 ≤ offered → t + 1 ≤ offered → offered < (row_at rows i).end → offered ≤ t + n → cleared + 1 ≡ offered
      → Through i offered (row_at rows i).end (ends_over (replicate n Whole) e).exchange
  six_through channels b t n i offered cleared e carries few late h inside accepted outward begun later runs within before =
      let at : e.exchange.moment ≡ t = h.near.moment in
      let low : (row_at rows i).start ≤ cleared = omega (arith, begun, before) in
      let booked : IsBooked rows assigned i cleared offered (row_at rows i).end = record {
        inside = inside;
        outward = outward;
        alone = alone_in rows channels assigned i cleared offered carries inside accepted low runs;
        before = omega (arith, before);
        runs = runs_from (row_at rows i) offered (omega (arith, begun)) runs;
        late = runs;
        over = omega arith;
      } in
      let left : Ends = ends_over (replicate n Whole) e in
      let last = stands_run rows assigned i cleared offered booked n e (steady_stands rows assigned channels b t i offered e carries late h inside accepted begun later runs cleared before) (steady_run rows assigned n b t e few late h) (omega (arith, at, few)) in
      let then = (settling_run rows assigned n b t e few h).near.moment in
      record { up = λ less. last.up (omega (arith, then, within)) less; over = last.over }

  -- and any seconds after these
  pub six_carried : (channels : List Bool) (m between i whole : ℕ) (after : List LinkSecond) (e : Ends) → Carries rows channels (is_accepted assigned) (channel_at assigned) → LosesWithLink after → m + between + length after + whole ≤ 300000 → Ready rows assigned m e → IsLongBetween rows assigned i m between (length after) whole
      → IsCarriedBy (max ((row_at rows i).start + 1) (m + 6)) (row_at rows i).end (standing_at (ends_over (replicate whole Whole) (ends_over after (ends_over (replicate between Whole) e))).exchange i)
  six_carried channels m between i zero after e carries ok few h k = absurd (let five = k.last in omega (arith, five))
  six_carried channels m (suc (suc (suc (suc (suc n))))) i (suc w) after e carries ok few h k =
      let first = ready_run rows assigned 4 m e (omega (arith, few)) h in
      let low = first.1 in
      let begun = k.begun in
      let six = k.six in
      let over = k.over in
      let split : Ends = ends_over (replicate 5 Whole) e in
      let left : Ends = ends_over (replicate n Whole) split in
      let settled = settling_run rows assigned n first.0 (m + 5) split (omega (arith, few)) first.2 in
      let ready : Ready rows assigned (m + 5 + n) left = Settles first.0 (omega (arith, low)) settled in
      let go : (offered : ℕ) → Through i offered (row_at rows i).end left.exchange → IsCarriedBy offered (row_at rows i).end (standing_at (ends_over (replicate (suc w) Whole) (ends_over after left)).exchange i) = λ offered way.
      (let second = through_all rows assigned i offered k.inside after (m + 5 + n) left ok (omega (arith, few)) ready way in
      over_carried rows assigned i offered k.inside (m + 5 + n + length after) w (ends_over after left) (omega (arith, few)) k.last (omega (arith, over)) second.0 second.1) in
      elim (cases_lt (m + 5) (row_at rows i).start) [
        | inl past ↦ carried_later rows assigned ((row_at rows i).start + 1) (max ((row_at rows i).start + 1) (m + 6)) (row_at rows i).end _ (le-max_left ((row_at rows i).start + 1) (m + 6))
            (go ((row_at rows i).start + 1) (six_through channels first.0 (m + 5) n i ((row_at rows i).start + 1) (row_at rows i).start split carries (omega (arith, few)) (omega (arith, low)) first.2 k.inside k.accepted k.outward (omega arith) (omega (arith, past)) k.seconds (omega (arith, begun)) refl))
        | inr soon ↦ carried_later rows assigned (m + 6) (max ((row_at rows i).start + 1) (m + 6)) (row_at rows i).end _ (le-max_right ((row_at rows i).start + 1) (m + 6))
            (go (m + 6) (six_through channels first.0 (m + 5) n i (m + 6) (m + 5) split carries (omega (arith, few)) (omega (arith, low)) first.2 k.inside k.accepted k.outward (omega (arith, soon)) (omega arith) k.later (omega (arith, six)) (let is : m + 5 + 1 ≡ m + 6 = omega arith in is)))
      ]
  six_carried channels m zero i whole after e carries ok few h k = absurd (let six = k.six in omega (arith, six))
  six_carried channels m (suc zero) i whole after e carries ok few h k = absurd (let six = k.six in omega (arith, six))
  six_carried channels m (suc (suc zero)) i whole after e carries ok few h k = absurd (let six = k.six in omega (arith, six))
  six_carried channels m (suc (suc (suc zero))) i whole after e carries ok few h k = absurd (let six = k.six in omega (arith, six))
  six_carried channels m (suc (suc (suc (suc zero)))) i whole after e carries ok few h k = absurd (let six = k.six in omega (arith, six))

pub carried_between : (rows : List Row) (channels : List Bool) (assigned : List (Option ℕ)) (script : List ScriptRow) (before after : List LinkSecond) (between whole i : ℕ) → AreBookings rows → IsChannelSet channels → Carries rows channels (is_accepted assigned) (channel_at assigned) → AnswersAtOnce script → LosesWithLink before → LosesWithLink after → length before + between + length after + whole ≤ 300000 → IsLongBetween rows assigned i (length before) between (length after) whole
    → IsCarriedBy (max ((row_at rows i).start + 1) (length before + 6)) (row_at rows i).end (standing_at (day_of_both rows assigned script ((before ++ replicate between Whole) ++ after) whole).exchange i)
carried_between rows channels assigned script before after between whole i b set carries once ok ok' few k =
    let opened : Ends = ends_opening rows assigned script in
    let split : Ends = ends_over before opened in
    let first : Ready rows assigned (length before) split = subst (λ m. Ready rows assigned m split) (let q : 0 + length before ≡ length before = omega arith in q) (all_ready rows assigned before 0 opened ok (omega (arith, few)) (opening_ready rows channels assigned script b set carries once)) in
    subst (λ (e : Ends). IsCarriedBy (max ((row_at rows i).start + 1) (length before + 6)) (row_at rows i).end (standing_at e.exchange i))
    (sym (over_both rows assigned ((before ++ replicate between Whole) ++ after) (replicate whole Whole) opened
    ∙ ap (ends_over (replicate whole Whole)) (over_both rows assigned (before ++ replicate between Whole) after opened ∙ ap (ends_over after) (over_both rows assigned before (replicate between Whole) opened))))
    (six_carried rows assigned channels (length before) between i whole after split carries ok' few first k)
