-- A turn on a channel towards a far end that lets calls ring: the call rings at both ends, and then it is Active at both.
use Rattle.std.proofs.Common.{◌≡◌, inl, inr, ℕ, zero, suc, ◌+◌, ◌≤◌, ◌<◌, ◌==◌, ◌&&◌, not, nat_le, Bool, true, false, List, [], ◌∷◌, ◌++◌, Option, Some, None, refl, sym, ap, subst, ◌∙◌, arith, if◌then◌else◌}
use Rattle.std.proofs.lemmas.Bool.{eq-eqb, true≢false, leb-true, leb-false, lt-leb}
use Rattle.bx_q931.specs.Outgoing.{Outgoing, plain}
use Rattle.bx_q931.specs.declared.channel_field.ChannelField.TheVariants.{Named}
use Rattle.bx_q931.specs.declared.kind.Kind.TheVariants.{Alerting, Connect, ConnectAcknowledge, Release, ReleaseComplete}
use Rattle.bx_calls.specs.Hearing.{names_channel}
use Rattle.bx_calls.specs.NetTable.{net_second, net_message, net_timer, net_same, net_disconnects, net_offered, net_is_clearing, first_offer}
use Rattle.bx_calls.specs.PlainCalls.{PlainNetCall, PlainUserCall}
use Rattle.bx_calls.specs.Saying.{with_channel}
use Rattle.bx_calls.specs.UserTable.{user_message, user_second, user_same, user_to, user_connects, user_release_due}
use Rattle.bx_calls.specs.declared.net_state.NetOrigin.{NetOrigin}
use Rattle.bx_calls.specs.declared.net_state.NetOrigin.TheVariants.{Outward, Inward}
use Rattle.bx_calls.specs.declared.net_state.NetState.{NetState}
use Rattle.bx_calls.specs.declared.net_state.NetState.TheVariants as net
use Rattle.bx_calls.specs.declared.times.Times.TheVariants.{Once}
use Rattle.bx_calls.specs.declared.transition.Transition.{Transition}
use Rattle.bx_calls.specs.declared.user_state.Policy.TheVariants.{Answer}
use Rattle.bx_calls.specs.declared.user_state.UserOrigin.TheVariants.{Offered}
use Rattle.bx_calls.specs.declared.user_state.UserState.{UserState}
use Rattle.bx_calls.specs.declared.user_state.UserState.TheVariants as user
use Rattle.bx_day.proofs.Once.{decide}
use Rattle.bx_day.proofs.Tick.{by_cases}
use Rattle.bx_two_ends.proofs.OneChannel.{Left, left_as, left_then, heard_from, NearTicks, near_begun, near_left, near_meets_all, near_stepped, far_strays_by, far_meets_all_by, far_passes, far_stepped}
use Rattle.bx_two_ends.proofs.ChannelLosses.{near_named}
use Rattle.bx_two_ends.proofs.ChannelStates.{IsUnbrokenNear, IsUnbrokenFar, IsThere, IsKeptOn, TurnLeavesBy, asked_by, passed_by, left_in, last_by}
use Rattle.bx_two_ends.proofs.ChannelTurns.{stopped_of, tick_ends, tick_goes}

-- ---- the two ends of a channel between two turns

abbrev near_of : ℕ → ℕ → List ℕ → NetState → PlainNetCall
near_of k r number s = record { reference = r; channel = k; origin = Outward number; state = s }

abbrev far_of : ℕ → ℕ → ℕ → ℕ → UserState → PlainUserCall
far_of k r seconds at s = record { reference = r; channel = k; origin = Offered (Answer seconds) at; state = s }

-- at moment t, where each reference has the end of its booking, and each called number the seconds that it rings: there is no call, or
-- one that rings since the turn to moment at + 1, or one that is up
pub data IsRung (wait : Option (List ℕ) → ℕ) (ends : ℕ → ℕ) (k t : ℕ) (near : Option PlainNetCall) (far : Option PlainUserCall) : Type 0 where
  Idle : near ≡ None → far ≡ None → IsRung wait ends k t near far
  Rings : (r : ℕ) (number : List ℕ) (at due : ℕ) → near ≡ Some (near_of k r number (net.CallReceived due)) → far ≡ Some (far_of k r (wait (Some number)) at user.CallReceived) → due ≡ at + 181 → at < t → t < at + 1 + wait (Some number) → t < ends r → IsRung wait ends k t near far
  Talks : (r : ℕ) (number : List ℕ) (at since : ℕ) → near ≡ Some (near_of k r number net.Active) → far ≡ Some (far_of k r (wait (Some number)) at (user.Active since)) → t < ends r → IsRung wait ends k t near far

-- what the exchange has of it: no timer gives it up at the next tick, and by its timer it rings no longer than its number may
abbrev pub IsRungState : ℕ → ℕ → NetState → Type 0
IsRungState seconds t (net.CallReceived due) = (t + 1 < due) × (t + 180 < due + seconds)
IsRungState seconds t net.Active = Unit {0}
IsRungState seconds t _ = ⊥

abbrev pub IsRungAs : (Option (List ℕ) → ℕ) → ℕ → NetOrigin → NetState → Type 0
IsRungAs wait t (Outward number) s = IsRungState (wait (Some number)) t s
IsRungAs wait t Inward s = ⊥

abbrev pub HasRung : (Option (List ℕ) → ℕ) → ℕ → Option PlainNetCall → Type 0
HasRung wait t None = Unit {0}
HasRung wait t (Some c) = IsRungAs wait t c.origin c.state

-- ---- a turn by its stages

-- all that is said comes
abbrev pub WholeTurn : (Option (List ℕ) → ℕ) → (Option PlainNetCall → Option PlainUserCall → Type 0) → (ℕ → ℕ) → ℕ → ℕ → Option PlainUserCall → Left PlainNetCall → Type 0
WholeTurn wait Leaves ends k t far called = TurnLeavesBy wait Leaves ends k t far called called.said ((asked_by wait k t far called.said).said ++ (passed_by wait k t far called.said).said) (left_in t called ((asked_by wait k t far called.said).said ++ (passed_by wait k t far called.said).said)).said

abbrev UnbrokenThere : ℕ → Option PlainUserCall → Type 0
UnbrokenThere u None = Unit {0}
UnbrokenThere u (Some x) = IsUnbrokenFar (user_second x u).next

turn_of : (wait : Option (List ℕ) → ℕ) (Leaves : Option PlainNetCall → Option PlainUserCall → Type 0) (ends : ℕ → ℕ) (k t : ℕ) (far : Option PlainUserCall) (called : Left PlainNetCall) (asked passed last : Left PlainUserCall) (left : Left PlainNetCall)
    → far_meets_all_by wait t k far called.said ≡ asked → far_passes (t + 1) asked.call ≡ passed → near_meets_all (t + 1) called.call (asked.said ++ passed.said) ≡ left → far_meets_all_by wait (t + 1) k passed.call left.said ≡ last
    → UnbrokenThere (t + 1) asked.call → Leaves left.call last.call → last.said ≡ [] → IsKeptOn ends (t + 1) called.call left.call → WholeTurn wait Leaves ends k t far called
turn_of wait Leaves ends k t far called asked passed last left e1 e2 e3 e4 unbroken leaves quiet kept =
    let heard : (asked_by wait k t far called.said).said ++ (passed_by wait k t far called.said).said ≡ asked.said ++ passed.said =
    ap (λ (a : Left PlainUserCall). a.said ++ (far_passes (t + 1) a.call).said) e1 ∙ ap (λ (p : Left PlainUserCall). asked.said ++ p.said) e2 in
    let l : left_in t called ((asked_by wait k t far called.said).said ++ (passed_by wait k t far called.said).said) ≡ left = ap (near_meets_all (t + 1) called.call) heard ∙ e3 in
    let p : passed_by wait k t far called.said ≡ passed = ap (λ (a : Left PlainUserCall). far_passes (t + 1) a.call) e1 ∙ e2 in
    let said = (left_in t called ((asked_by wait k t far called.said).said ++ (passed_by wait k t far called.said).said)).said in
    let z : last_by wait k t far called.said said ≡ last = ap (λ (q : Left PlainUserCall). far_meets_all_by wait (t + 1) k q.call said) p ∙ ap (λ (q : Left PlainNetCall). far_meets_all_by wait (t + 1) k passed.call q.said) l ∙ e4 in
    record {
      unbroken = λ x is. subst (UnbrokenThere (t + 1)) (sym (ap (λ (a : Left PlainUserCall). a.call) e1) ∙ is) unbroken;
      leaves = subst (λ v. Leaves v (last_by wait k t far called.said said).call) (sym (ap (λ (a : Left PlainNetCall). a.call) l)) (subst (λ v. Leaves left.call v) (sym (ap (λ (a : Left PlainUserCall). a.call) z)) leaves);
      quiet = ap (λ (a : Left PlainUserCall). a.said) z ∙ quiet;
      kept = subst (IsKeptOn ends (t + 1) called.call) (sym (ap (λ (a : Left PlainNetCall). a.call) l)) kept;
    }

-- a message of the call that is there
near_one : (u : ℕ) (c : PlainNetCall) (o : Outgoing) (step : Left PlainNetCall) → c.reference ≡ o.reference → near_stepped (net_message c (heard_from o) u) ≡ step → near_meets_all u (Some c) (o ∷ []) ≡ left_then step (left_as step.call)
near_one u c o step same is = ap (λ (a : Left PlainNetCall). left_then a (left_as a.call)) (near_named u c o same ∙ is)

far_one : (wait : Option (List ℕ) → ℕ) (u k : ℕ) (x : PlainUserCall) (o : Outgoing) (step : Left PlainUserCall) → x.reference ≡ o.reference → far_stepped (user_message x (heard_from o) u) ≡ step → far_meets_all_by wait u k (Some x) (o ∷ []) ≡ left_then step (left_as step.call)
far_one wait u k x o step same is = ap (λ (a : Left PlainUserCall). left_then a (left_as a.call)) (ap (λ b. if b then far_stepped (user_message x (heard_from o) u) else far_strays_by wait u k (Some x) o o.kind) (eq-eqb x.reference o.reference same) ∙ is)

-- ---- what is said

abbrev connect_on : ℕ → ℕ → Outgoing
connect_on r k = with_channel k (plain r true Connect)

abbrev alert_on : ℕ → ℕ → Outgoing
alert_on r k = with_channel k (plain r true Alerting)

abbrev connect_of : ℕ → Outgoing
connect_of r = plain r true Connect

abbrev ack_of : ℕ → Outgoing
ack_of r = plain r false ConnectAcknowledge

abbrev freed_of : ℕ → Outgoing
freed_of r = plain r true Release

abbrev gone_of : ℕ → Outgoing
gone_of r = plain r false ReleaseComplete

-- ---- a call that is offered: CONNECT and ALERTING name its channel

on_its_channel : (c : PlainNetCall) (k u : ℕ) (row other : Transition PlainNetCall) → near_stepped (if names_channel (Named k true) k then row else other) ≡ near_stepped row
on_its_channel c k u row other = ap (λ b. near_stepped (if b then row else other)) (eq-eqb k k refl)

offered_connects : (k r u due : ℕ) (number : List ℕ) (back : Bool) → near_stepped (net_message (near_of k r number (net.CallPresent (first_offer back) due)) (heard_from (connect_on r k)) u) ≡ record { call = Some (near_of k r number net.Active); said = ack_of r ∷ [] }
offered_connects k r u due number true = on_its_channel (near_of k r number (net.CallPresent (first_offer true) due)) k u _ _
offered_connects k r u due number false = on_its_channel (near_of k r number (net.CallPresent (first_offer false) due)) k u _ _

offered_rings : (k r u due : ℕ) (number : List ℕ) (back : Bool) → near_stepped (net_message (near_of k r number (net.CallPresent (first_offer back) due)) (heard_from (alert_on r k)) u) ≡ record { call = Some (near_of k r number (net.CallReceived (u + 180))); said = [] }
offered_rings k r u due number true = on_its_channel (near_of k r number (net.CallPresent (first_offer true) due)) k u _ _
offered_rings k r u due number false = on_its_channel (near_of k r number (net.CallPresent (first_offer false) due)) k u _ _

module _ (wait : Option (List ℕ) → ℕ) (most : ℕ) (least : (called : Option (List ℕ)) → wait called ≤ most) (few : most < 180) (ends : ℕ → ℕ) (k t : ℕ) where
  abbrev After : Option PlainNetCall → Option PlainUserCall → Type 0
  After near far = IsRung wait ends k (t + 1) near far

  -- none is there
  turn_none : WholeTurn wait After ends k t None (left_as None)
  turn_none = turn_of wait After ends k t None (left_as None) (left_as None) (left_as None) (left_as None) (left_as None) refl refl refl refl tt (Idle refl refl) refl tt

  -- one begins
  turn_begins : (r : ℕ) (number : List ℕ) (back : Bool) → t + 1 < ends r → WholeTurn wait After ends k t None (near_begun r number k back (t + 1))
  turn_begins r number back late = decide (seconds == 0)
      (λ none. turn_of wait After ends k t None (near_begun r number k back (t + 1)) asked
      (record { call = Some (far_of k r seconds t (user.ConnectRequest (t + 1 + 4))); said = connect_on r k ∷ [] })
      (left_as (Some (far_of k r seconds t (user.Active (t + 1)))))
      (record { call = Some (near_of k r number net.Active); said = ack_of r ∷ [] })
      refl
      (ap (λ b. far_stepped (if b then user_connects there (connect_on r k) (t + 1) else user_to there (Some (alert_on r k)) user.CallReceived)) none)
      (near_one (t + 1) here (connect_on r k) (record { call = Some (near_of k r number net.Active); said = ack_of r ∷ [] }) refl (offered_connects k r (t + 1) (t + 1 + 4) number back))
      (far_one wait (t + 1) k (far_of k r seconds t (user.ConnectRequest (t + 1 + 4))) (ack_of r) (left_as (Some (far_of k r seconds t (user.Active (t + 1))))) refl refl)
      taken (Talks r number t (t + 1) refl refl late) refl (λ _. refl))
      (λ some. turn_of wait After ends k t None (near_begun r number k back (t + 1)) asked
      (record { call = Some (far_of k r seconds t user.CallReceived); said = alert_on r k ∷ [] })
      (left_as (Some (far_of k r seconds t user.CallReceived)))
      (left_as (Some (near_of k r number (net.CallReceived (t + 1 + 180)))))
      refl
      (ap (λ b. far_stepped (if b then user_connects there (connect_on r k) (t + 1) else user_to there (Some (alert_on r k)) user.CallReceived)) some)
      (near_one (t + 1) here (alert_on r k) (left_as (Some (near_of k r number (net.CallReceived (t + 1 + 180))))) refl (offered_rings k r (t + 1) (t + 1 + 4) number back))
      refl
      taken (Rings r number t (t + 1 + 180) refl refl (omega arith) (omega arith) (rings_on seconds some) late) refl (λ _. refl))
    where
      seconds : ℕ
      seconds = wait (Some number)

      here : PlainNetCall
      here = net_offered r k number back (t + 1)

      there : PlainUserCall
      there = far_of k r (wait (Some number)) t user.CallPresent

      asked : Left PlainUserCall
      asked = left_as (Some (far_of k r (wait (Some number)) t user.CallPresent))

      taken : UnbrokenThere (t + 1) (Some (far_of k r (wait (Some number)) t user.CallPresent))
      taken = by_cases (wait (Some number) == 0) _ _ (λ (step : Transition PlainUserCall). IsUnbrokenFar step.next) (λ _. tt) (λ _. tt)

      rings_on : (n : ℕ) → (n == 0) ≡ false → t + 1 < t + 1 + n
      rings_on zero h = absurd (true≢false h)
      rings_on (suc n) h = omega arith

  -- the booking of one that rings or talks has ended: DISCONNECT, RELEASE, RELEASE COMPLETE
  turn_ends : (r seconds at : ℕ) (number : List ℕ) (q : UserState) → ends r ≤ t + 1
      → far_stepped (user_message (far_of k r seconds at q) (heard_from (stopped_of r)) t) ≡ record { call = Some (far_of k r seconds at (user.ReleaseRequest Once None (t + 4))); said = freed_of r ∷ [] }
      → WholeTurn wait After ends k t (Some (far_of k r seconds at q)) (record { call = Some (near_of k r number (net.DisconnectIndication 16 (t + 1 + 30))); said = stopped_of r ∷ [] })
  turn_ends r seconds at number q early stops =
      let freeing : PlainUserCall = far_of k r seconds at (user.ReleaseRequest Once None (t + 4)) in
      let later : nat_le (t + 4) (t + 1) ≡ false = lt-leb (t + 4) (t + 1) (omega arith) in
      turn_of wait After ends k t (Some (far_of k r seconds at q)) (record { call = Some (near_of k r number (net.DisconnectIndication 16 (t + 1 + 30))); said = stopped_of r ∷ [] })
      (record { call = Some freeing; said = freed_of r ∷ [] }) (left_as (Some freeing)) (left_as None) (record { call = None; said = gone_of r ∷ [] })
      (far_one wait t k (far_of k r seconds at q) (stopped_of r) (record { call = Some freeing; said = freed_of r ∷ [] }) refl stops)
      (ap (λ b. far_stepped (if b then user_release_due freeing (t + 1) Once None else user_same freeing None)) later)
      (near_one (t + 1) (near_of k r number (net.DisconnectIndication 16 (t + 1 + 30))) (freed_of r) (record { call = None; said = gone_of r ∷ [] }) refl refl)
      (far_one wait (t + 1) k freeing (gone_of r) (left_as None) refl refl)
      (subst (λ b. IsUnbrokenFar (if b then user_release_due freeing (t + 1) Once None else user_same freeing None).next) (sym later) tt)
      (Idle refl refl) refl (λ late. absurd (omega (arith, late, early)))

  -- one that rings
  turn_rings : (r at due : ℕ) (number : List ℕ) → due ≡ at + 181 → at < t → t < at + 1 + wait (Some number) → (called : Left PlainNetCall) → called ≡ near_stepped (net_second (near_of k r number (net.CallReceived due)) (t + 1) (ends r)) → WholeTurn wait After ends k t (Some (far_of k r (wait (Some number)) at user.CallReceived)) called
  turn_rings r at due number since rung rings called is = decide (nat_le (ends r) (t + 1))
      (λ ended.
      let early = leb-true (ends r) (t + 1) ended in
      subst Turn (sym (is ∙ ap near_stepped (tick_ends here (t + 1) (ends r) refl early))) (turn_ends r seconds at number user.CallReceived early refl))
      (λ goes.
      let late = leb-false (ends r) (t + 1) goes in
      let soon : t + 1 < due = (let low = least (Some number) in omega (arith, since, rings, low, few)) in
      subst Turn (sym (is ∙ ap near_stepped (tick_goes here (t + 1) (ends r) refl late ∙ ap (λ b. if b then net_disconnects here 102 (t + 1) else net_same here None) (lt-leb due (t + 1) soon))))
      (decide (nat_le (at + 1 + seconds) (t + 1))
      (λ now. turn_of wait After ends k t (Some there) (left_as (Some here)) (left_as (Some there))
      (record { call = Some (far_of k r seconds at (user.ConnectRequest (t + 1 + 4))); said = connect_of r ∷ [] })
      (left_as (Some (far_of k r seconds at (user.Active (t + 1)))))
      (record { call = Some (near_of k r number net.Active); said = ack_of r ∷ [] })
      refl
      (ap (λ b. far_stepped (if b then user_connects there (connect_of r) (t + 1) else user_same there None)) now)
      (near_one (t + 1) here (connect_of r) (record { call = Some (near_of k r number net.Active); said = ack_of r ∷ [] }) refl refl)
      (far_one wait (t + 1) k (far_of k r seconds at (user.ConnectRequest (t + 1 + 4))) (ack_of r) (left_as (Some (far_of k r seconds at (user.Active (t + 1))))) refl refl)
      answers (Talks r number at (t + 1) refl refl late) refl (λ _. refl))
      (λ stays. turn_of wait After ends k t (Some there) (left_as (Some here)) (left_as (Some there)) (left_as (Some there)) (left_as (Some there)) (left_as (Some here))
      refl
      (ap (λ b. far_stepped (if b then user_connects there (connect_of r) (t + 1) else user_same there None)) stays)
      refl refl answers (Rings r number at due refl refl since (omega (arith, rung)) (leb-false (at + 1 + seconds) (t + 1) stays) late) refl (λ _. refl))))
    where
      seconds : ℕ
      seconds = wait (Some number)

      here : PlainNetCall
      here = near_of k r number (net.CallReceived due)

      there : PlainUserCall
      there = far_of k r (wait (Some number)) at user.CallReceived

      Turn : Left PlainNetCall → Type 0
      Turn x = WholeTurn wait After ends k t (Some (far_of k r (wait (Some number)) at user.CallReceived)) x

      answers : UnbrokenThere (t + 1) (Some (far_of k r (wait (Some number)) at user.CallReceived))
      answers = by_cases (nat_le (at + 1 + wait (Some number)) (t + 1)) _ _ (λ (step : Transition PlainUserCall). IsUnbrokenFar step.next) (λ _. tt) (λ _. tt)

  -- one that is up
  turn_talks : (r at since : ℕ) (number : List ℕ) (called : Left PlainNetCall) → called ≡ near_stepped (net_second (near_of k r number net.Active) (t + 1) (ends r)) → WholeTurn wait After ends k t (Some (far_of k r (wait (Some number)) at (user.Active since))) called
  turn_talks r at since number called is = decide (nat_le (ends r) (t + 1))
      (λ ended.
      let early = leb-true (ends r) (t + 1) ended in
      subst Turn (sym (is ∙ ap near_stepped (tick_ends here (t + 1) (ends r) refl early))) (turn_ends r (wait (Some number)) at number (user.Active since) early refl))
      (λ goes.
      let late = leb-false (ends r) (t + 1) goes in
      subst Turn (sym (is ∙ ap near_stepped (tick_goes here (t + 1) (ends r) refl late)))
      (turn_of wait After ends k t (Some there) (left_as (Some here)) (left_as (Some there)) (left_as (Some there)) (left_as (Some there)) (left_as (Some here)) refl refl refl refl tt (Talks r number at since refl refl late) refl (λ _. refl)))
    where
      here : PlainNetCall
      here = near_of k r number net.Active

      there : PlainUserCall
      there = far_of k r (wait (Some number)) at (user.Active since)

      Turn : Left PlainNetCall → Type 0
      Turn x = WholeTurn wait After ends k t (Some (far_of k r (wait (Some number)) at (user.Active since))) x

  -- any
  pub rung_whole : (back : Bool) (near : Option PlainNetCall) (far : Option PlainUserCall) (called : Left PlainNetCall) → IsRung wait ends k t near far → NearTicks ends back k (t + 1) near called → WholeTurn wait After ends k t far called
  rung_whole back near far called (Idle n f) ticks = subst (λ x. WholeTurn wait After ends k t x called) (sym f) (none_there (subst (λ v. NearTicks ends back k (t + 1) v called) n ticks))
    where
      none_there : NearTicks ends back k (t + 1) None called → WholeTurn wait After ends k t None called
      none_there (inl is) = subst (WholeTurn wait After ends k t None) (sym is) turn_none
      none_there (inr p) = subst (WholeTurn wait After ends k t None) (sym p.3) (turn_begins p.0 p.1 back p.2)
  rung_whole back near far called (Rings r number at due n f since rung rings late) ticks = subst (λ x. WholeTurn wait After ends k t x called) (sym f) (turn_rings r at due number since rung rings called (subst (λ v. NearTicks ends back k (t + 1) v called) n ticks))
  rung_whole back near far called (Talks r number at since n f late) ticks = subst (λ x. WholeTurn wait After ends k t x called) (sym f) (turn_talks r at since number called (subst (λ v. NearTicks ends back k (t + 1) v called) n ticks))

  -- a tick breaks none, and keeps one whose booking goes on
  abbrev IsCalled : Option PlainNetCall → Type 0
  IsCalled None = Unit {0}
  IsCalled (Some c) = IsUnbrokenNear (net_second c (t + 1) (ends c.reference)).next × IsKeptOn ends (t + 1) (Some c) (near_left (net_second c (t + 1) (ends c.reference)).next)

  abbrev IsSound : ℕ → Transition PlainNetCall → Type 0
  IsSound r step = IsUnbrokenNear step.next × IsThere r (near_left step.next)

  called_by : (r : ℕ) (number : List ℕ) (s : NetState) → IsSound r (net_timer (near_of k r number s) (t + 1) s) → IsCalled (Some (near_of k r number s))
  called_by r number s sound =
      let p : IsSound r (net_second (near_of k r number s) (t + 1) (ends r)) = by_cases (not (net_is_clearing s) && nat_le (ends r) (t + 1)) (net_disconnects (near_of k r number s) 16 (t + 1)) (net_timer (near_of k r number s) (t + 1) s) (IsSound r) (λ _. (tt, refl)) (λ _. sound) in
      (p.0, λ late. p.1)

  rung_at : (near : Option PlainNetCall) (far : Option PlainUserCall) → IsRung wait ends k t near far → IsCalled near
  rung_at near far (Idle n f) = subst IsCalled (sym n) tt
  rung_at near far (Rings r number at due n f since rung rings late) = subst IsCalled (sym n) (called_by r number (net.CallReceived due) (by_cases (nat_le due (t + 1)) (net_disconnects (near_of k r number (net.CallReceived due)) 102 (t + 1)) (net_same (near_of k r number (net.CallReceived due)) None) (IsSound r) (λ _. (tt, refl)) (λ _. (tt, refl))))
  rung_at near far (Talks r number at since n f late) = subst IsCalled (sym n) (called_by r number net.Active (tt, refl))

  pub rung_called : (c : PlainNetCall) (far : Option PlainUserCall) → IsRung wait ends k t (Some c) far → IsUnbrokenNear (net_second c (t + 1) (ends c.reference)).next × IsKeptOn ends (t + 1) (Some c) (near_left (net_second c (t + 1) (ends c.reference)).next)
  rung_called c far h = rung_at (Some c) far h

  pub rung_near : (near : Option PlainNetCall) (far : Option PlainUserCall) → IsRung wait ends k t near far → HasRung wait t near
  rung_near near far (Idle n f) = subst (HasRung wait t) (sym n) tt
  rung_near near far (Rings r number at due n f since rung rings late) = subst (HasRung wait t) (sym n) (let low = least (Some number) in (omega (arith, since, rings, low, few), omega (arith, since, rings)))
  rung_near near far (Talks r number at since n f late) = subst (HasRung wait t) (sym n) tt
