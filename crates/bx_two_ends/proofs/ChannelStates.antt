-- The two ends of a channel between two seconds: what there is left of a call at both ends, whatever of its messages was lost with the link.
use Rattle.std.proofs.Common.{◌≡◌, ℕ, ◌+◌, ◌≤◌, ◌<◌, false, List, [], Option, Some, None, refl}
use Rattle.bx_q931.specs.Outgoing.{Outgoing}
use Rattle.bx_calls.specs.NetTable.{net_flag}
use Rattle.bx_calls.specs.UserTable.{user_second}
use Rattle.bx_calls.specs.PlainCalls.{PlainNetCall, PlainUserCall}
use Rattle.bx_calls.specs.declared.net_state.NetState.{NetState}
use Rattle.bx_calls.specs.declared.net_state.NetState.TheVariants as net
use Rattle.bx_calls.specs.declared.net_state.Offer.TheVariants.{PutOff, Unlinked}
use Rattle.bx_calls.specs.declared.times.Times.TheVariants.{NotYet, Once}
use Rattle.bx_calls.specs.declared.transition.Next.{Next}
use Rattle.bx_calls.specs.declared.transition.Next.TheVariants.{Broken}
use Rattle.bx_calls.specs.declared.user_state.UserState.{UserState}
use Rattle.bx_calls.specs.declared.user_state.UserState.TheVariants as user
use Rattle.bx_two_ends.proofs.OneChannel.{Left, none_waits, far_meets_all_by, far_passes, near_meets_all}
use Rattle.bx_two_ends.proofs.FarTurns.{IsAnswering}

-- ---- a call on channel k that the exchange began, at each end

pub record IsNearCall (k : ℕ) (c : PlainNetCall) : Type 0 where
  pub channel : c.channel ≡ k
  pub origin : net_flag c.origin ≡ false

pub record IsFarCall (k : ℕ) (x : PlainUserCall) : Type 0 where
  pub channel : x.channel ≡ k
  pub origin : IsAnswering x.origin

-- ---- kinds of states

-- N6
abbrev pub IsOffering : NetState → Type 0
IsOffering (net.CallPresent offer due) = Unit {0}
IsOffering _ = ⊥

-- N10, whether the user is asked or not
abbrev pub IsTalkingState : NetState → Type 0
IsTalkingState net.Active = Unit {0}
IsTalkingState (net.Enquiring asked due) = Unit {0}
IsTalkingState _ = ⊥

-- N12 and N19
abbrev pub IsClearingState : NetState → Type 0
IsClearingState (net.DisconnectIndication cause due) = Unit {0}
IsClearingState (net.ReleaseRequest sent cause due) = Unit {0}
IsClearingState _ = ⊥

-- U8
abbrev pub IsConnecting : UserState → Type 0
IsConnecting (user.ConnectRequest due) = Unit {0}
IsConnecting _ = ⊥

-- U8 and U10
abbrev pub IsUpThere : UserState → Type 0
IsUpThere (user.ConnectRequest due) = Unit {0}
IsUpThere (user.Active since) = Unit {0}
IsUpThere _ = ⊥

-- U19
abbrev pub IsReleasing : UserState → Type 0
IsReleasing (user.ReleaseRequest sent cause due) = Unit {0}
IsReleasing _ = ⊥

-- ---- the two ends of channel k at moment t, where each reference has the end of its booking: P says more of the exchange's state, Q of
-- the far end's

pub data IsPair (P : NetState → Type 0) (Q : UserState → Type 0) (ends : ℕ → ℕ) (k t : ℕ) (near : Option PlainNetCall) (far : Option PlainUserCall) : Type 0 where
  -- nothing
  Nothing : near ≡ None → far ≡ None → IsPair P Q ends k t near far
  -- the far end still releases a call that is over here
  LeftOver : (x : PlainUserCall) → near ≡ None → far ≡ Some x → IsFarCall k x → IsReleasing x.state → Q x.state → ends x.reference ≤ t → IsPair P Q ends k t near far
  -- a call is offered, of which the far end knows nothing
  Offered : (c : PlainNetCall) → near ≡ Some c → far ≡ None → IsNearCall k c → IsOffering c.state → P c.state → t < ends c.reference → IsPair P Q ends k t near far
  -- or releases another
  OfferedBehind : (c : PlainNetCall) (x : PlainUserCall) → near ≡ Some c → far ≡ Some x → IsNearCall k c → IsFarCall k x → IsOffering c.state → P c.state → IsReleasing x.state → Q x.state → t < ends c.reference → ends x.reference ≤ t → IsPair P Q ends k t near far
  -- or has connected it
  Connected : (c : PlainNetCall) (x : PlainUserCall) → near ≡ Some c → far ≡ Some x → IsNearCall k c → IsFarCall k x → x.reference ≡ c.reference → IsOffering c.state → P c.state → IsConnecting x.state → Q x.state → t < ends c.reference → IsPair P Q ends k t near far
  -- a call that is up here, and there, or as good as
  Talks : (c : PlainNetCall) (x : PlainUserCall) → near ≡ Some c → far ≡ Some x → IsNearCall k c → IsFarCall k x → x.reference ≡ c.reference → IsTalkingState c.state → P c.state → IsUpThere x.state → Q x.state → t < ends c.reference → IsPair P Q ends k t near far
  -- a call whose booking has ended is cleared here: the far end knows nothing of it
  Cleared : (c : PlainNetCall) → near ≡ Some c → far ≡ None → IsNearCall k c → IsClearingState c.state → P c.state → ends c.reference ≤ t → IsPair P Q ends k t near far
  -- or has it up
  ClearedAlone : (c : PlainNetCall) (x : PlainUserCall) → near ≡ Some c → far ≡ Some x → IsNearCall k c → IsFarCall k x → x.reference ≡ c.reference → IsClearingState c.state → P c.state → IsUpThere x.state → Q x.state → ends c.reference ≤ t → IsPair P Q ends k t near far
  -- or releases it, or another
  ClearedBoth : (c : PlainNetCall) (x : PlainUserCall) → near ≡ Some c → far ≡ Some x → IsNearCall k c → IsFarCall k x → IsClearingState c.state → P c.state → IsReleasing x.state → Q x.state → ends c.reference ≤ t → ends x.reference ≤ t → IsPair P Q ends k t near far

-- whatever was lost
abbrev pub IsLoose : (ℕ → ℕ) → ℕ → ℕ → Option PlainNetCall → Option PlainUserCall → Type 0
IsLoose ends k t near far = IsPair (λ s. Unit {0}) (λ s. Unit {0}) ends k t near far

-- after a second without a link to moment t, at each end
abbrev pub LostNear : ℕ → NetState → Type 0
LostNear t (net.CallPresent Unlinked due) = due ≡ t + 1
LostNear t (net.Enquiring NotYet due) = due ≡ t + 1
LostNear t (net.DisconnectIndication cause due) = due ≡ t + 1
LostNear t (net.ReleaseRequest NotYet cause due) = due ≡ t + 1
LostNear t _ = ⊥

abbrev pub LostFar : ℕ → UserState → Type 0
LostFar t (user.ConnectRequest due) = due ≡ t + 4
LostFar t (user.Active since) = Unit {0}
LostFar t (user.ReleaseRequest NotYet cause due) = due ≡ t + 1
LostFar t _ = ⊥

abbrev pub IsLost : (ℕ → ℕ) → ℕ → ℕ → Option PlainNetCall → Option PlainUserCall → Type 0
IsLost ends k t near far = IsPair (LostNear t) (LostFar t) ends k t near far

-- ---- at moment t, after seconds with a whole link, of which the first came behind moment b

-- N6, to be offered again in the next second
abbrev pub IsPutOff : ℕ → NetState → Type 0
IsPutOff t (net.CallPresent PutOff due) = due ≡ t + 1
IsPutOff t _ = ⊥

-- N19, whose RELEASE was sent in the first of these seconds
abbrev pub IsReleased : ℕ → NetState → Type 0
IsReleased b (net.ReleaseRequest Once cause due) = due ≡ b + 5
IsReleased b _ = ⊥

abbrev pub IsActiveHere : NetState → Type 0
IsActiveHere net.Active = Unit {0}
IsActiveHere _ = ⊥

abbrev pub IsActiveThere : UserState → Type 0
IsActiveThere (user.Active since) = Unit {0}
IsActiveThere _ = ⊥

pub active_is : (s : NetState) → IsActiveHere s → s ≡ net.Active
active_is net.Active h = refl
active_is net.OutgoingCallProceeding h = absurd h
active_is (net.CallPresent offer due) h = absurd h
active_is (net.IncomingCallProceeding due) h = absurd h
active_is (net.CallReceived due) h = absurd h
active_is (net.Enquiring asked due) h = absurd h
active_is (net.DisconnectIndication cause due) h = absurd h
active_is (net.ReleaseRequest sent cause due) h = absurd h

pub data IsSettling (ends : ℕ → ℕ) (k b t : ℕ) (near : Option PlainNetCall) (far : Option PlainUserCall) : Type 0 where
  Idle : near ≡ None → far ≡ None → IsSettling ends k b t near far
  Talking : (c : PlainNetCall) (x : PlainUserCall) → near ≡ Some c → far ≡ Some x → IsNearCall k c → IsFarCall k x → x.reference ≡ c.reference → IsActiveHere c.state → IsActiveThere x.state → t < ends c.reference → IsSettling ends k b t near far
  Waiting : (c : PlainNetCall) → near ≡ Some c → far ≡ None → IsNearCall k c → IsPutOff t c.state → t ≡ b + 1 → t < ends c.reference → IsSettling ends k b t near far
  Clearing : (c : PlainNetCall) → near ≡ Some c → far ≡ None → IsNearCall k c → IsReleased b c.state → t < b + 5 → ends c.reference ≤ t → IsSettling ends k b t near far

-- ---- what a second does to a call

abbrev pub IsUnbrokenNear : Next PlainNetCall → Type 0
IsUnbrokenNear Broken = ⊥
IsUnbrokenNear _ = Unit {0}

abbrev pub IsUnbrokenFar : Next PlainUserCall → Type 0
IsUnbrokenFar Broken = ⊥
IsUnbrokenFar _ = Unit {0}

-- the call of this reference is there
abbrev pub IsThere : ℕ → Option PlainNetCall → Type 0
IsThere r None = ⊥
IsThere r (Some c) = c.reference ≡ r

-- a call whose booking goes on at moment t is there afterwards
abbrev pub IsKeptOn : (ℕ → ℕ) → ℕ → Option PlainNetCall → Option PlainNetCall → Type 0
IsKeptOn ends t None after = Unit {0}
IsKeptOn ends t (Some c) after = t < ends c.reference → IsThere c.reference after

-- ---- a turn from moment t on: the exchange's tick left called, and of what was said these come: to the far end, to the exchange, and to the
-- far end again

abbrev pub asked_by : (Option (List ℕ) → ℕ) → ℕ → ℕ → Option PlainUserCall → List Outgoing → Left PlainUserCall
asked_by wait k t far come = far_meets_all_by wait t k far come

abbrev pub passed_by : (Option (List ℕ) → ℕ) → ℕ → ℕ → Option PlainUserCall → List Outgoing → Left PlainUserCall
passed_by wait k t far come = far_passes (t + 1) (far_meets_all_by wait t k far come).call

abbrev pub left_in : ℕ → Left PlainNetCall → List Outgoing → Left PlainNetCall
left_in t called received = near_meets_all (t + 1) called.call received

abbrev pub last_by : (Option (List ℕ) → ℕ) → ℕ → ℕ → Option PlainUserCall → List Outgoing → List Outgoing → Left PlainUserCall
last_by wait k t far come replies = far_meets_all_by wait (t + 1) k (passed_by wait k t far come).call replies

pub record TurnLeavesBy (wait : Option (List ℕ) → ℕ) (Leaves : Option PlainNetCall → Option PlainUserCall → Type 0) (ends : ℕ → ℕ) (k t : ℕ) (far : Option PlainUserCall) (called : Left PlainNetCall) (come received replies : List Outgoing) : Type 0 where
  -- T308 of the far end does not break a call
  pub unbroken : (x : PlainUserCall) → (asked_by wait k t far come).call ≡ Some x → IsUnbrokenFar (user_second x (t + 1)).next
  pub leaves : Leaves (left_in t called received).call (last_by wait k t far come replies).call
  pub quiet : (last_by wait k t far come replies).said ≡ []
  pub kept : IsKeptOn ends (t + 1) called.call (left_in t called received).call

-- the same where none waits
abbrev pub asked_in : ℕ → ℕ → Option PlainUserCall → List Outgoing → Left PlainUserCall
asked_in k t far come = asked_by none_waits k t far come

abbrev pub passed_in_turn : ℕ → ℕ → Option PlainUserCall → List Outgoing → Left PlainUserCall
passed_in_turn k t far come = passed_by none_waits k t far come

abbrev pub last_in : ℕ → ℕ → Option PlainUserCall → List Outgoing → List Outgoing → Left PlainUserCall
last_in k t far come replies = last_by none_waits k t far come replies

abbrev pub TurnLeaves : (Option PlainNetCall → Option PlainUserCall → Type 0) → (ℕ → ℕ) → ℕ → ℕ → Option PlainUserCall → Left PlainNetCall → List Outgoing → List Outgoing → List Outgoing → Type 0
TurnLeaves Leaves ends k t far called come received replies = TurnLeavesBy none_waits Leaves ends k t far called come received replies
