-- The rows of a call, but for those of one that is asked for, are the same by all rules.
use Rattle.std.proofs.Common.{◌≡◌, ℕ, Bool, true, false, if◌then◌else◌, refl}
use Rattle.bx_q931.specs.Messages.{PlainMessage}
use Rattle.bx_q931.specs.declared.kind.Kind.{Kind}
use Rattle.bx_calls.specs.declared.net_state.NetState.{NetState}
use Rattle.bx_calls.specs.declared.net_state.NetState.TheVariants.{OutgoingCallProceeding, CallPresent, IncomingCallProceeding, CallReceived, Active, Enquiring, DisconnectIndication, ReleaseRequest}
use Rattle.bx_events.specs.declared.rules.Rules.{Rules}
use Rattle.bx_calls.specs.Hearing.{heard_under, heard_of}
use Rattle.bx_calls.specs.NetTable.{net_row}
use Rattle.bx_calls.specs.PlainCalls.{PlainNetCall}

pub row_by_rules : (rules : Rules) (c : PlainNetCall) (p : PlainMessage) (t : ℕ) (s : NetState) (k : Kind) → net_row c (heard_of p) t s k ≡ net_row c (heard_under rules p) t s k
row_by_rules rules c p t OutgoingCallProceeding k = refl
row_by_rules rules c p t (CallPresent offer due) k = refl
row_by_rules rules c p t (IncomingCallProceeding due) k = refl
row_by_rules rules c p t (CallReceived due) k = refl
row_by_rules rules c p t Active k = refl
row_by_rules rules c p t (Enquiring asked due) k = refl
row_by_rules rules c p t (DisconnectIndication cause due) k = refl
row_by_rules rules c p t (ReleaseRequest sent cause due) k = refl

-- the last of six
pub chosen_last : {A : Type 0} (a b d e f : Bool) (x y z v u w r : A) → a ≡ false → b ≡ false → d ≡ false → e ≡ false → f ≡ false → r ≡ w → r ≡ (if a then x else if b then y else if d then z else if e then v else if f then u else w)
chosen_last false false false false false x y z v u w r pa pb pd pe pf last = last
chosen_last true b d e f x y z v u w r pa pb pd pe pf last = cc
chosen_last false true d e f x y z v u w r pa pb pd pe pf last = cc
chosen_last false false true e f x y z v u w r pa pb pd pe pf last = cc
chosen_last false false false true f x y z v u w r pa pb pd pe pf last = cc
chosen_last false false false false true x y z v u w r pa pb pd pe pf last = cc
