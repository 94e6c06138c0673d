-- What is done on a live line with a message that names no live call.
use Rattle.std.proofs.Common.{◌≡◌, ℕ, Bool, true, false, List, Option, Some, None, refl, sym, ap, ◌∙◌, is_some, if◌then◌else◌}
use Rattle.std.proofs.lemmas.Bool.{false≢true}
use Rattle.bx_calls.specs.PlainCalls.{PlainUserCall}
use Rattle.bx_calls.specs.Said.{Said}
use Rattle.bx_calls.specs.Sending.{Answered}
use Rattle.bx_calls.specs.UserTable.{user_second}
use Rattle.bx_calls.specs.declared.user_state.Policy.{Policy}
use Rattle.bx_far.specs.FarDay.{FarDay, first_call, far_names, far_follow, far_stray}
use Rattle.bx_far.specs.LiveReceipts.{is_at_once, far_ticks_now, far_offered_live, far_received_live, far_receive_live}
use Rattle.bx_far.specs.Policies.{policy_of}

pub names_none : (d : FarDay) (m : Said) (called : Option (List ℕ)) → first_call (far_names m) d.calls ≡ None
    → far_receive_live d m called ≡ far_offered_live m (policy_of d.script called) (far_stray d m called m.heard.kind)
names_none d m called none = ap (far_received_live d m called) none

pub not_there : (o : Option PlainUserCall) → is_some o ≡ false → o ≡ None
not_there None e = refl
not_there (Some call) e = absurd (false≢true (sym e))

-- the same, where it was looked for among calls that are those of the day
pub found_none : (d v : FarDay) (m : Said) (called : Option (List ℕ)) (o : Option PlainUserCall) → v ≡ d → o ≡ first_call (far_names m) v.calls → is_some o ≡ false
    → far_receive_live d m called ≡ far_offered_live m (policy_of d.script called) (far_stray d m called m.heard.kind)
found_none d v m called o same found none = names_none d m called (ap (λ (y : FarDay). first_call (far_names m) y.calls) (sym same) ∙ (sym found ∙ not_there o none))

module _ (m : Said) (policy : Policy) (done : Answered FarDay) where
  pub waits : is_at_once policy ≡ false → far_offered_live m policy done ≡ done
  waits later = ap (λ (b : Bool). if b then far_ticks_now done (first_call (far_names m) done.day.calls) else done) later

  either_way : (b : Bool) → (if b then done else done) ≡ done
  either_way true = refl
  either_way false = refl

  pub offers_none : first_call (far_names m) done.day.calls ≡ None → far_offered_live m policy done ≡ done
  offers_none none = ap (λ (o : Option PlainUserCall). if is_at_once policy then far_ticks_now done o else done) none ∙ either_way (is_at_once policy)

  pub offers : (call : PlainUserCall) → is_at_once policy ≡ true → first_call (far_names m) done.day.calls ≡ Some call → far_offered_live m policy done ≡ far_follow done.day call.channel (user_second call done.day.moment)
  offers call now found =
      ap (λ (b : Bool). if b then far_ticks_now done (first_call (far_names m) done.day.calls) else done) now
      ∙ ap (far_ticks_now done) found
