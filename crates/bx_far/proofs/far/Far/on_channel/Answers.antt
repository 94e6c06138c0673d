use Rattle.std.proofs.Common.{◌≡◌, ◌<◌, ℕ, Some, None, length, arith, sym, subst, ap, ap₂, ◌∙◌, option_map}
use Rattle.bx_calls.specs.PlainCalls.{PlainUserCall}
use Rattle.bx_calls.specs.States.{user_state}
use Rattle.bx_calls.specs.declared.call_state.CallState.{CallState}
use Rattle.bx_far.specs.FarDay.{FarDay, holder}
use Rattle.bx_far.specs.Inside.{call_slot_at}
use Rattle.bx_far.proofs.Kept.{slot_read, holder_slot}
use Rattle.bx_far.proofs.far.Far.on_channel.Goals as goal

abbrev told : PlainUserCall → ℕ × CallState
told call = (call.reference, user_state call.state)

pub returns-in-Some : goal.returns-in-Some
returns-in-Some c =
    let d = c.args.self.now in
    let slots = c.self.inside.calls in
    let lt : c.number.result < length slots = omega (arith, c.number.ensures.channel.1, c.self.invariant.size) in
    let here : call_slot_at slots c.args.channel ≡ c.index-self-number.result = subst (λ n. call_slot_at slots n ≡ c.index-self-number.result) c.number.ensures.value (slot_read slots c.number.result c.index-self-number.result c.index-self-number.is lt) in
    let held : holder d c.args.channel ≡ Some c.in-Some.call = holder_slot d slots c.args.channel (ap (λ (x : FarDay). x.calls) c.self.view_is) c.self.invariant.seated ∙ here ∙ c.index-self-number.is ∙ c.in-Some.is in
    ap₂ (λ (r : ℕ) (s : CallState). Some (r, s)) c.reference.ensures.value c.state.ensures ∙ sym (ap (option_map told) held)

pub returns-in-None : goal.returns-in-None
returns-in-None c =
    let d = c.args.self.now in
    let slots = c.self.inside.calls in
    let lt : c.number.result < length slots = omega (arith, c.number.ensures.channel.1, c.self.invariant.size) in
    let here : call_slot_at slots c.args.channel ≡ c.index-self-number.result = subst (λ n. call_slot_at slots n ≡ c.index-self-number.result) c.number.ensures.value (slot_read slots c.number.result c.index-self-number.result c.index-self-number.is lt) in
    let held : holder d c.args.channel ≡ None = holder_slot d slots c.args.channel (ap (λ (x : FarDay). x.calls) c.self.view_is) c.self.invariant.seated ∙ here ∙ c.index-self-number.is ∙ c.in-None.is in
    sym (ap (option_map told) held)
