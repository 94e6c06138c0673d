use Rattle.std.proofs.Common.{◌≡◌, ◌≢◌, None, true, sym, subst, ap, ap₂, ◌∙◌, slice_set}
use Rattle.bx_calls.specs.PlainCalls.{PlainUserCall}
use Rattle.bx_calls.specs.Saying.{setup_of}
use Rattle.bx_calls.specs.UserTable.{user_calling}
use Rattle.bx_channels.specs.Marks.{is_marked}
use Rattle.bx_far.specs.FarDay.{Begun, begin_call}
use Rattle.bx_far.specs.Inside.{call_slot_at}
use Rattle.bx_far.proofs.Passing.{turn_begun, begin_value}
use Rattle.bx_far.proofs.begun_tick.BegunTick.begin.Goals as goal

pub invariant_of-self : goal.invariant_of-self
invariant_of-self c =
    let x = c.self.inside in
    let n = c.number-slot.result in
    let same : n ≡ c.args.channel = c.number-slot.ensures.value in
    let on : c.calling-call.result.0.channel ≡ n = ap (λ (k : PlainUserCall). k.channel) c.calling-call.ensures.call ∙ sym same in
    let blocked = c.with-self-inside.result in
    turn_begun x.calls x.said x.blocked blocked x.next n c.calling-call.result.0 c.calling-call.result.1 c.number-slot.ensures.channel on
    (ap (is_marked blocked) same ∙ c.with-self-inside.ensures.added)
    (λ k ne. c.with-self-inside.ensures.others k (subst (λ m. k ≢ m) same ne))
    c.self.invariant

pub returns : goal.returns
returns c =
    let x = c.self.inside in
    let t = c.args.moment in
    let n = c.number-slot.result in
    let same : n ≡ c.args.channel = c.number-slot.ensures.value in
    let free : call_slot_at x.calls n ≡ None = c.self.invariant.free n (ap (is_marked x.blocked) same ∙ ap (λ (b : Begun). is_marked b.blocked c.args.channel) c.self.view_is ∙ c.requires.free) in
    let call = subst (λ k. c.calling-call.result.0 ≡ user_calling x.next k c.args.number t) (sym same) c.calling-call.ensures.call in
    let out = subst (λ k. c.calling-call.result.1 ≡ setup_of x.next k c.args.number) (sym same) c.calling-call.ensures.out in
    let blocked = subst (λ k. c.with-self-inside.result ≡ slice_set x.blocked k true) (sym same) c.with-self-inside.ensures.value in
    begin_value t c.args.number n x.calls x.said x.blocked c.with-self-inside.result x.next c.calling-call.result.0 c.calling-call.result.1 c.self.invariant.size c.number-slot.ensures.channel c.self.invariant.seated free call out blocked
    ∙ ap₂ (λ k (b : Begun). begin_call t c.args.number k b) same c.self.view_is
