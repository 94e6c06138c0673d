use Rattle.std.proofs.Common.{◌≡◌, Bool, List, Some, None, true, false, arith, sym, subst, ap, ◌∙◌, slice_set}
use Rattle.bx_channels.specs.ChannelNumbers.{IsChannel}
use Rattle.bx_q931.specs.Values.{called_of}
use Rattle.bx_calls.specs.Said.{said_of}
use Rattle.bx_calls.specs.PlainCalls.{PlainUserCall}
use Rattle.bx_calls.specs.Sending.{Answered}
use Rattle.bx_calls.specs.UserTable.{user_second}
use Rattle.bx_calls.specs.declared.transition.Transition.{Transition}
use Rattle.bx_far.specs.FarDay.{FarDay, first_call, far_names, far_follow, far_stray, settle_calls, settle_maintenance}
use Rattle.bx_far.specs.LiveReceipts.{is_at_once}
use Rattle.bx_far.specs.Policies.{policy_of}
use Rattle.bx_far.specs.Seats.{live_calls, IsFar}
use Rattle.bx_far.specs.Inside.{live_call_of}
use Rattle.bx_far.proofs.Seats.{seat_at, settle_is}
use Rattle.bx_far.proofs.Keeping.{Keeps, seat_of, second_keeps}
use Rattle.bx_far.proofs.Kept.{far_with}
use Rattle.bx_far.proofs.LiveReceipts.{found_none, waits, offers_none, offers}
use Rattle.bx_far.proofs.far.Far.receive_call_live.Goals as goal

pub returns-then-not-is_at_once-clause-day : goal.returns-then-not-is_at_once-clause-day
returns-then-not-is_at_once-clause-day c =
    let d = c.args.self.now in
    let m = said_of c.args.reference c.args.flag c.args.message.now in
    let called = called_of c.args.message.now in
    let x = c.self.inside in
    let v : FarDay = record { script = x.script; moment = x.moment; calls = live_calls x.calls; maintenance = x.maintenance; next = x.next } in
    let done = far_stray d m called m.heard.kind in
    let policy = policy_of d.script called in
    let heard = found_none d v m called c.first_named.result c.self.view_is (c.first_named.ensures.first c.args.message.now) (sym c.is_some.ensures ∙ c.if-is_some.false) in
    let says : c.policy_of-policy.result ≡ policy = c.policy_of-policy.ensures ∙ (ap (policy_of x.script) c.called.ensures ∙ ap (λ (y : FarDay). policy_of y.script called) c.self.view_is) in
    let later : is_at_once policy ≡ false = ap is_at_once (sym says) ∙ (sym c.is_at_once.ensures ∙ c.if-not-is_at_once.true) in
    c.stray-reply.ensures.day ∙ sym (ap (λ (a : Answered FarDay). a.day) (heard ∙ waits m policy done later))

pub returns-then-not-is_at_once-clause-reply : goal.returns-then-not-is_at_once-clause-reply
returns-then-not-is_at_once-clause-reply c =
    let d = c.args.self.now in
    let m = said_of c.args.reference c.args.flag c.args.message.now in
    let called = called_of c.args.message.now in
    let x = c.self.inside in
    let v : FarDay = record { script = x.script; moment = x.moment; calls = live_calls x.calls; maintenance = x.maintenance; next = x.next } in
    let done = far_stray d m called m.heard.kind in
    let policy = policy_of d.script called in
    let heard = found_none d v m called c.first_named.result c.self.view_is (c.first_named.ensures.first c.args.message.now) (sym c.is_some.ensures ∙ c.if-is_some.false) in
    let says : c.policy_of-policy.result ≡ policy = c.policy_of-policy.ensures ∙ (ap (policy_of x.script) c.called.ensures ∙ ap (λ (y : FarDay). policy_of y.script called) c.self.view_is) in
    let later : is_at_once policy ≡ false = ap is_at_once (sym says) ∙ (sym c.is_at_once.ensures ∙ c.if-not-is_at_once.true) in
    c.stray-reply.ensures.reply ∙ sym (ap (λ (a : Answered FarDay). a.reply) (heard ∙ waits m policy done later))

pub returns-in_default-clause-day : goal.returns-in_default-clause-day
returns-in_default-clause-day c =
    let d = c.args.self.now in
    let m = said_of c.args.reference c.args.flag c.args.message.now in
    let called = called_of c.args.message.now in
    let x = c.self.inside in
    let v : FarDay = record { script = x.script; moment = x.moment; calls = live_calls x.calls; maintenance = x.maintenance; next = x.next } in
    let done = far_stray d m called m.heard.kind in
    let policy = policy_of d.script called in
    let heard = found_none d v m called c.first_named.result c.self.view_is (c.first_named.ensures.first c.args.message.now) (sym c.is_some.ensures ∙ c.if-is_some.false) in
    let y = c.self-2.inside in
    let w : FarDay = record { script = y.script; moment = y.moment; calls = live_calls y.calls; maintenance = y.maintenance; next = y.next } in
    let same : w ≡ done.day = c.self-2.view_is ∙ c.stray-reply.ensures.day in
    let none : first_call (far_names m) done.day.calls ≡ None = ap (λ (z : FarDay). first_call (far_names m) z.calls) (sym same) ∙ (sym (c.first_named-2.ensures.first c.args.message.now) ∙ c.in_default.is) in
    c.stray-reply.ensures.day ∙ sym (ap (λ (a : Answered FarDay). a.day) (heard ∙ offers_none m policy done none))

pub returns-in_default-clause-reply : goal.returns-in_default-clause-reply
returns-in_default-clause-reply c =
    let d = c.args.self.now in
    let m = said_of c.args.reference c.args.flag c.args.message.now in
    let called = called_of c.args.message.now in
    let x = c.self.inside in
    let v : FarDay = record { script = x.script; moment = x.moment; calls = live_calls x.calls; maintenance = x.maintenance; next = x.next } in
    let done = far_stray d m called m.heard.kind in
    let policy = policy_of d.script called in
    let heard = found_none d v m called c.first_named.result c.self.view_is (c.first_named.ensures.first c.args.message.now) (sym c.is_some.ensures ∙ c.if-is_some.false) in
    let y = c.self-2.inside in
    let w : FarDay = record { script = y.script; moment = y.moment; calls = live_calls y.calls; maintenance = y.maintenance; next = y.next } in
    let same : w ≡ done.day = c.self-2.view_is ∙ c.stray-reply.ensures.day in
    let none : first_call (far_names m) done.day.calls ≡ None = ap (λ (z : FarDay). first_call (far_names m) z.calls) (sym same) ∙ (sym (c.first_named-2.ensures.first c.args.message.now) ∙ c.in_default.is) in
    c.stray-reply.ensures.reply ∙ sym (ap (λ (a : Answered FarDay). a.reply) (heard ∙ offers_none m policy done none))

pub invariant_of-self : goal.invariant_of-self
invariant_of-self c =
    let x = c.self-2.inside in
    let call = c.in-Some.call in
    let step = c.on_second-step.result in
    let seat : IsChannel call.channel = (seat_at 0 call.channel call.channel call x.calls (omega arith) c.in-Some.ensures.seat c.self-2.invariant.seated).1 in
    let keeps : Keeps call.channel step.next = subst (λ (s : Transition PlainUserCall). Keeps call.channel s.next) (sym c.on_second-step.ensures) (second_keeps call x.moment) in
    subst (IsFar x.script x.moment x.next) (sym (c.settle.ensures.calls ∙ ap (λ n. slice_set x.calls n (live_call_of step.next)) c.channel.ensures))
    (far_with x.script x.moment x.next call.channel x.calls (live_call_of step.next) (seat_of call.channel step.next keeps seat) c.self-2.invariant)

pub returns-clause-day : goal.returns-clause-day
returns-clause-day c =
    let d = c.args.self.now in
    let m = said_of c.args.reference c.args.flag c.args.message.now in
    let called = called_of c.args.message.now in
    let x = c.self.inside in
    let v : FarDay = record { script = x.script; moment = x.moment; calls = live_calls x.calls; maintenance = x.maintenance; next = x.next } in
    let done = far_stray d m called m.heard.kind in
    let policy = policy_of d.script called in
    let heard = found_none d v m called c.first_named.result c.self.view_is (c.first_named.ensures.first c.args.message.now) (sym c.is_some.ensures ∙ c.if-is_some.false) in
    let says : c.policy_of-policy.result ≡ policy = c.policy_of-policy.ensures ∙ (ap (policy_of x.script) c.called.ensures ∙ ap (λ (y : FarDay). policy_of y.script called) c.self.view_is) in
    let now : is_at_once policy ≡ true = ap is_at_once (sym says) ∙ (sym c.is_at_once.ensures ∙ c.if-not-is_at_once.false) in
    let y = c.self-2.inside in
    let w : FarDay = record { script = y.script; moment = y.moment; calls = live_calls y.calls; maintenance = y.maintenance; next = y.next } in
    let same : w ≡ done.day = c.self-2.view_is ∙ c.stray-reply.ensures.day in
    let call = c.in-Some.call in
    let found : first_call (far_names m) done.day.calls ≡ Some call = ap (λ (z : FarDay). first_call (far_names m) z.calls) (sym same) ∙ sym (c.in-Some.ensures.first c.args.message.now) in
    let step = c.on_second-step.result in
    let settled : live_calls c.settle.new.calls ≡ settle_calls call.channel step.next (live_calls y.calls) =
    ap live_calls (c.settle.ensures.calls ∙ ap (λ n. slice_set y.calls n (live_call_of step.next)) c.channel.ensures)
    ∙ settle_is 0 call.channel call.channel step.next call y.calls (omega arith) c.self-2.invariant.seated c.in-Some.ensures.seat in
    ap (λ (cs : List PlainUserCall). record w { calls = cs; maintenance = c.settle.new.maintenance }) settled
    ∙ ap (λ (ms : List Bool). record w { calls = settle_calls call.channel step.next (live_calls y.calls); maintenance = ms }) (c.settle.ensures.maintenance ∙ ap (λ n. settle_maintenance n step.next y.maintenance) c.channel.ensures)
    ∙ ap (λ (s : Transition PlainUserCall). (far_follow w call.channel s).day) c.on_second-step.ensures
    ∙ ap (λ (z : FarDay). (far_follow z call.channel (user_second call z.moment)).day) same
    ∙ sym (ap (λ (a : Answered FarDay). a.day) (heard ∙ offers m policy done call now found))

pub returns-clause-reply : goal.returns-clause-reply
returns-clause-reply c =
    let d = c.args.self.now in
    let m = said_of c.args.reference c.args.flag c.args.message.now in
    let called = called_of c.args.message.now in
    let x = c.self.inside in
    let v : FarDay = record { script = x.script; moment = x.moment; calls = live_calls x.calls; maintenance = x.maintenance; next = x.next } in
    let done = far_stray d m called m.heard.kind in
    let policy = policy_of d.script called in
    let heard = found_none d v m called c.first_named.result c.self.view_is (c.first_named.ensures.first c.args.message.now) (sym c.is_some.ensures ∙ c.if-is_some.false) in
    let says : c.policy_of-policy.result ≡ policy = c.policy_of-policy.ensures ∙ (ap (policy_of x.script) c.called.ensures ∙ ap (λ (y : FarDay). policy_of y.script called) c.self.view_is) in
    let now : is_at_once policy ≡ true = ap is_at_once (sym says) ∙ (sym c.is_at_once.ensures ∙ c.if-not-is_at_once.false) in
    let y = c.self-2.inside in
    let w : FarDay = record { script = y.script; moment = y.moment; calls = live_calls y.calls; maintenance = y.maintenance; next = y.next } in
    let same : w ≡ done.day = c.self-2.view_is ∙ c.stray-reply.ensures.day in
    let call = c.in-Some.call in
    let found : first_call (far_names m) done.day.calls ≡ Some call = ap (λ (z : FarDay). first_call (far_names m) z.calls) (sym same) ∙ sym (c.in-Some.ensures.first c.args.message.now) in
    ap (λ (s : Transition PlainUserCall). s.reply) c.on_second-step.ensures
    ∙ ap (λ (z : FarDay). (user_second call z.moment).reply) same
    ∙ sym (ap (λ (a : Answered FarDay). a.reply) (heard ∙ offers m policy done call now found))
