use Rattle.std.proofs.Common.{◌≡◌, Bool, List, Option, Some, arith, sym, subst, ap, ◌∙◌, slice_set}
use Rattle.bx_channels.specs.ChannelNumbers.{IsChannel}
use Rattle.bx_q931.specs.Values.{called_of}
use Rattle.bx_calls.specs.Said.{said_of}
use Rattle.bx_calls.specs.Hearing.{heard_of}
use Rattle.bx_calls.specs.PlainCalls.{PlainUserCall}
use Rattle.bx_calls.specs.UserTable.{user_message}
use Rattle.bx_calls.specs.declared.transition.Transition.{Transition}
use Rattle.bx_far.specs.FarDay.{FarDay, first_call, far_names, far_follow, far_received_by, settle_calls, settle_maintenance}
use Rattle.bx_far.specs.Seats.{live_calls, IsFar}
use Rattle.bx_far.specs.Inside.{live_call_of}
use Rattle.bx_far.proofs.Seats.{seat_at, settle_is}
use Rattle.bx_far.proofs.Keeping.{Keeps, seat_of, message_keeps}
use Rattle.bx_far.proofs.Kept.{far_with}
use Rattle.bx_far.proofs.far.Far.receive_call.Goals as goal

pub invariant_of-self : goal.invariant_of-self
invariant_of-self c =
    let x = c.self.inside in
    let call = c.in-Some.call in
    let step = c.on_message-step.result in
    let seat : IsChannel call.channel = (seat_at 0 call.channel call.channel call x.calls (omega arith) c.in-Some.ensures.seat c.self.invariant.seated).1 in
    let keeps : Keeps call.channel step.next = subst (λ (s : Transition PlainUserCall). Keeps call.channel s.next) (sym c.on_message-step.ensures) (message_keeps call (heard_of c.args.message.now) x.moment) in
    subst (IsFar x.script x.moment x.next) (sym (c.settle.ensures.calls ∙ ap (λ n. slice_set x.calls n (live_call_of step.next)) c.channel.ensures))
    (far_with x.script x.moment x.next call.channel x.calls (live_call_of step.next) (seat_of call.channel step.next keeps seat) c.self.invariant)

pub returns-clause-day : goal.returns-clause-day
returns-clause-day c =
    let x = c.self.inside in
    let d = c.args.self.now in
    let v : FarDay = record { script = x.script; moment = x.moment; calls = live_calls x.calls; maintenance = x.maintenance; next = x.next } in
    let m = said_of c.args.reference c.args.flag c.args.message.now in
    let called = called_of c.args.message.now in
    let call = c.in-Some.call in
    let step = c.on_message-step.result in
    let settled : live_calls c.settle.new.calls ≡ settle_calls call.channel step.next (live_calls x.calls) =
    ap live_calls (c.settle.ensures.calls ∙ ap (λ n. slice_set x.calls n (live_call_of step.next)) c.channel.ensures)
    ∙ settle_is 0 call.channel call.channel step.next call x.calls (omega arith) c.self.invariant.seated c.in-Some.ensures.seat in
    let found : first_call (far_names m) d.calls ≡ Some call = ap (λ (y : FarDay). first_call (far_names m) y.calls) (sym c.self.view_is) ∙ sym (c.in-Some.ensures.first c.args.message.now) in
    ap (λ (cs : List PlainUserCall). record v { calls = cs; maintenance = c.settle.new.maintenance }) settled
    ∙ ap (λ (ms : List Bool). record v { calls = settle_calls call.channel step.next (live_calls x.calls); maintenance = ms }) (c.settle.ensures.maintenance ∙ ap (λ n. settle_maintenance n step.next x.maintenance) c.channel.ensures)
    ∙ ap (λ (s : Transition PlainUserCall). (far_follow v call.channel s).day) c.on_message-step.ensures
    ∙ ap (λ (y : FarDay). (far_follow y call.channel (user_message call m.heard y.moment)).day) c.self.view_is
    ∙ sym (ap (λ (o : Option PlainUserCall). (far_received_by d m called o).day) found)
