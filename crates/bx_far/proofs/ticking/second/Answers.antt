use Rattle.std.proofs.Common.{◌≡◌, ◌<◌, Option, List, length, arith, sym, ap, ◌∙◌}
use Rattle.bx_calls.specs.PlainCalls.{PlainUserCall}
use Rattle.bx_far.specs.Inside.{call_slot_at}
use Rattle.bx_far.proofs.Kept.{slot_read, not_some}
use Rattle.bx_far.proofs.Passing.{none_passed, passed_call, passed_by, all_passed, moved_at, moved_size}
use Rattle.bx_far.proofs.ticking.second.Goals.{in-Some, in_default}
use Rattle.bx_far.proofs.ticking.second.Goals as goal

pub loop-i-init : goal.loop-i-init
loop-i-init c = none_passed c.args.moment c.args.calls.now c.args.maintenance.now

pub loop-i-preserved : goal.loop-i-preserved
loop-i-preserved c =
    let slots = c.args.calls.now in
    let i = c.loop-i.i in
    let t = c.args.moment in
    let lt : i < length slots = omega (arith, c.loop-i-test.true, c.requires.size) in
    let size = ap length c.loop-i.invariant.moved ∙ moved_size t i slots in
    let lt' : i < length c.loop-i.calls = omega (arith, lt, size) in
    let read : call_slot_at slots i ≡ c.index-calls-i.result = sym (ap (λ (xs : List (Option PlainUserCall)). call_slot_at xs i) c.loop-i.invariant.moved ∙ moved_at t i slots) ∙ slot_read c.loop-i.calls i c.index-calls-i.result c.index-calls-i.is lt' in
    elim c.match-slot.branch [
      | in-Some w ↦ passed_call t slots c.args.maintenance.now i c.loop-i.calls c.match-slot.calls c.loop-i.maintenance c.match-slot.maintenance c.loop-i.said c.match-slot.said w.in-Some.call w.on_second-step.result w.channel.result lt c.requires.seated
          (read ∙ c.index-calls-i.is ∙ w.in-Some.is) w.on_second-step.ensures w.channel.ensures
          (w.calls-is ∙ w.settle.ensures.calls) (w.maintenance-is ∙ w.settle.ensures.maintenance) w.said-is c.loop-i.invariant
      | in_default w ↦ passed_by t slots c.args.maintenance.now i c.loop-i.calls c.match-slot.calls c.loop-i.maintenance c.match-slot.maintenance c.loop-i.said c.match-slot.said lt
          (read ∙ c.index-calls-i.is ∙ not_some _ w.in_default.not-Some) w.calls-is w.maintenance-is w.said-is c.loop-i.invariant
    ]

pub returns : goal.returns
returns c =
    let r = all_passed c.args.moment c.args.calls.now c.args.maintenance.now c.loop-i.i c.loop-i.calls c.loop-i.maintenance c.loop-i.said (omega (arith, c.loop-i-test.false, c.requires.size)) c.loop-i.invariant in
    record { calls = r.calls; maintenance = r.maintenance; said = r.said_is; spoken = c.loop-i.invariant.spoken; slots = c.loop-i.invariant.size }
