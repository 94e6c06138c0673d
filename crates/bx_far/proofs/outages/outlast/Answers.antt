use Rattle.std.proofs.Common.{◌≡◌, ◌<◌, Option, List, Some, length, arith, sym, ap, ◌∙◌, slice_set}
use Rattle.bx_calls.specs.PlainCalls.{PlainUserCall}
use Rattle.bx_calls.specs.UserTable.{user_unlinked}
use Rattle.bx_far.specs.Inside.{call_slot_at}
use Rattle.bx_far.proofs.Kept.{slot_read, not_some}
use Rattle.bx_far.proofs.Standstill.{later_at, later_length, later_set, later_none, later_all}
use Rattle.bx_far.proofs.outages.outlast.Goals.{in-Some, in_default}
use Rattle.bx_far.proofs.outages.outlast.Goals as goal

pub loop-i-preserved : goal.loop-i-preserved
loop-i-preserved c =
    let slots = c.args.calls.now in
    let i = c.loop-i.i in
    let t = c.args.moment in
    let lt : i < length slots = omega (arith, c.loop-i-test.true, c.requires.size) in
    let size = ap length c.loop-i.invariant ∙ later_length t i slots in
    let lt' : i < length c.loop-i.calls = omega (arith, lt, size) in
    let read : call_slot_at slots i ≡ c.index-calls-i.result = sym (ap (λ (xs : List (Option PlainUserCall)). call_slot_at xs i) c.loop-i.invariant ∙ later_at t i slots) ∙ slot_read c.loop-i.calls i c.index-calls-i.result c.index-calls-i.is lt' in
    elim c.match-slot.branch [
      | in-Some w ↦ w.calls-is
          ∙ ap (λ (o : PlainUserCall). slice_set c.loop-i.calls i (Some o)) w.on_second_unlinked.ensures
          ∙ ap (λ (xs : List (Option PlainUserCall)). slice_set xs i (Some (user_unlinked t w.in-Some.call))) c.loop-i.invariant
          ∙ later_set t i w.in-Some.call slots lt (read ∙ c.index-calls-i.is ∙ w.in-Some.is)
      | in_default w ↦ w.calls-is ∙ c.loop-i.invariant ∙ later_none t i slots (read ∙ c.index-calls-i.is ∙ not_some _ w.in_default.not-Some)
    ]

pub returns : goal.returns
returns c = c.loop-i.invariant ∙ later_all c.args.moment c.loop-i.i c.args.calls.now (omega (arith, c.loop-i-test.false, c.requires.size))
