use Rattle.std.proofs.Common.{◌≡◌, ◌<◌, Some, length, arith, sym, subst, ◌∙◌}
use Rattle.bx_calls.specs.Said.{said_of}
use Rattle.bx_far.specs.FarDay.{far_names}
use Rattle.bx_far.specs.Inside.{call_slot_at}
use Rattle.bx_far.proofs.Seats.{seat_at}
use Rattle.bx_far.proofs.Kept.{slot_read, not_some, passes_here, passes_not, passes_none}
use Rattle.bx_far.proofs.slots.first_named.Goals.{in-Some+else-is_named, in_default}
use Rattle.bx_far.proofs.slots.first_named.Goals as goal

pub returns-then-is_named-clause-first : goal.returns-then-is_named-clause-first
returns-then-is_named-clause-first c = λ m.
    let slots = c.args.calls.now in
    let lt : c.loop-i.i < length slots = omega (arith, c.loop-i-test.true, c.requires.size) in
    let here : call_slot_at slots c.loop-i.i ≡ Some c.in-Some.call = slot_read slots c.loop-i.i c.index-calls-i.result c.index-calls-i.is lt ∙ c.index-calls-i.is ∙ c.in-Some.is in
    sym (passes_here (far_names (said_of c.args.reference c.args.flag m)) slots c.loop-i.i c.in-Some.call lt here (sym (c.is_named.ensures m) ∙ c.if-is_named.true)) ∙ c.loop-i.invariant m

pub returns-then-is_named-clause-seat : goal.returns-then-is_named-clause-seat
returns-then-is_named-clause-seat c =
    let slots = c.args.calls.now in
    let lt : c.loop-i.i < length slots = omega (arith, c.loop-i-test.true, c.requires.size) in
    let here : call_slot_at slots c.loop-i.i ≡ Some c.in-Some.call = slot_read slots c.loop-i.i c.index-calls-i.result c.index-calls-i.is lt ∙ c.index-calls-i.is ∙ c.in-Some.is in
    subst (λ n. call_slot_at slots n ≡ Some c.in-Some.call) (sym (seat_at 0 c.loop-i.i c.loop-i.i c.in-Some.call slots (omega arith) here c.requires.seated).0) here

pub loop-i-preserved : goal.loop-i-preserved
loop-i-preserved c = λ m.
    let slots = c.args.calls.now in
    let test = far_names (said_of c.args.reference c.args.flag m) in
    let lt : c.loop-i.i < length slots = omega (arith, c.loop-i-test.true, c.requires.size) in
    let read = slot_read slots c.loop-i.i c.index-calls-i.result c.index-calls-i.is lt in
    elim c.match-slot.branch [
      | in-Some+else-is_named w ↦ sym (passes_not test slots c.loop-i.i w.in-Some.call lt (read ∙ c.index-calls-i.is ∙ w.in-Some.is) (sym (w.is_named.ensures m) ∙ w.if-is_named.false)) ∙ c.loop-i.invariant m
      | in_default w ↦ sym (passes_none test slots c.loop-i.i lt (read ∙ c.index-calls-i.is ∙ not_some _ w.in_default.not-Some)) ∙ c.loop-i.invariant m
    ]
