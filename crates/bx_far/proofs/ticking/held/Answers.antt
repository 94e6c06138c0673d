use Rattle.std.proofs.Common.{◌≡◌, ◌≤◌, ◌<◌, ◌+◌, List, Bool, length, arith, sym, subst, ◌∙◌, drop}
use Rattle.bx_far.specs.FarDay.{with_held}
use Rattle.bx_far.specs.Seats.{live_calls}
use Rattle.bx_far.proofs.Seats.{seat_at}
use Rattle.bx_far.proofs.Kept.{slot_read, not_some}
use Rattle.bx_far.proofs.Passing.{IsFreeBelow, held_none, held_call, held_all, below_none, below_call, below_all}
use Rattle.bx_far.proofs.ticking.held.Goals.{in-Some, in_default}
use Rattle.bx_far.proofs.ticking.held.Goals as goal

pub loop-i-preserved : goal.loop-i-preserved
loop-i-preserved c =
    let slots = c.args.calls.now in
    let i = c.loop-i.i in
    let lt : i < length slots = omega (arith, c.loop-i-test.true, c.requires.size) in
    let read = slot_read slots i c.index-calls-i.result c.index-calls-i.is lt in
    elim c.match-slot.branch [
      | in-Some w ↦
          let at = read ∙ c.index-calls-i.is ∙ w.in-Some.is in
          let here = w.channel.ensures ∙ (seat_at 0 i i w.in-Some.call slots (omega arith) at c.requires.seated).0 in
          record {
            held = held_call slots i w.channel.result c.loop-i.taken c.match-slot.taken c.args.maintenance w.in-Some.call lt at w.channel.ensures (w.taken-is ∙ w.with-taken.ensures.value) c.loop-i.invariant.held;
            free = subst (IsFreeBelow (i + 1) slots) (sym w.taken-is) (below_call slots i w.channel.result c.loop-i.taken w.with-taken.result here w.with-taken.ensures.added w.with-taken.ensures.others c.loop-i.invariant.free);
          }
      | in_default w ↦
          let none = read ∙ c.index-calls-i.is ∙ not_some _ w.in_default.not-Some in
          record {
            held = subst (λ (bs : List Bool). with_held (live_calls (drop (i + 1) slots)) bs ≡ with_held (live_calls slots) c.args.maintenance) (sym w.taken-is) (held_none slots i c.loop-i.taken c.args.maintenance lt none c.loop-i.invariant.held);
            free = subst (IsFreeBelow (i + 1) slots) (sym w.taken-is) (below_none slots i c.loop-i.taken none c.loop-i.invariant.free);
          }
    ]

pub returns : goal.returns
returns c =
    let slots = c.args.calls.now in
    let le : length slots ≤ c.loop-i.i = omega (arith, c.loop-i-test.false, c.requires.size) in
    record {
      held = held_all slots c.loop-i.i c.loop-i.taken c.args.maintenance le c.loop-i.invariant.held;
      free = below_all slots c.loop-i.i c.loop-i.taken le c.loop-i.invariant.free;
    }
