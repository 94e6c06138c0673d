use Rattle.std.proofs.Common.{◌<◌, ◌+◌, ◌∙◌, ℕ, List, arith, sym, ap, subst, length}
use Rattle.std.proofs.lemmas.Bool.{false≢true}
use Rattle.bx_day.specs.Day.{Day, entry_at}
use Rattle.bx_day.specs.SlotSteps.{IsDueOn}
use Rattle.bx_day.specs.Reading.{IsExchange}
use Rattle.bx_day.specs.declared.entry.Entry.{Entry}
use Rattle.bx_day.proofs.DueSlots.{IsDueBelow, none_below, below_more, below_past, all_below}
use Rattle.bx_day.proofs.exchange.Exchange.next_due.Goals.{in-Some, in_default}
use Rattle.bx_day.proofs.exchange.Exchange.next_due.Goals as goal

pub loop-number-init : goal.loop-number-init
loop-number-init c = none_below c.args.self.now (subst IsExchange c.self.view_is c.self.invariant.exchange)

pub loop-number-preserved : goal.loop-number-preserved
loop-number-preserved c =
    let d = c.args.self.now in
    let n = c.loop-number.number in
    elim c.match-new.branch [
      | in-Some w ↦ subst (IsDueBelow d (n + 1)) (sym (w.due-is ∙ w.min-due.ensures)) (below_more d n c.loop-number.due w.due_on.result (subst (λ k. IsDueOn d k w.due_on.result) w.in-Some.ensures.value w.due_on.ensures) c.loop-number.invariant)
      | in_default w ↦ subst (IsDueBelow d (n + 1)) (sym w.due-is) (below_past d n c.loop-number.due (subst IsExchange c.self.view_is c.self.invariant.exchange) (λ is. false≢true (w.in_default.ensures.exactly.1 is)) c.loop-number.invariant)
    ]

pub returns : goal.returns
returns c =
    let d = c.args.self.now in
    all_below d c.loop-number.number c.loop-number.due (subst IsExchange c.self.view_is c.self.invariant.exchange)
    (subst (λ (es : List Entry). (k : ℕ) → k < length es → (entry_at es k).booking.start < (entry_at es k).booking.end) (ap (λ (y : Day). y.entries) c.self.view_is) c.self.invariant.slots.ordered)
    (omega (arith, c.loop-number-test.false)) c.loop-number.invariant
