use Rattle.std.proofs.Common.{◌≡◌, ◌<◌, ℕ, List, min, sym, subst, ap, ap₂, ◌∙◌, length}
use Rattle.bx_day.specs.Day.{Day, entry_at}
use Rattle.bx_day.specs.Slots.{slot_at, IsLiveOn, IsWaitingOn}
use Rattle.bx_day.specs.SlotSteps.{slot_due}
use Rattle.bx_day.specs.declared.entry.Entry.{Entry}
use Rattle.bx_day.proofs.DueSlots.{due_on_is}
use Rattle.bx_day.proofs.exchange.Exchange.due_on.Goals as goal

pub slot_due-live-requires : goal.slot_due-live-requires
slot_due-live-requires c i is = subst (λ (es : List Entry). i < length es) (sym c.deref.ensures.value) ((c.self.invariant.slots.lives c.number.result).there i is).0

pub slot_due-waiting-requires : goal.slot_due-waiting-requires
slot_due-waiting-requires c i is = subst (λ (es : List Entry). i < length es) (sym c.deref-2.ensures.value) ((c.self.invariant.slots.waits c.number-2.result).there i is).0

pub returns : goal.returns
returns c =
    let d = c.args.self.now in
    let x = c.self.inside in
    let n = c.args.channel in
    let entries : x.entries.items ≡ d.entries = ap (λ (y : Day). y.entries) c.self.view_is in
    let a = slot_at x.live n in
    let w = slot_at x.waiting n in
    let free = c.is_free-free.result in
    let live : c.slot_due-live.result ≡ slot_due d.entries free a = c.slot_due-live.ensures ∙ ap₂ (λ (es : List Entry) k. slot_due es free (slot_at x.live k)) (c.deref.ensures.value ∙ entries) c.number.ensures.value in
    let waiting : c.slot_due-waiting.result ≡ slot_due d.entries free w = c.slot_due-waiting.ensures ∙ ap₂ (λ (es : List Entry) k. slot_due es free (slot_at x.waiting k)) (c.deref-2.ensures.value ∙ entries) c.number-2.ensures.value in
    due_on_is d n c.min.result free a w
    (subst (λ (es : List Entry). (k : ℕ) → k < length es → (entry_at es k).booking.start < (entry_at es k).booking.end) entries c.self.invariant.slots.ordered)
    (subst (λ (es : List Entry). IsLiveOn es n a) entries (c.self.invariant.slots.lives n))
    (subst (λ (es : List Entry). IsWaitingOn es n w) entries (c.self.invariant.slots.waits n))
    c.is_free-free.ensures
    (c.min.ensures ∙ ap₂ min live waiting)
