use Rattle.std.proofs.Common.{◌≤◌, ◌<◌, ℕ, List, length, sym, ap, subst, ◌∙◌}
use Rattle.std.specs.List.{AllByRecursion}
use Rattle.bx_day.specs.Day.{Day, entry_at, entries_from}
use Rattle.bx_day.specs.Changed.{with_past, with_references, changed}
use Rattle.bx_day.specs.Invariant.{Pairs, Apart}
use Rattle.bx_day.specs.Linking.{AreLinks}
use Rattle.bx_day.specs.Outlasting.{AreEarliest}
use Rattle.bx_day.specs.Passing.{day_of}
use Rattle.bx_day.specs.Reading.{Seated}
use Rattle.bx_day.specs.Slots.{IsIndexed}
use Rattle.bx_day.specs.declared.entry.Entry.{Entry}
use Rattle.bx_day.proofs.ChangedIndex.{tested, exchange_changed, ordered_changed, slots_changed}
use Rattle.bx_day.proofs.IndexLemmas.{indexed_now}
use Rattle.bx_day.proofs.exchange.Exchange.go_on.Goals as goal

pub linked-requires-clause-few : goal.linked-requires-clause-few
linked-requires-clause-few c =
    let x = c.self.inside in
    let plan = c.args.plan.now in
    let d = day_of x.moment x.unlinked x.entries.items x.maintenance in
    let at = c.moment-moment.ensures.value ∙ ap (λ (d : Day). d.moment) (sym c.self.view_is) in
    let goes_on = tested d plan.bookings plan.assigned.items c.moment-moment.result c.len.result c.deref.result.now at c.deref.ensures.value (c.len.ensures ∙ x.entries.ok.0) (c.do_agree.ensures.0 c.if-not-do_agree.false) (c.are_ahead.ensures.0 c.if-not-are_ahead.false) in
    let all_is = c.in-Ok.ensures ∙ ap (λ (es : List Entry). with_past es (with_references es (entries_from 1 plan.bookings plan.assigned.items))) c.deref-2.ensures.value in
    subst (λ (es : List Entry). length es ≤ 16000) (sym (c.deref-3.ensures.value ∙ all_is)) (exchange_changed d plan.bookings plan.channels plan.assigned.items x.live x.waiting x.following.items c.len-rows.ensures.bookings c.count-channels.ensures.set c.requires c.self.invariant.exchange c.self.invariant.slots goes_on).rows

pub linked-requires-clause-seated : goal.linked-requires-clause-seated
linked-requires-clause-seated c =
    let x = c.self.inside in
    let plan = c.args.plan.now in
    let d = day_of x.moment x.unlinked x.entries.items x.maintenance in
    let at = c.moment-moment.ensures.value ∙ ap (λ (d : Day). d.moment) (sym c.self.view_is) in
    let goes_on = tested d plan.bookings plan.assigned.items c.moment-moment.result c.len.result c.deref.result.now at c.deref.ensures.value (c.len.ensures ∙ x.entries.ok.0) (c.do_agree.ensures.0 c.if-not-do_agree.false) (c.are_ahead.ensures.0 c.if-not-are_ahead.false) in
    let all_is = c.in-Ok.ensures ∙ ap (λ (es : List Entry). with_past es (with_references es (entries_from 1 plan.bookings plan.assigned.items))) c.deref-2.ensures.value in
    subst (AllByRecursion Seated) (sym (c.deref-3.ensures.value ∙ all_is)) (exchange_changed d plan.bookings plan.channels plan.assigned.items x.live x.waiting x.following.items c.len-rows.ensures.bookings c.count-channels.ensures.set c.requires c.self.invariant.exchange c.self.invariant.slots goes_on).seated

pub linked-requires-clause-apart : goal.linked-requires-clause-apart
linked-requires-clause-apart c =
    let x = c.self.inside in
    let plan = c.args.plan.now in
    let d = day_of x.moment x.unlinked x.entries.items x.maintenance in
    let at = c.moment-moment.ensures.value ∙ ap (λ (d : Day). d.moment) (sym c.self.view_is) in
    let goes_on = tested d plan.bookings plan.assigned.items c.moment-moment.result c.len.result c.deref.result.now at c.deref.ensures.value (c.len.ensures ∙ x.entries.ok.0) (c.do_agree.ensures.0 c.if-not-do_agree.false) (c.are_ahead.ensures.0 c.if-not-are_ahead.false) in
    let all_is = c.in-Ok.ensures ∙ ap (λ (es : List Entry). with_past es (with_references es (entries_from 1 plan.bookings plan.assigned.items))) c.deref-2.ensures.value in
    subst (Pairs Apart) (sym (c.deref-3.ensures.value ∙ all_is)) (exchange_changed d plan.bookings plan.channels plan.assigned.items x.live x.waiting x.following.items c.len-rows.ensures.bookings c.count-channels.ensures.set c.requires c.self.invariant.exchange c.self.invariant.slots goes_on).day.pairs

pub linked-requires-clause-ordered : goal.linked-requires-clause-ordered
linked-requires-clause-ordered c =
    let x = c.self.inside in
    let plan = c.args.plan.now in
    let d = day_of x.moment x.unlinked x.entries.items x.maintenance in
    let at = c.moment-moment.ensures.value ∙ ap (λ (d : Day). d.moment) (sym c.self.view_is) in
    let goes_on = tested d plan.bookings plan.assigned.items c.moment-moment.result c.len.result c.deref.result.now at c.deref.ensures.value (c.len.ensures ∙ x.entries.ok.0) (c.do_agree.ensures.0 c.if-not-do_agree.false) (c.are_ahead.ensures.0 c.if-not-are_ahead.false) in
    let all_is = c.in-Ok.ensures ∙ ap (λ (es : List Entry). with_past es (with_references es (entries_from 1 plan.bookings plan.assigned.items))) c.deref-2.ensures.value in
    subst (λ (es : List Entry). (i : ℕ) → i < length es → (entry_at es i).booking.start < (entry_at es i).booking.end) (sym (c.deref-3.ensures.value ∙ all_is)) (ordered_changed d plan.bookings plan.channels plan.assigned.items x.live x.waiting x.following.items c.len-rows.ensures.bookings c.count-channels.ensures.set c.requires c.self.invariant.exchange c.self.invariant.slots goes_on)

pub first_waiting-self-inside-requires-clause-few : goal.first_waiting-self-inside-requires-clause-few
first_waiting-self-inside-requires-clause-few c =
    let x = c.self.inside in
    let plan = c.args.plan.now in
    let d = day_of x.moment x.unlinked x.entries.items x.maintenance in
    let at = c.moment-moment.ensures.value ∙ ap (λ (d : Day). d.moment) (sym c.self.view_is) in
    let goes_on = tested d plan.bookings plan.assigned.items c.moment-moment.result c.len.result c.deref.result.now at c.deref.ensures.value (c.len.ensures ∙ x.entries.ok.0) (c.do_agree.ensures.0 c.if-not-do_agree.false) (c.are_ahead.ensures.0 c.if-not-are_ahead.false) in
    let all_is = c.in-Ok.ensures ∙ ap (λ (es : List Entry). with_past es (with_references es (entries_from 1 plan.bookings plan.assigned.items))) c.deref-2.ensures.value in
    subst (λ (es : List Entry). length es ≤ 16000) (sym (c.deref-4.ensures.value ∙ all_is)) (exchange_changed d plan.bookings plan.channels plan.assigned.items x.live x.waiting x.following.items c.len-rows.ensures.bookings c.count-channels.ensures.set c.requires c.self.invariant.exchange c.self.invariant.slots goes_on).rows

pub first_waiting-self-inside-requires-clause-seated : goal.first_waiting-self-inside-requires-clause-seated
first_waiting-self-inside-requires-clause-seated c =
    let x = c.self.inside in
    let plan = c.args.plan.now in
    let d = day_of x.moment x.unlinked x.entries.items x.maintenance in
    let at = c.moment-moment.ensures.value ∙ ap (λ (d : Day). d.moment) (sym c.self.view_is) in
    let goes_on = tested d plan.bookings plan.assigned.items c.moment-moment.result c.len.result c.deref.result.now at c.deref.ensures.value (c.len.ensures ∙ x.entries.ok.0) (c.do_agree.ensures.0 c.if-not-do_agree.false) (c.are_ahead.ensures.0 c.if-not-are_ahead.false) in
    let all_is = c.in-Ok.ensures ∙ ap (λ (es : List Entry). with_past es (with_references es (entries_from 1 plan.bookings plan.assigned.items))) c.deref-2.ensures.value in
    subst (AllByRecursion Seated) (sym (c.deref-4.ensures.value ∙ all_is)) (exchange_changed d plan.bookings plan.channels plan.assigned.items x.live x.waiting x.following.items c.len-rows.ensures.bookings c.count-channels.ensures.set c.requires c.self.invariant.exchange c.self.invariant.slots goes_on).seated

pub invariant_of-self : goal.invariant_of-self
invariant_of-self c =
    let x = c.self.inside in
    let plan = c.args.plan.now in
    let d = day_of x.moment x.unlinked x.entries.items x.maintenance in
    let at = c.moment-moment.ensures.value ∙ ap (λ (d : Day). d.moment) (sym c.self.view_is) in
    let goes_on = tested d plan.bookings plan.assigned.items c.moment-moment.result c.len.result c.deref.result.now at c.deref.ensures.value (c.len.ensures ∙ x.entries.ok.0) (c.do_agree.ensures.0 c.if-not-do_agree.false) (c.are_ahead.ensures.0 c.if-not-are_ahead.false) in
    let all_is = c.in-Ok.ensures ∙ ap (λ (es : List Entry). with_past es (with_references es (entries_from 1 plan.bookings plan.assigned.items))) c.deref-2.ensures.value in
    let following = c.in-Ok-linked.links.following.items in
    let first = c.first_waiting-self-inside.result in
    let links = subst (λ (es : List Entry). AreLinks es c.in-Ok-linked.links.first following) (c.deref-3.ensures.value ∙ all_is) c.in-Ok-linked.ensures in
    let anew = subst (λ (es : List Entry). AreEarliest es (length es) first) (c.deref-4.ensures.value ∙ all_is) c.first_waiting-self-inside.ensures in
    let slots = slots_changed d plan.bookings plan.channels plan.assigned.items x.live x.waiting x.following.items c.len-rows.ensures.bookings c.count-channels.ensures.set c.requires c.self.invariant.exchange c.self.invariant.slots goes_on c.in-Ok-linked.links.first following first links anew in
    subst (λ (es : List Entry). IsIndexed (day_of x.moment x.unlinked es x.maintenance) x.live first following 0) (sym all_is) (indexed_now (changed plan.bookings plan.assigned.items d) x.live first following (exchange_changed d plan.bookings plan.channels plan.assigned.items x.live x.waiting x.following.items c.len-rows.ensures.bookings c.count-channels.ensures.set c.requires c.self.invariant.exchange c.self.invariant.slots goes_on) slots)
