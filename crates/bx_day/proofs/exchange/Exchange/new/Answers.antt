use Rattle.std.proofs.Common.{◌≤◌, ◌<◌, ℕ, sym, subst, arith, ◌∙◌, length, List, Bool}
use Rattle.std.specs.List.{AllByRecursion}
use Rattle.bx_day.specs.Day.{entries_from, entry_at}
use Rattle.bx_day.specs.Invariant.{Pairs, Apart}
use Rattle.bx_day.specs.Linking.{AreLinks}
use Rattle.bx_day.specs.Passing.{day_of}
use Rattle.bx_day.specs.Reading.{IsExchange, Seated}
use Rattle.bx_day.specs.declared.entry.Entry.{Entry}
use Rattle.bx_day.proofs.IndexLemmas.{opening_ordered, opening_slots}
use Rattle.bx_day.proofs.OpeningDay.{opening_is}
use Rattle.bx_day.proofs.exchange.Exchange.new.Goals as goal

pub linked-requires-clause-few : goal.linked-requires-clause-few
linked-requires-clause-few c =
    let plan = c.args.plan.now in
    subst (λ (es : List Entry). length es ≤ 16000) (sym (c.deref.ensures.value ∙ c.in_ok-entries.ensures)) (opening_is plan.bookings plan.channels plan.assigned.items c.len-rows.ensures.bookings c.count-channels.ensures.set c.requires).rows

pub linked-requires-clause-seated : goal.linked-requires-clause-seated
linked-requires-clause-seated c =
    let plan = c.args.plan.now in
    subst (AllByRecursion Seated) (sym (c.deref.ensures.value ∙ c.in_ok-entries.ensures)) (opening_is plan.bookings plan.channels plan.assigned.items c.len-rows.ensures.bookings c.count-channels.ensures.set c.requires).seated

pub linked-requires-clause-apart : goal.linked-requires-clause-apart
linked-requires-clause-apart c =
    let plan = c.args.plan.now in
    subst (Pairs Apart) (sym (c.deref.ensures.value ∙ c.in_ok-entries.ensures)) (opening_is plan.bookings plan.channels plan.assigned.items c.len-rows.ensures.bookings c.count-channels.ensures.set c.requires).day.pairs

pub linked-requires-clause-ordered : goal.linked-requires-clause-ordered
linked-requires-clause-ordered c =
    let plan = c.args.plan.now in
    subst (λ (es : List Entry). (i : ℕ) → i < length es → (entry_at es i).booking.start < (entry_at es i).booking.end) (sym (c.deref.ensures.value ∙ c.in_ok-entries.ensures)) (opening_ordered plan.bookings plan.assigned.items c.len-rows.ensures.bookings)

pub invariant_of-result : goal.invariant_of-result
invariant_of-result c =
    let plan = c.args.plan.now in
    let es = c.in_ok-entries.entries.items in
    let whole = opening_is plan.bookings plan.channels plan.assigned.items c.len-rows.ensures.bookings c.count-channels.ensures.set c.requires in
    let with_set = subst (λ (m : List Bool). IsExchange (record { moment = 0; unlinked = 0; entries = entries_from 1 plan.bookings plan.assigned.items; maintenance = m })) (sym c.empty.ensures) whole in
    let day = day_of 0 0 es c.empty.result in
    let exchange : IsExchange day = subst (λ (xs : List Entry). IsExchange (record { moment = 0; unlinked = 0; entries = xs; maintenance = c.empty.result })) (sym c.in_ok-entries.ensures) with_set in
    let links : AreLinks es c.in_ok-links.links.first c.in_ok-links.links.following.items = subst (λ (xs : List Entry). AreLinks xs c.in_ok-links.links.first c.in_ok-links.links.following.items) c.deref.ensures.value c.in_ok-links.ensures in
    record {
      exchange = exchange;
      known = λ one. absurd (omega (arith, one));
      slots = opening_slots plan.bookings plan.assigned.items day c.in_ok-links.links.first c.in_ok-links.links.following.items c.len-rows.ensures.bookings c.in_ok-entries.ensures links;
    }
