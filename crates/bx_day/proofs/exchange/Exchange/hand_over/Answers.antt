use Rattle.std.proofs.Common.{◌≤◌, List, length, sym, ap, subst, ◌∙◌, arith, if◌then◌else◌, Result, Ok, Err}
use Rattle.std.specs.Prelude.{IfOk}
use Rattle.bx_base.specs.declared.bookings.TheConstants.{MAX_BOOKINGS}
use Rattle.bx_day.specs.Day.{Day}
use Rattle.bx_day.specs.Passing.{day_of}
use Rattle.bx_day.specs.Reading.{IsNumbered}
use Rattle.bx_day.specs.Restoring.{IsState}
use Rattle.bx_day.specs.declared.entry.Entry.{Entry}
use Rattle.bx_day.proofs.Handed.{handed_day, state_over}
use Rattle.bx_day.proofs.OpeningDay.{opening_size, opening_numbered}
use Rattle.bx_day.proofs.Restored.{state_of}
use Rattle.bx_day.proofs.exchange.Exchange.hand_over.Goals as goal

pub put_over-requires-clause-few : goal.put_over-requires-clause-few
put_over-requires-clause-few c =
    let plan = c.args.plan.now in
    let rows : length plan.bookings ≤ MAX_BOOKINGS = c.len-rows.ensures.bookings.few in
    subst (λ (es : List Entry). length es ≤ MAX_BOOKINGS) (sym (c.deref_mut.ensures.value ∙ c.in_ok-entries.ensures)) (omega (arith, rows, opening_size 1 plan.bookings plan.assigned.items))

pub put_over-requires-clause-numbered : goal.put_over-requires-clause-numbered
put_over-requires-clause-numbered c =
    let plan = c.args.plan.now in
    subst IsNumbered (sym (c.deref_mut.ensures.value ∙ c.in_ok-entries.ensures)) (opening_numbered plan.bookings plan.assigned.items)

pub restored-requires : goal.restored-requires
restored-requires c =
    let x = c.self.inside in
    let plan = c.args.plan.now in
    let d = c.args.self.now in
    let state : IsState d = subst IsState c.self.view_is (state_of (day_of x.moment x.unlinked x.entries.items x.maintenance) x.live x.waiting x.following.items c.self.invariant.exchange c.self.invariant.slots) in
    subst IsState
    (sym (handed_day c.args.base d plan.bookings plan.assigned.items c.unlinked_over-unlinked.result c.in_ok-entries.entries.len x.moment c.in_ok-entries.entries.items c.deref_mut.result.now c.deref.result.now c.in_ok-left.left.items c.deref-2.result.now c.put_over.new.entries x.maintenance (c.unlinked_over-unlinked.ensures ∙ ap (λ b. if b then 1 else 0) c.is_back.ensures) c.in_ok-entries.ensures c.deref_mut.ensures.value (c.deref.ensures.value ∙ ap (λ (y : Day). y.entries) c.self.view_is) c.in_ok-left.ensures c.deref-2.ensures.value (ap (λ (y : Day). y.moment) c.self.view_is) c.put_over.ensures c.in_ok-entries.entries.ok.0 (ap (λ (y : Day). y.maintenance) c.self.view_is)))
    (state_over c.args.base d plan.bookings plan.channels plan.assigned.items c.len-rows.ensures.bookings c.count-channels.ensures.set c.requires.carried state c.requires.goes)

ok_map : {A E : Type 0} (r : Result A E) (P Q : A → Type 0) → ((x : A) → P x → Q x) → IfOk r P → IfOk r Q
ok_map (Ok x) P Q f h = f x h
ok_map (Err e) P Q f h = h

pub returns : goal.returns
returns c =
    let x = c.self.inside in
    let plan = c.args.plan.now in
    let d = c.args.self.now in
    ok_map c.restored.result _ _ (λ y is. is ∙ handed_day c.args.base d plan.bookings plan.assigned.items c.unlinked_over-unlinked.result c.in_ok-entries.entries.len x.moment c.in_ok-entries.entries.items c.deref_mut.result.now c.deref.result.now c.in_ok-left.left.items c.deref-2.result.now c.put_over.new.entries x.maintenance (c.unlinked_over-unlinked.ensures ∙ ap (λ b. if b then 1 else 0) c.is_back.ensures) c.in_ok-entries.ensures c.deref_mut.ensures.value (c.deref.ensures.value ∙ ap (λ (y : Day). y.entries) c.self.view_is) c.in_ok-left.ensures c.deref-2.ensures.value (ap (λ (y : Day). y.moment) c.self.view_is) c.put_over.ensures c.in_ok-entries.entries.ok.0 (ap (λ (y : Day). y.maintenance) c.self.view_is)) c.restored.ensures
