use Rattle.std.proofs.Common.{◌≡◌, ◌<◌, ◌+◌, ◌++◌, take, drop, ℕ, Option, Some, map, List, length, sym, ap, subst, ◌∙◌, refl, arith}
use Rattle.bx_day.specs.Day.{Day}
use Rattle.bx_day.specs.Ticks.{after_in, passed_in}
use Rattle.bx_day.specs.Passing.{day_of, SaysOnEach}
use Rattle.bx_day.specs.Reading.{IsExchange}
use Rattle.bx_day.specs.Slots.{IsIndexed, AreSlots, slot_at}
use Rattle.bx_day.specs.SlotSteps.{IsInside, follower}
use Rattle.bx_day.specs.declared.entry.Entry.{Entry}
use Rattle.bx_day.proofs.IndexLemmas.{pass_moved, pass_indexed, pass_size, pass_day}
use Rattle.bx_day.proofs.SettleLemmas.{live_inside, waiting_inside, second_inside}
use Rattle.bx_day.proofs.exchange.Exchange.pass.Goals as goal

pub followers-second-requires : goal.followers-second-requires
followers-second-requires c k i is =
    let x = c.self.inside in
    let p : i < length x.entries.items = ((c.self.invariant.slots.waits k).there i is).0 in
    omega (arith, p, c.self.invariant.slots.after_size, ap length c.deref.ensures.value)

pub move_on-said-requires-clause-live : goal.move_on-said-requires-clause-live
move_on-said-requires-clause-live c k i is = subst (λ (es : List Entry). i < length es) (sym c.deref_mut.ensures.value) ((c.self.invariant.slots.lives k).there i is).0

pub move_on-said-requires-clause-second : goal.move_on-said-requires-clause-second
move_on-said-requires-clause-second c k i is =
    let x = c.self.inside in
    let second : follower x.following.items (slot_at x.waiting k) ≡ Some i = ap (λ (b : List (Option ℕ)). follower b (slot_at x.waiting k)) (sym c.deref.ensures.value) ∙ sym (c.followers-second.ensures k) ∙ is in
    subst (λ (es : List Entry). i < length es) (sym c.deref_mut.ensures.value) (second_inside (day_of x.moment x.unlinked x.entries.items x.maintenance) x.entries.items x.live x.waiting x.following.items refl c.self.invariant.exchange c.self.invariant.slots k i second)

pub settle-requires-clause-live : goal.settle-requires-clause-live
settle-requires-clause-live c =
    let x = c.self.inside in
    let moved = pass_moved c.args.link x.moment x.unlinked x.entries.items c.deref_mut.result.now c.move_on-said.new.entries x.maintenance c.move_on-said.new.maintenance c.move_on-said.result x.live x.waiting x.following.items c.deref.result.now c.followers-second.result x.due c.blocked-blocked.result c.is_back-back.result c.args.self.now c.self.invariant c.deref_mut.ensures.value c.deref.ensures.value c.self.view_is c.blocked-blocked.ensures c.is_back-back.ensures c.followers-second.ensures c.move_on-said.ensures in
    let size = pass_size c.args.link x.moment x.unlinked x.entries.len x.entries.items c.deref_mut.result.now c.move_on-said.new.entries c.deref-2.result.now x.maintenance c.move_on-said.new.maintenance c.move_on-said.result c.deref_mut.ensures.value x.entries.ok.0 moved c.deref-2.ensures.value in
    live_inside (day_of x.moment x.unlinked x.entries.items x.maintenance) c.deref-2.result.now x.live x.waiting x.following.items size c.self.invariant.slots

pub settle-requires-clause-waiting : goal.settle-requires-clause-waiting
settle-requires-clause-waiting c =
    let x = c.self.inside in
    let moved = pass_moved c.args.link x.moment x.unlinked x.entries.items c.deref_mut.result.now c.move_on-said.new.entries x.maintenance c.move_on-said.new.maintenance c.move_on-said.result x.live x.waiting x.following.items c.deref.result.now c.followers-second.result x.due c.blocked-blocked.result c.is_back-back.result c.args.self.now c.self.invariant c.deref_mut.ensures.value c.deref.ensures.value c.self.view_is c.blocked-blocked.ensures c.is_back-back.ensures c.followers-second.ensures c.move_on-said.ensures in
    let size = pass_size c.args.link x.moment x.unlinked x.entries.len x.entries.items c.deref_mut.result.now c.move_on-said.new.entries c.deref-2.result.now x.maintenance c.move_on-said.new.maintenance c.move_on-said.result c.deref_mut.ensures.value x.entries.ok.0 moved c.deref-2.ensures.value in
    waiting_inside (day_of x.moment x.unlinked x.entries.items x.maintenance) c.deref-2.result.now x.live x.waiting x.following.items size c.self.invariant.slots

pub settle-requires-clause-second : goal.settle-requires-clause-second
settle-requires-clause-second c k =
    let x = c.self.inside in
    let moved = pass_moved c.args.link x.moment x.unlinked x.entries.items c.deref_mut.result.now c.move_on-said.new.entries x.maintenance c.move_on-said.new.maintenance c.move_on-said.result x.live x.waiting x.following.items c.deref.result.now c.followers-second.result x.due c.blocked-blocked.result c.is_back-back.result c.args.self.now c.self.invariant c.deref_mut.ensures.value c.deref.ensures.value c.self.view_is c.blocked-blocked.ensures c.is_back-back.ensures c.followers-second.ensures c.move_on-said.ensures in
    let size = pass_size c.args.link x.moment x.unlinked x.entries.len x.entries.items c.deref_mut.result.now c.move_on-said.new.entries c.deref-2.result.now x.maintenance c.move_on-said.new.maintenance c.move_on-said.result c.deref_mut.ensures.value x.entries.ok.0 moved c.deref-2.ensures.value in
    subst (λ (b : List (Option ℕ)). IsInside c.deref-2.result.now (follower b (slot_at x.waiting k))) (sym c.deref-3.ensures.value)
    (second_inside (day_of x.moment x.unlinked x.entries.items x.maintenance) c.deref-2.result.now x.live x.waiting x.following.items size c.self.invariant.exchange c.self.invariant.slots k)

pub invariant_of-self : goal.invariant_of-self
invariant_of-self c =
    let x = c.self.inside in
    let moved = pass_moved c.args.link x.moment x.unlinked x.entries.items c.deref_mut.result.now c.move_on-said.new.entries x.maintenance c.move_on-said.new.maintenance c.move_on-said.result x.live x.waiting x.following.items c.deref.result.now c.followers-second.result x.due c.blocked-blocked.result c.is_back-back.result c.args.self.now c.self.invariant c.deref_mut.ensures.value c.deref.ensures.value c.self.view_is c.blocked-blocked.ensures c.is_back-back.ensures c.followers-second.ensures c.move_on-said.ensures in
    let early : x.moment < 300000 = subst (λ (d : Day). d.moment < 300000) (sym c.self.view_is) c.requires in
    subst (λ l. IsIndexed (day_of (x.moment + 1) l (take x.entries.len (c.move_on-said.new.entries ++ drop (length c.move_on-said.new.entries) x.entries.items)) c.move_on-said.new.maintenance) c.settle.new.live c.settle.new.waiting x.following.items 0) (sym c.unlinked_after-self-inside.ensures)
    (pass_indexed c.args.link x.moment x.unlinked x.entries.len x.entries.items c.deref_mut.result.now c.move_on-said.new.entries c.deref-2.result.now x.maintenance c.move_on-said.new.maintenance c.move_on-said.result x.live x.waiting x.following.items c.settle.new.live c.settle.new.waiting
    early c.self.invariant.exchange c.self.invariant.slots c.deref_mut.ensures.value x.entries.ok.0 moved c.deref-2.ensures.value
    (subst (λ (b : List (Option ℕ)). (d : Day) → IsExchange d → d.moment < 300000 → c.deref-2.result.now ≡ map (after_in c.args.link d) d.entries → AreSlots d x.live x.waiting b → AreSlots (passed_in c.args.link d).day c.settle.new.live c.settle.new.waiting b) c.deref-3.ensures.value (c.settle.ensures c.args.link)))

pub returns-clause-day : goal.returns-clause-day
returns-clause-day c =
    let x = c.self.inside in
    let moved = pass_moved c.args.link x.moment x.unlinked x.entries.items c.deref_mut.result.now c.move_on-said.new.entries x.maintenance c.move_on-said.new.maintenance c.move_on-said.result x.live x.waiting x.following.items c.deref.result.now c.followers-second.result x.due c.blocked-blocked.result c.is_back-back.result c.args.self.now c.self.invariant c.deref_mut.ensures.value c.deref.ensures.value c.self.view_is c.blocked-blocked.ensures c.is_back-back.ensures c.followers-second.ensures c.move_on-said.ensures in
    ap (λ l. day_of (x.moment + 1) l (take x.entries.len (c.move_on-said.new.entries ++ drop (length c.move_on-said.new.entries) x.entries.items)) c.move_on-said.new.maintenance) c.unlinked_after-self-inside.ensures
    ∙ pass_day c.args.link x.moment x.unlinked x.entries.len x.entries.items c.deref_mut.result.now c.move_on-said.new.entries x.maintenance c.move_on-said.new.maintenance c.move_on-said.result c.deref_mut.ensures.value x.entries.ok.0 moved ∙ ap (λ (d : Day). (passed_in c.args.link d).day) c.self.view_is

pub returns-clause-said : goal.returns-clause-said
returns-clause-said c =
    let x = c.self.inside in
    let moved = pass_moved c.args.link x.moment x.unlinked x.entries.items c.deref_mut.result.now c.move_on-said.new.entries x.maintenance c.move_on-said.new.maintenance c.move_on-said.result x.live x.waiting x.following.items c.deref.result.now c.followers-second.result x.due c.blocked-blocked.result c.is_back-back.result c.args.self.now c.self.invariant c.deref_mut.ensures.value c.deref.ensures.value c.self.view_is c.blocked-blocked.ensures c.is_back-back.ensures c.followers-second.ensures c.move_on-said.ensures in
    subst (λ (d : Day). SaysOnEach c.args.link d c.move_on-said.result) (ap (λ (es : List Entry). day_of x.moment x.unlinked es x.maintenance) c.deref_mut.ensures.value ∙ c.self.view_is) moved.said

pub returns-clause-slots : goal.returns-clause-slots
returns-clause-slots c =
    let x = c.self.inside in
    let moved = pass_moved c.args.link x.moment x.unlinked x.entries.items c.deref_mut.result.now c.move_on-said.new.entries x.maintenance c.move_on-said.new.maintenance c.move_on-said.result x.live x.waiting x.following.items c.deref.result.now c.followers-second.result x.due c.blocked-blocked.result c.is_back-back.result c.args.self.now c.self.invariant c.deref_mut.ensures.value c.deref.ensures.value c.self.view_is c.blocked-blocked.ensures c.is_back-back.ensures c.followers-second.ensures c.move_on-said.ensures in
    moved.sizes
