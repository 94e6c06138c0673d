use Rattle.std.proofs.Common.{◌≡◌, ◌<◌, ◌∙◌, ℕ, Option, true, length, if◌then◌else◌, slice_set, sym, subst, ap, arith}
use Rattle.std.proofs.lemmas.List.{get_or_default}
use Rattle.bx_day.specs.Day.{Day, is_unoffered, entry_at, no_entry}
use Rattle.bx_day.specs.Receipts.{with_moved}
use Rattle.bx_day.specs.Passing.{day_of}
use Rattle.bx_day.specs.Reading.{IsExchange}
use Rattle.bx_day.specs.Slots.{slot_at, AreSlots}
use Rattle.bx_day.specs.declared.entry.Entry.{Entry}
use Rattle.bx_day.proofs.PutLemmas.{IsTurned, next_slot, turned_accepted, put_slots}
use Rattle.bx_day.proofs.exchange.Exchange.put.Goals as goal

pub invariant_of-self : goal.invariant_of-self
invariant_of-self c =
    let x = c.self.inside in
    let i = c.args.index in
    let m = c.args.moved in
    let es = x.entries.items in
    let following = x.following.items in
    let d = day_of x.moment x.unlinked es x.maintenance in
    let slots = c.self.invariant.slots in
    let lt : i < length es = subst (λ (y : Day). i < length y.entries) (sym c.self.view_is) c.requires.inside in
    let item : entry_at es i ≡ c.index_mut.result.now = sym (c.index_mut.ensures.value ∙ get_or_default es i c.index_mut.result.now no_entry lt) in
    let old : entry_at es i ≡ c.index-entry.result.now = sym (c.index-entry.ensures ∙ get_or_default es i c.index-entry.result.now no_entry lt) in
    let moved : IsExchange (with_moved d i m).day = subst (λ (y : Day). IsExchange (with_moved y i m).day) (sym c.self.view_is) c.requires.exchange in
    let whole : IsExchange (day_of x.moment x.unlinked (slice_set es i (record (entry_at es i) { standing = m.standing })) x.maintenance) = subst (λ b. IsExchange (day_of x.moment x.unlinked (slice_set es i (record (entry_at es i) { standing = m.standing })) (if b then slice_set x.maintenance (entry_at es i).channel true else x.maintenance))) c.requires.whole moved in
    let now : IsExchange (day_of x.moment x.unlinked (slice_set es i (record c.index_mut.result.now { standing = m.standing })) x.maintenance) = subst (λ (e : Entry). IsExchange (day_of x.moment x.unlinked (slice_set es i (record e { standing = m.standing })) x.maintenance)) item whole in
    let turn : IsTurned d (entry_at es i) = subst (λ (y : Day). IsTurned y (entry_at y.entries i)) (sym c.self.view_is) c.requires.turn in
    let follows : slot_at following i ≡ c.index.result.now = sym (c.index.ensures ∙ get_or_default following i c.index.result.now _ (omega (arith, lt, slots.after_size))) in
    let next : next_slot d i x.waiting following ≡ c.waiting_slot.result = ap (λ (e : Entry). if is_unoffered e.standing then slot_at following i else slot_at x.waiting e.channel) old ∙ ap (λ o. if is_unoffered c.index-entry.result.now.standing then o else slot_at x.waiting c.index-entry.result.now.channel) follows ∙ sym c.waiting_slot.ensures in
    let kept = put_slots d i m.standing x.live x.waiting following c.live_slot.result c.self.invariant.exchange lt turn c.requires.begun c.requires.accepted (turned_accepted d (entry_at es i) turn) c.live_slot.ensures slots in
    record {
      exchange = now;
      known = λ one. absurd (omega (arith, one));
      slots =
          subst (λ (o : Option ℕ). AreSlots (day_of x.moment x.unlinked (slice_set es i (record c.index_mut.result.now { standing = m.standing })) x.maintenance) (slice_set x.live c.index-entry.result.now.channel c.live_slot.result) (slice_set x.waiting c.index-entry.result.now.channel o) following) next
          (subst (λ (n : ℕ). AreSlots (day_of x.moment x.unlinked (slice_set es i (record c.index_mut.result.now { standing = m.standing })) x.maintenance) (slice_set x.live n c.live_slot.result) (slice_set x.waiting n (next_slot d i x.waiting following)) following) (ap (λ (e : Entry). e.channel) old)
          (subst (λ (e : Entry). AreSlots (day_of x.moment x.unlinked (slice_set es i (record e { standing = m.standing })) x.maintenance) (slice_set x.live (entry_at es i).channel c.live_slot.result) (slice_set x.waiting (entry_at es i).channel (next_slot d i x.waiting following)) following) item kept));
    }
