use Rattle.std.proofs.Common.{◌≡◌, Some, None, sym, subst, ap, ◌∙◌, arith}
use Rattle.bx_day.specs.Calling.{awaits}
use Rattle.bx_day.specs.Day.{Day, entry_at}
use Rattle.bx_day.specs.Receipts.{opens}
use Rattle.bx_day.specs.Reading.{IsExchange}
use Rattle.bx_day.specs.Slots.{slot_at, IsWaitingOn}
use Rattle.bx_day.specs.declared.entry.Entry.{Entry}
use Rattle.bx_day.proofs.Received.{opening_taken, opens_free}
use Rattle.bx_day.proofs.SlotLemmas.{nothing_opens, first_opens, first_closed, slot_is, slot_none, entry_is}
use Rattle.bx_day.proofs.exchange.Exchange.open_on.Goals.{After-awaits_call}
use Rattle.bx_day.proofs.exchange.Exchange.open_on.Goals as goal

pub returns-then-not-is_free-clause-first : goal.returns-then-not-is_free-clause-first
returns-then-not-is_free-clause-first c = sym (opening_taken c.args.self.now c.args.channel (sym c.is_free.ensures ∙ c.if-not-is_free.true))

pub returns-in_default-clause-first : goal.returns-in_default-clause-first
returns-in_default-clause-first c =
    let d = c.args.self.now in
    let x = c.self.inside in
    let n = c.number-number.result in
    let slot : slot_at x.waiting n ≡ None = slot_none x.waiting n _ (omega (arith, c.self.invariant.slots.waiting_size, c.number-number.ensures.channel.1)) c.in_default.not-Some in
    let waits : IsWaitingOn d.entries n (slot_at x.waiting n) = subst (λ (y : Day). IsWaitingOn y.entries n (slot_at x.waiting n)) c.self.view_is (c.self.invariant.slots.waits n) in
    sym (nothing_opens d c.args.channel (slot_at x.waiting n) slot (subst (λ k. IsWaitingOn d.entries k (slot_at x.waiting n)) c.number-number.ensures.value waits))

pub index-requires : goal.index-requires
index-requires c =
    let x = c.self.inside in
    let n = c.number-number.result in
    let slot : slot_at x.waiting n ≡ Some c.in-Some.index = slot_is x.waiting n _ (Some c.in-Some.index) (omega (arith, c.self.invariant.slots.waiting_size, c.number-number.ensures.channel.1)) c.in-Some.is in
    omega (arith, ((c.self.invariant.slots.waits n).there c.in-Some.index slot).0, x.entries.ok)

-- the entry that waits on the channel, and whether it opens is what the code tests
waiting : (c : After-awaits_call) → let d = c.args.self.now in let slot = slot_at c.self.inside.waiting c.number-number.result in
    (slot ≡ Some c.in-Some.index) × IsWaitingOn d.entries c.args.channel slot × (opens d c.args.channel (entry_at d.entries c.in-Some.index) ≡ c.awaits_call.result)
waiting c =
    let d = c.args.self.now in
    let x = c.self.inside in
    let n = c.number-number.result in
    let r = c.in-Some.index in
    let slot : slot_at x.waiting n ≡ Some r = slot_is x.waiting n _ (Some r) (omega (arith, c.self.invariant.slots.waiting_size, c.number-number.ensures.channel.1)) c.in-Some.is in
    let waits : IsWaitingOn d.entries n (slot_at x.waiting n) = subst (λ (y : Day). IsWaitingOn y.entries n (slot_at x.waiting n)) c.self.view_is (c.self.invariant.slots.waits n) in
    let item = entry_is x.entries.items d r c.index.result.now (ap (λ (y : Day). y.entries) c.self.view_is) ((c.self.invariant.slots.waits n).there r slot).0 c.index.ensures in (
      slot,
      subst (λ k. IsWaitingOn d.entries k (slot_at x.waiting n)) c.number-number.ensures.value waits,
      opens_free d c.args.channel (entry_at d.entries r) (sym c.is_free.ensures ∙ c.if-not-is_free.false) ∙ ap (λ (e : Entry). awaits d.moment c.args.channel e) (sym item)
          ∙ ap (λ k. awaits d.moment k c.index.result.now) (sym c.number-number.ensures.value) ∙ ap (λ (y : Day). awaits y.moment n c.index.result.now) (sym c.self.view_is) ∙ sym c.awaits_call.ensures,
    )

pub returns-then-not-awaits_call-clause-first : goal.returns-then-not-awaits_call-clause-first
returns-then-not-awaits_call-clause-first c =
    let w = waiting (goal.at.returns-then-not-awaits_call-clause-first c).After-awaits_call in
    sym (first_closed c.args.self.now c.args.channel c.in-Some.index _ (subst IsExchange c.self.view_is c.self.invariant.exchange) w.0 w.1 (w.2 ∙ c.if-not-awaits_call.true))

pub returns-clause-first : goal.returns-clause-first
returns-clause-first c =
    let w = waiting (goal.at.returns-clause-first c).After-awaits_call in
    sym (first_opens c.args.self.now c.args.channel c.in-Some.index _ (subst IsExchange c.self.view_is c.self.invariant.exchange) w.0 w.1 (w.2 ∙ c.if-not-awaits_call.false))
