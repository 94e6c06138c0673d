use Rattle.std.proofs.Common.{◌≡◌, ◌<◌, Some, None, sym, subst, ap, ◌∙◌, length, arith}
use Rattle.std.specs.List.{position}
use Rattle.bx_day.specs.Day.{Day, holds}
use Rattle.bx_day.specs.Slots.{slot_at}
use Rattle.bx_day.proofs.SlotLemmas.{holder_is, slot_is}
use Rattle.bx_day.proofs.exchange.Exchange.holder.Goals as goal

pub returns-in-Some-clause-first : goal.returns-in-Some-clause-first
returns-in-Some-clause-first c =
    let d = c.args.self.now in
    let x = c.self.inside in
    let slot : slot_at x.live c.args.channel ≡ Some c.in-Some.index = ap (slot_at x.live) (sym c.number.ensures.value) ∙ slot_is x.live c.number.result _ (Some c.in-Some.index) (omega (arith, c.self.invariant.slots.live_size, c.number.ensures.channel.1)) c.in-Some.is in
    sym slot ∙ holder_is x.entries.items c.args.channel (slot_at x.live c.args.channel) (c.self.invariant.slots.lives c.args.channel) ∙ ap (λ (y : Day). position (holds c.args.channel) y.entries) c.self.view_is

pub returns-in-Some-clause-inside : goal.returns-in-Some-clause-inside
returns-in-Some-clause-inside c =
    let x = c.self.inside in
    let slot : slot_at x.live c.number.result ≡ Some c.in-Some.index = slot_is x.live c.number.result _ (Some c.in-Some.index) (omega (arith, c.self.invariant.slots.live_size, c.number.ensures.channel.1)) c.in-Some.is in
    subst (λ (y : Day). c.in-Some.index < length y.entries) c.self.view_is ((c.self.invariant.slots.lives c.number.result).there c.in-Some.index slot).0

pub returns-in-None-clause-first : goal.returns-in-None-clause-first
returns-in-None-clause-first c =
    let x = c.self.inside in
    let slot : slot_at x.live c.args.channel ≡ None = ap (slot_at x.live) (sym c.number.ensures.value) ∙ slot_is x.live c.number.result _ None (omega (arith, c.self.invariant.slots.live_size, c.number.ensures.channel.1)) c.in-None.is in
    sym slot ∙ holder_is x.entries.items c.args.channel (slot_at x.live c.args.channel) (c.self.invariant.slots.lives c.args.channel) ∙ ap (λ (y : Day). position (holds c.args.channel) y.entries) c.self.view_is
