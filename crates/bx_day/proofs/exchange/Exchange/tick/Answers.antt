use Rattle.std.proofs.Common.{◌<◌, sym, ap, subst, ◌∙◌, length, arith}
use Rattle.bx_day.specs.Day.{Day}
use Rattle.bx_day.specs.Ticks.{tick}
use Rattle.bx_calls.specs.Sending.{Sent, spelled}
use Rattle.bx_day.specs.Passing.{day_of}
use Rattle.bx_day.specs.Reading.{IsExchange}
use Rattle.bx_day.proofs.IndexLemmas.{idle_now, idle_indexed, indexed_due}
use Rattle.bx_day.specs.QuietSeconds.{IsFirstDue}
use Rattle.bx_day.proofs.Passing.{few_somes, sent_is, tick_is}
use Rattle.bx_day.proofs.Once.{says_once}
use Rattle.bx_day.proofs.exchange.Exchange.tick.Goals as goal

pub invariant_of-self : goal.invariant_of-self
invariant_of-self c = idle_indexed (day_of c.self.inside.moment c.self.inside.unlinked c.self.inside.entries.items c.self.inside.maintenance) c.self.inside.live c.self.inside.waiting c.self.inside.following.items c.self.inside.due c.if-self.true c.self.invariant

pub returns-then-self-clause-day : goal.returns-then-self-clause-day
returns-then-self-clause-day c =
    let idle = idle_now (day_of c.self.inside.moment c.self.inside.unlinked c.self.inside.entries.items c.self.inside.maintenance) c.self.inside.live c.self.inside.waiting c.self.inside.following.items c.self.inside.due c.if-self.true c.self.invariant in
    sym (ap (λ (s : Sent Day). s.day) idle) ∙ ap (λ (d : Day). (tick d).day) c.self.view_is

pub returns-then-self-clause-sent : goal.returns-then-self-clause-sent
returns-then-self-clause-sent c =
    let idle = idle_now (day_of c.self.inside.moment c.self.inside.unlinked c.self.inside.entries.items c.self.inside.maintenance) c.self.inside.live c.self.inside.waiting c.self.inside.following.items c.self.inside.due c.if-self.true c.self.invariant in
    c.new-then-self.ensures ∙ sym (ap (λ (s : Sent Day). spelled s.sent) idle) ∙ ap (λ (d : Day). spelled (tick d).sent) c.self.view_is

pub returns-then-self-clause-once : goal.returns-then-self-clause-once
returns-then-self-clause-once c = says_once c.args.self.now (subst IsExchange c.self.view_is c.self.invariant.exchange)

pub returns-then-self-ge-LAST_MOMENT-clause-once : goal.returns-then-self-ge-LAST_MOMENT-clause-once
returns-then-self-ge-LAST_MOMENT-clause-once c = says_once c.args.self.now (subst IsExchange c.self.view_is c.self.invariant.exchange)

pub returns-clause-once : goal.returns-clause-once
returns-clause-once c = says_once c.args.self.now (subst IsExchange c.self.view_is c.self.invariant.exchange)

pub spell-requires : goal.spell-requires
spell-requires c = few_somes c.args.self.now c.pass-said.result (subst IsExchange c.self.view_is c.self.invariant.exchange) c.pass-said.ensures.slots c.pass-said.ensures.said

pub invariant_of-self-2 : goal.invariant_of-self-2
invariant_of-self-2 c =
    let x = c.self-2.inside in
    let d = day_of x.moment x.unlinked x.entries.items x.maintenance in
    indexed_due d x.live x.waiting x.following.items x.due c.next_due-self-inside.result (subst (λ (y : Day). IsFirstDue y (length y.entries) c.next_due-self-inside.result) (sym c.self-2.view_is) c.next_due-self-inside.ensures) c.self-2.invariant

pub returns-clause-sent : goal.returns-clause-sent
returns-clause-sent c =
    let d = c.args.self.now in
    let early : d.moment < 300000 = omega (arith, c.if-self-ge-LAST_MOMENT.false, ap (λ (y : Day). y.moment) c.self.view_is) in
    c.spell.ensures ∙ ap spelled (sent_is d c.pass-said.result (subst IsExchange c.self.view_is c.self.invariant.exchange) c.pass-said.ensures.slots c.pass-said.ensures.said ∙ ap (λ (s : Sent Day). s.sent) (sym (tick_is d early)))
