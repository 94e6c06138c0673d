use Rattle.std.proofs.Common.{Bool, Option, ℕ, sym, ap, ◌∙◌}
use Rattle.std.specs.List.{position}
use Rattle.bx_q931.specs.declared.channel_field.ChannelField.TheVariants.{Named}
use Rattle.bx_calls.specs.Said.{said_under}
use Rattle.bx_day.specs.Day.{Day}
use Rattle.bx_day.specs.Receipts.{called_on, opens, takes_or}
use Rattle.bx_calls.specs.Sending.{Answered}
use Rattle.bx_day.proofs.Received.{opening_opens, preferred_opens, preferred_takes}
use Rattle.bx_day.proofs.exchange.Exchange.called_at.Goals as goal

pub take-requires-clause-open : goal.take-requires-clause-open
take-requires-clause-open c = opening_opens c.args.self.now c.args.channel c.open_on-index.result c.open_on-index.ensures.first

pub take-requires-else-exclusive-clause-open : goal.take-requires-else-exclusive-clause-open
take-requires-else-exclusive-clause-open c = preferred_opens c.args.self.now c.args.channel c.preferred-index.result c.preferred-index.ensures.first

pub returns-else-exclusive-clause-day : goal.returns-else-exclusive-clause-day
returns-else-exclusive-clause-day c u flag m =
    let d = c.args.self.now in
    let s = said_under u c.args.reference flag m in
    c.take-else-exclusive.ensures.day u flag m ∙ ap (λ (o : Option ℕ). (takes_or d s 34 o).day) c.preferred-index.ensures.first
    ∙ ap (λ (a : Answered Day). a.day) (preferred_takes d s (position (opens d c.args.channel) d.entries))
    ∙ sym (ap (λ (b : Bool). (called_on d s (Named c.args.channel b)).day) c.if-exclusive.false)

pub returns-else-exclusive-clause-reply : goal.returns-else-exclusive-clause-reply
returns-else-exclusive-clause-reply c u flag m =
    let d = c.args.self.now in
    let s = said_under u c.args.reference flag m in
    c.take-else-exclusive.ensures.reply u flag m ∙ ap (λ (o : Option ℕ). (takes_or d s 34 o).reply) c.preferred-index.ensures.first
    ∙ ap (λ (a : Answered Day). a.reply) (preferred_takes d s (position (opens d c.args.channel) d.entries))
    ∙ sym (ap (λ (b : Bool). (called_on d s (Named c.args.channel b)).reply) c.if-exclusive.false)
