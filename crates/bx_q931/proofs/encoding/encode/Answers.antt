use Rattle.std.proofs.Common.{◌≡◌, ◌≤◌, ◌∙◌, sym, ap, subst, rules, IfSome, length}
use Rattle.bx_channels.specs.ChannelNumbers.{IsChannel}
use Rattle.bx_channels.specs.Numbers.{IsNumber}
use Rattle.bx_q931.specs.Messages.{message_at}
use Rattle.bx_q931.specs.Outgoing.{Outgoing, IsOutgoing, out_octets}
use Rattle.bx_q931.proofs.PartsLemmas.{written_again, has_parts, few_octets}
use Rattle.bx_q931.proofs.encoding.encode.Goals as goal

pub returns-clause-limit : goal.returns-clause-limit
returns-clause-limit c =
    let spelled : c.push_called.new.octets.items ≡ out_octets c.args.out.now = search rules in
    let called = subst (λ (o : Outgoing). IfSome o.called IsNumber) c.out.view_is c.push_called.ensures.called in
    subst (λ os. length os ≤ 40) (sym spelled) (few_octets c.args.out.now called)

pub returns-clause-read : goal.returns-clause-read
returns-clause-read c =
    let spelled : c.push_called.new.octets.items ≡ out_octets c.args.out.now = search rules in
    let called = subst (λ (o : Outgoing). IfSome o.called IsNumber) c.out.view_is c.push_called.ensures.called in
    ap message_at spelled ∙ written_again c.args.out.now (subst IsOutgoing c.out.view_is c.out.invariant) called

pub returns-clause-parts : goal.returns-clause-parts
returns-clause-parts c =
    has_parts c.args.out.now (subst IsOutgoing c.out.view_is c.out.invariant)
    (subst (λ (o : Outgoing). IfSome o.channel (λ ch. IsChannel ch.0)) c.out.view_is c.push_channel.ensures.channel)
    (subst (λ (o : Outgoing). IfSome o.called IsNumber) c.out.view_is c.push_called.ensures.called)
