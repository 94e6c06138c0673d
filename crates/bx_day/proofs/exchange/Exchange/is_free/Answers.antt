use Rattle.std.proofs.Common.{◌∙◌, ap, not}
use Rattle.bx_channels.specs.Marks.{is_marked}
use Rattle.bx_day.specs.Day.{Day}
use Rattle.bx_day.proofs.Received.{free_unheld, free_held}
use Rattle.bx_day.proofs.exchange.Exchange.is_free.Goals as goal

pub returns-then-is_none : goal.returns-then-is_none
returns-then-is_none c =
    let d = c.args.self.now in
    ap not (c.has.ensures ∙ ap (λ (x : Day). is_marked x.maintenance c.args.channel) c.self.view_is)
    ∙ free_unheld d c.args.channel c.holder.result c.holder.ensures.first (c.is_none.ensures ∙ ap not c.if-is_none.true)

pub returns-else-is_none : goal.returns-else-is_none
returns-else-is_none c = c.if-is_none.false ∙ free_held c.args.self.now c.args.channel c.holder.result c.holder.ensures.first (c.is_none.ensures ∙ ap not c.if-is_none.false)
