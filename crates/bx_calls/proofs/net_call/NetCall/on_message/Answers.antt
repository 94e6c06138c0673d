use Rattle.std.proofs.Common.{rules, sym, ap, ◌∙◌}
use Rattle.bx_calls.proofs.ByRules.{chosen_last, row_by_rules}
use Rattle.bx_calls.specs.Hearing.{heard_under}
use Rattle.bx_calls.specs.NetTable.{net_row}
use Rattle.bx_calls.specs.PlainCalls.{PlainNetCall}
use Rattle.bx_calls.proofs.net_call.NetCall.on_message.Goals as goal

pub returns-then-is_contradicted : goal.returns-then-is_contradicted
returns-then-is_contradicted c = search rules steps 400000

pub returns-else-is_ringing : goal.returns-else-is_ringing
returns-else-is_ringing c = chosen_last _ _ _ _ _ _ _ _ _ _ _ _
    (sym (c.is_contradicted.ensures c.args.rules) ∙ c.if-is_contradicted.false)
    (sym (c.is_unacknowledged.ensures c.args.rules) ∙ c.if-is_unacknowledged.false)
    (sym c.is_put_off.ensures ∙ c.if-is_put_off.false)
    (sym c.is_unconnected.ensures ∙ c.if-is_unconnected.false)
    (sym c.is_ringing.ensures ∙ c.if-is_ringing.false)
    (c.on_heard.ensures ∙ row_by_rules c.args.rules c.awake.result c.args.message.now c.args.moment c.awake.result.state c.args.message.now.kind ∙ ap (λ (x : PlainNetCall). net_row x (heard_under c.args.rules c.args.message.now) c.args.moment x.state c.args.message.now.kind) c.awake.ensures)
