use Rattle.std.proofs.Common.{◌≡◌, None, sym, subst, ap, ◌∙◌}
use Rattle.bx_calls.specs.NetTable.{net_to, net_later, IsDueBy}
use Rattle.bx_calls.specs.PlainCalls.{PlainNetCall}
use Rattle.bx_calls.proofs.net_call.NetCall.outlasts.Goals as goal

pub returns : goal.returns
returns c latest timed room =
    let at : c.self.inside.state ≡ c.args.self.state = ap (λ (x : PlainNetCall). x.state) c.self.view_is in
    c.goes.ensures ∙ ap (λ s. net_to c.args.self None s) (c.following-state.ensures latest (subst (IsDueBy latest) (sym at) timed) room ∙ ap (net_later c.args.rules c.args.seconds c.args.moment) at)
