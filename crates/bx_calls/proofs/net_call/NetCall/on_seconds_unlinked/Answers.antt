use Rattle.std.proofs.Common.{arith, sym, ◌∙◌}
use Rattle.bx_calls.proofs.Unlinked.{goes_on_unlinked, clears_unlinked}
use Rattle.bx_calls.proofs.net_call.NetCall.on_seconds_unlinked.Goals as goal
use Rattle.bx_calls.proofs.net_call.NetCall.on_seconds_unlinked.Goals.{else-moment-end-via-then-moment-end+else-not-is_clearing, else-moment-end-via-else-moment-end}

pub returns-else-moment-end : goal.returns-else-moment-end
returns-else-moment-end c latest timed room =
    let step = c.outlasts.ensures latest timed room in
    elim c.else-moment-end.branch [
      | else-moment-end-via-then-moment-end+else-not-is_clearing w ↦ clears_unlinked c.args.rules c.args.seconds c.args.moment c.args.end c.args.self _ (sym w.is_clearing.ensures ∙ w.if-not-is_clearing.false) step
      | else-moment-end-via-else-moment-end w ↦ goes_on_unlinked c.args.rules c.args.seconds c.args.moment c.args.end c.args.self _ (omega (arith, w.if-moment-end.false)) step
    ]
