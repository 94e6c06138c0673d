use Rattle.std.proofs.Common.{sym, ◌∙◌}
use Rattle.bx_calls.specs.Hearing.{heard_of}
use Rattle.bx_calls.proofs.EveryState.{progress_of, user_every}
use Rattle.bx_calls.proofs.user_call.UserCall.on_message.Goals as goal

pub returns-in-Some : goal.returns-in-Some
returns-in-Some c =
    let row = rw (c.status-status.ensures, c.released.ensures) at (sym c.in_every_state.ensures ∙ c.in-Some.is) in
    user_every c.args.self (heard_of c.args.message.now) c.args.moment c.args.self.state c.args.message.now.kind c.in-Some.transition row

pub on_progress-requires-clause-kind : goal.on_progress-requires-clause-kind
on_progress-requires-clause-kind c =
    rw c.kind.ensures (progress_of c.args.self (heard_of c.args.message.now) c.status-status.result c.released.result c.args.message.now.kind (sym c.in_every_state.ensures ∙ c.in-None.is))
