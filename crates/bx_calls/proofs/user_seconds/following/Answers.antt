use Rattle.std.proofs.Common.{sym, ap, ◌∙◌}
use Rattle.bx_calls.specs.UserTable.{user_later}
use Rattle.bx_calls.specs.declared.user_state.UserState.TheVariants as state
use Rattle.bx_calls.proofs.user_seconds.following.Goals as goal

pub returns-in-CallInitiated : goal.returns-in-CallInitiated
returns-in-CallInitiated c = ap (λ x. state.CallInitiated c.in-CallInitiated.again x) c.later.ensures ∙ ap (user_later c.args.moment) (sym c.in-CallInitiated.is)

pub returns-in-OutgoingCallProceeding : goal.returns-in-OutgoingCallProceeding
returns-in-OutgoingCallProceeding c = ap state.OutgoingCallProceeding c.later-in-OutgoingCallProceeding.ensures ∙ ap (user_later c.args.moment) (sym c.in-OutgoingCallProceeding.is)
