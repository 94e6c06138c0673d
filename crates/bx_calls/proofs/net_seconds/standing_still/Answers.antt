use Rattle.std.proofs.Common.{◌≤◌, sym, ap, ◌∙◌, arith}
use Rattle.bx_calls.specs.NetTable.{net_due, net_rings_on, net_lost}
use Rattle.bx_calls.specs.declared.net_state.NetState.TheVariants as state
use Rattle.bx_calls.proofs.net_seconds.standing_still.Goals as goal

pub returns-in-IncomingCallProceeding : goal.returns-in-IncomingCallProceeding
returns-in-IncomingCallProceeding c latest timed room =
    let most : c.in-IncomingCallProceeding.due ≤ latest = timed c.in-IncomingCallProceeding.due (ap net_due c.in-IncomingCallProceeding.is) in
    c.ringing_on.ensures ∙ ap (λ x. net_rings_on c.args.rules c.args.moment (state.IncomingCallProceeding x)) (c.later-due.ensures (omega (arith, most, room)))
    ∙ ap (net_lost c.args.rules c.args.seconds c.args.moment) (sym c.in-IncomingCallProceeding.is)

pub returns-in-CallReceived : goal.returns-in-CallReceived
returns-in-CallReceived c latest timed room =
    let most : c.in-CallReceived.due ≤ latest = timed c.in-CallReceived.due (ap net_due c.in-CallReceived.is) in
    c.ringing_on-in-CallReceived.ensures ∙ ap (λ x. net_rings_on c.args.rules c.args.moment (state.CallReceived x)) (c.later-due-in-CallReceived.ensures (omega (arith, most, room)))
    ∙ ap (net_lost c.args.rules c.args.seconds c.args.moment) (sym c.in-CallReceived.is)
