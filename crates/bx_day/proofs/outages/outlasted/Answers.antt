use Rattle.bx_day.proofs.Outlasting.{call_outlasted}
use Rattle.bx_day.proofs.outages.outlasted.Goals as goal

pub returns-in-OnCall : goal.returns-in-OnCall
returns-in-OnCall c latest timed room =
    call_outlasted c.args.rules latest c.args.seconds c.args.moment c.end-end.result c.args.entry.now.booking c.args.entry.now.standing c.in-OnCall.call c.in-OnCall.activity c.on_seconds_unlinked-step.result c.follow.result c.in-OnCall.is c.end-end.ensures.value c.on_seconds_unlinked-step.ensures c.follow.ensures timed room
