use Rattle.bx_day.proofs.Outlasting.{call_unlinked}
use Rattle.bx_day.proofs.moving.unlinked.Goals as goal

pub returns-in-OnCall : goal.returns-in-OnCall
returns-in-OnCall c latest timed room =
    call_unlinked c.args.rules latest c.args.moment c.end.result c.args.entry.now c.args.entry.now.standing c.in-OnCall.call c.in-OnCall.activity c.on_seconds_unlinked-step.result c.follow.result c.in-OnCall.is c.end.ensures.value c.on_seconds_unlinked-step.ensures c.follow.ensures timed room
