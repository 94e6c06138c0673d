use Rattle.std.proofs.Common.{sym, ◌∙◌}
use Rattle.bx_calls.specs.Said.{said_under}
use Rattle.bx_day.proofs.PutLemmas.{named_there_live}
use Rattle.bx_day.proofs.exchange.Exchange.receive_call.Goals as goal

pub follow-requires-clause-live : goal.follow-requires-clause-live
follow-requires-clause-live c =
    let m = c.args.message.now in
    named_there_live c.args.self.now (said_under c.args.rules c.args.reference c.args.flag m) c.in-Some.index (sym (c.named.ensures.first c.args.rules m) ∙ c.in-Some.is)
