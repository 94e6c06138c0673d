use Rattle.bx_events.specs.Events.{Receive}
use Rattle.bx_audit.proofs.Audited.{captured_on_link}
use Rattle.bx_audit.proofs.following.hear_one.Goals as goal

pub returns : goal.returns
returns g c = captured_on_link (Receive c.args.octets.now.items) c.hear-reply.ensures.kept.1
