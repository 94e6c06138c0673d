use Rattle.std.proofs.Common.{subst, Result}
use Rattle.bx_office.specs.Inside.{IsHeadTaken}
use Rattle.bx_office.specs.declared.gate.Refusal.{Refusal}
use Rattle.bx_office.specs.declared.gate.Route.{Route}
use Rattle.bx_office.proofs.Taken.{body_begun}
use Rattle.bx_office.proofs.client.Client.begin.Goals as goal

pub returns-in-Ok-clause-stage : goal.returns-in-Ok-clause-stage
returns-in-Ok-clause-stage c =
    body_begun c.args.spans.now c.args.head.now c.args.self.now c.take_head.new.self c.admit.new.self c.in-Ok.route
    (subst (λ (v : Result Route Refusal). IsHeadTaken c.args.spans.now c.args.head.now c.args.self.now c.take_head.new.self v) c.in-Ok.is c.in-Some.ensures.taken) c.take_head.ensures.unread c.take_head.ensures.server c.admit.ensures.stage
