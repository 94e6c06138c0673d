use Rattle.std.proofs.Common.{ap, ap₂, ◌∙◌}
use Rattle.bx_day.specs.Day.{Day}
use Rattle.bx_day.specs.Handing.{left_over}
use Rattle.bx_day.proofs.Handed.{ready}
use Rattle.bx_day.proofs.exchange.Exchange.may_hand_over.Goals as goal

pub returns : goal.returns
returns c =
    let plan = c.args.plan.now in
    let d = c.args.self.now in
    let same = c.deref-2.ensures.value ∙ c.in_ok-left.ensures ∙ ap₂ left_over (ap (λ (y : Day). y.moment) c.self.view_is) (c.deref.ensures.value ∙ ap (λ (y : Day). y.entries) c.self.view_is) in
    let r = ready c.args.base c.self.inside.moment d plan.bookings plan.assigned.items c.deref-2.result.now same (ap (λ (y : Day). y.moment) c.self.view_is) in
    (λ b. r.0 (c.are_ready.ensures.0 b), λ h. c.are_ready.ensures.1 (r.1 h))
