use Rattle.std.proofs.Common.{Err, ap, ◌∙◌}
use Rattle.bx_audit.proofs.last_plans.prices_of.Goals as goal

pub unreachable-requires : goal.unreachable-requires
unreachable-requires c =
    let t = c.in-Err-TooManyMust.field-0-0 in
    c.requires t ((c.plan.ensures.musts t).0 (c.in-Err-TooManyMust.is ∙ ap (λ f. Err f) c.in-Err-TooManyMust.field-0-is))
