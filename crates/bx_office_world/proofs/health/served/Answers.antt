use Rattle.std.proofs.Common.{◌≡◌, ap, ◌∙◌, ℕ, arith}
use Rattle.bx_office_world.specs.Health.{served_below}
use Rattle.bx_office_world.proofs.health.served.Goals as goal

pub returns : goal.returns
returns c =
    let all : c.loop-number.number ≡ 32 = omega arith in
    c.loop-number.invariant.so_far ∙ ap (λ (n : ℕ). served_below c.args.exchange.now c.args.channels n) all
