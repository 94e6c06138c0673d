use Rattle.std.proofs.Common.{refl}
use Rattle.bx_live.specs.declared.world.Begin.TheVariants as begins
use Rattle.bx_live.specs.declared.world.Loss.TheVariants as losses
use Rattle.bx_live.specs.Acts.{Dropped}
use Rattle.bx_live.specs.Runs.{Losing, Closing}
use Rattle.bx_live.proofs.Steps.{none_done, one_done, then_done, second_done}
use Rattle.bx_live.proofs.running.run_second.Goals as goal

pub returns-in-Joined-clause-ran : goal.returns-in-Joined-clause-ran
returns-in-Joined-clause-ran g c =
    let d = c.args.exchange.now in
    let began = rw c.moment.ensures.value at c.in-Joined.ensures in
    second_done g.met.W.World.did_more d c.pass_with_peer.new.exchange begins.Joined c.pass_with_peer.result began c.pass_with_peer.ensures.ran (λ e. absurd (c.pass_with_peer.ensures.passes e))

pub returns-in-Alone-clause-ran : goal.returns-in-Alone-clause-ran
returns-in-Alone-clause-ran g c =
    let d = c.args.exchange.now in
    let began = rw c.moment.ensures.value at c.in-Alone.ensures in
    second_done g.met.W.World.did_more d c.pass_without_link.new.exchange begins.Alone c.pass_without_link.result began c.pass_without_link.ensures.ran (λ e. absurd (c.pass_without_link.ensures.passes e))

pub returns-in-Late-clause-ran : goal.returns-in-Late-clause-ran
returns-in-Late-clause-ran g c =
    let d = c.args.exchange.now in
    let began = rw c.moment.ensures.value at c.in-Late.ensures in
    let rest = then_done g.met.W.World.did_more (one_done (Losing d losses.Late) (Dropped losses.Late) refl c.drop_peer.ensures refl) c.pass_without_link-in-Late.ensures.ran in
    second_done g.met.W.World.did_more d c.pass_without_link-in-Late.new.exchange begins.Late c.pass_without_link-in-Late.result began rest (λ e. absurd (c.pass_without_link-in-Late.ensures.passes e))

pub returns-in-Ended-clause-ran : goal.returns-in-Ended-clause-ran
returns-in-Ended-clause-ran g c =
    let d = c.args.exchange.now in
    let began = rw c.moment.ensures.value at c.in-Ended.ensures in
    second_done g.met.W.World.did_more d d begins.Ended _ began (none_done g.met.W.World.did_nothing c.begin.new.self (Closing d)) (λ e. refl)
