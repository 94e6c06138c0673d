use Rattle.std.proofs.Common.{◌+◌, refl, sym, ap}
use Rattle.bx_far.specs.FarDay.{far_without_link}
use Rattle.bx_live.specs.declared.world.Begin.TheVariants as begins
use Rattle.bx_live.specs.declared.world.Loss.TheVariants as losses
use Rattle.bx_live.specs.Acts.{Began, Dropped}
use Rattle.bx_link.specs.Runs.{Between, Losing}
use Rattle.bx_link.proofs.Moments.{without_rises}
use Rattle.bx_link.proofs.Steps.{one_done, then_done, at_place}
use Rattle.bx_link.proofs.running.run_second.Goals as goal

pub returns-in-Joined-clause-ran : goal.returns-in-Joined-clause-ran
returns-in-Joined-clause-ran g c =
    let d = c.args.far.now in
    let began = rw c.moment.ensures.value at c.in-Joined.ensures in
    then_done g.met.W.World.did_more (one_done (Between d) (Began (d.moment + 1) begins.Joined) began refl) c.pass_with_link.ensures.ran

pub returns-in-Alone-clause-ran : goal.returns-in-Alone-clause-ran
returns-in-Alone-clause-ran g c =
    let d = c.args.far.now in
    let began = rw c.moment.ensures.value at c.in-Alone.ensures in
    at_place (Between (far_without_link d)) (Between c.second_without_link.new.self) (ap Between (sym c.second_without_link.ensures)) (one_done (Between d) (Began (d.moment + 1) begins.Alone) began refl)

pub returns-in-Late-clause-ran : goal.returns-in-Late-clause-ran
returns-in-Late-clause-ran g c =
    let d = c.args.far.now in
    let d1 = far_without_link d in
    let began = rw c.moment.ensures.value at c.in-Late.ensures in
    at_place (Between d1) (Between c.second_without_link-in-Late.new.self) (ap Between (sym c.second_without_link-in-Late.ensures))
    (then_done g.met.W.World.did_more (one_done (Between d) (Began (d.moment + 1) begins.Late) began refl) (one_done (Losing d1 losses.Late) (Dropped losses.Late) c.drop_peer.ensures refl))

pub returns-in-Alone-clause-moment : goal.returns-in-Alone-clause-moment
returns-in-Alone-clause-moment g c = without_rises c.args.far.now c.second_without_link.new.self c.second_without_link.ensures

pub returns-in-Late-clause-moment : goal.returns-in-Late-clause-moment
returns-in-Late-clause-moment g c = without_rises c.args.far.now c.second_without_link-in-Late.new.self c.second_without_link-in-Late.ensures

pub returns-in-Ended-clause-said : goal.returns-in-Ended-clause-said
returns-in-Ended-clause-said g c =
    let d = c.args.far.now in
    let began = rw c.moment.ensures.value at c.in-Ended.ensures in
    (one_done (Between d) (Began (d.moment + 1) begins.Ended) began refl, refl)
