use Rattle.std.proofs.Common.{◌≡◌, arith}
use Rattle.std.proofs.lemmas.Result.{IfOk-weaker}
use Rattle.bx_line.specs.Moments.{HasJustMoments}
use Rattle.bx_line.specs.Network.{AreArcsOf, IsNetwork, network_of}
use Rattle.bx_line.proofs.Limits.{network_in_limits}
use Rattle.bx_line.proofs.line.Line.of.Goals as goal

pub arcs_of-requires-clause-just : goal.arcs_of-requires-clause-just
arcs_of-requires-clause-just c = rw c.deref.ensures.value c.in_ok-moments.ensures.just

pub joined-requires : goal.joined-requires
joined-requires c =
    let moments = c.in_ok-moments.moments.items in
    network_in_limits c.args.bookings.now moments c.in_ok-arcs.arcs.items c.in_ok-arcs.ensures.bookings (omega (arith, c.in_ok-moments.ensures.few, c.in_ok-moments.moments.ok)) c.in_ok-moments.ensures.rising c.in_ok-moments.ensures.just (rw c.deref.ensures.value at c.in_ok-arcs.ensures.arcs)

pub returns-clause-moments : goal.returns-clause-moments
returns-clause-moments c =
    let joined = network_of c.in_ok-moments.moments.items c.in_ok-arcs.arcs.items in
    IfOk-weaker c.joined.result (λ line. line ≡ joined) (λ line. HasJustMoments c.args.bookings.now line.moments) (λ line e. rw e c.in_ok-moments.ensures.just) c.joined.ensures

pub returns-clause-arcs : goal.returns-clause-arcs
returns-clause-arcs c =
    let joined = network_of c.in_ok-moments.moments.items c.in_ok-arcs.arcs.items in
    IfOk-weaker c.joined.result (λ line. line ≡ joined) (λ line. AreArcsOf line.moments c.args.bookings.now line.arcs) (λ line e. rw e (rw c.deref.ensures.value at c.in_ok-arcs.ensures.arcs)) c.joined.ensures

pub returns-clause-limits : goal.returns-clause-limits
returns-clause-limits c =
    let moments = c.in_ok-moments.moments.items in
    let arcs = c.in_ok-arcs.arcs.items in
    IfOk-weaker c.joined.result (λ line. line ≡ network_of moments arcs) IsNetwork (λ line e. rw e (network_in_limits c.args.bookings.now moments arcs c.in_ok-arcs.ensures.bookings (omega (arith, c.in_ok-moments.ensures.few, c.in_ok-moments.moments.ok)) c.in_ok-moments.ensures.rising c.in_ok-moments.ensures.just (rw c.deref.ensures.value at c.in_ok-arcs.ensures.arcs))) c.joined.ensures
