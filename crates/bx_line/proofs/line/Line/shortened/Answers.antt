use Rattle.std.proofs.Common.{◌≡◌, ℕ, List, rules}
use Rattle.std.proofs.lemmas.Result.{IfOk-weaker}
use Rattle.bx_line.specs.declared.arc.Arc.{Arc}
use Rattle.bx_line.specs.Cliques.{IsShortened, AreCounted}
use Rattle.bx_line.specs.Network.{Network, IsNetwork, network_of}
use Rattle.bx_line.proofs.Shortening.{count_few, shortened_in_limits}
use Rattle.bx_line.proofs.line.Line.shortened.Goals as goal

-- the arcs that are read are those of the line
counted_of : (line : Network) (counts : List ℕ) (read arcs : List Arc) → read ≡ line.arcs → AreCounted counts read arcs → AreCounted counts line.arcs arcs
counted_of line counts read arcs e h = rw (← e) h

pub count_moments-requires : goal.count_moments-requires
count_moments-requires c = count_few c.args.self.now c.args.counts.now c.places-places.ensures.limits c.requires.counts

pub joined-requires : goal.joined-requires
joined-requires c =
    let line = c.args.self.now in
    let counts = c.args.counts.now in
    let moments = c.in_ok-moments.ensures in
    let read : c.deref.result.now ≡ line.arcs = search rules in
    shortened_in_limits line counts c.places-places.ensures.limits c.requires.counts c.in_ok-moments.moments.items c.in_ok-arcs.arcs.items moments.rising moments.count moments.each (counted_of line counts c.deref.result.now c.in_ok-arcs.arcs.items read c.in_ok-arcs.ensures)

pub returns-clause-shorter : goal.returns-clause-shorter
returns-clause-shorter c =
    let line = c.args.self.now in
    let counts = c.args.counts.now in
    let read : c.deref.result.now ≡ line.arcs = search rules in
    let counted = counted_of line counts c.deref.result.now c.in_ok-arcs.arcs.items read c.in_ok-arcs.ensures in
    IfOk-weaker c.joined.result (λ short. short ≡ network_of c.in_ok-moments.moments.items c.in_ok-arcs.arcs.items) (IsShortened line counts) (λ short e. rw e (record { places = c.in_ok-moments.ensures.count; moments = c.in_ok-moments.ensures.each; arcs = counted })) c.joined.ensures

pub returns-clause-limits : goal.returns-clause-limits
returns-clause-limits c =
    let line = c.args.self.now in
    let counts = c.args.counts.now in
    let moments = c.in_ok-moments.ensures in
    let read : c.deref.result.now ≡ line.arcs = search rules in
    let limits = shortened_in_limits line counts c.places-places.ensures.limits c.requires.counts c.in_ok-moments.moments.items c.in_ok-arcs.arcs.items moments.rising moments.count moments.each (counted_of line counts c.deref.result.now c.in_ok-arcs.arcs.items read c.in_ok-arcs.ensures) in
    IfOk-weaker c.joined.result (λ short. short ≡ network_of c.in_ok-moments.moments.items c.in_ok-arcs.arcs.items) IsNetwork (λ short e. rw e limits) c.joined.ensures
