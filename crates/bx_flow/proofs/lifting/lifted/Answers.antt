use Rattle.std.proofs.Common.{◌≡◌, ◌<◌, ℕ, length, ◌∙◌, arith}
use Rattle.bx_line.specs.Network.{places_of}
use Rattle.bx_line.proofs.Spanning.{crossing_fits, no_units}
use Rattle.bx_flow.proofs.WholeLine.{lifted_potentials}
use Rattle.bx_flow.proofs.lifting.lifted.Goals as goal

pub along-requires-clause-room : goal.along-requires-clause-room
along-requires-clause-room c =
    let short = c.requires in
    crossing_fits c.args.line.now c.args.counts.now short.shorter c.places-places.ensures.limits short.cliques short.shortened c.args.carried.now short.limits short.is_flow

pub along-requires-clause-no_gap : goal.along-requires-clause-no_gap
along-requires-clause-no_gap c =
    let short = c.requires in
    no_units c.args.line.now c.args.counts.now short.shorter c.places-places.ensures.limits short.cliques short.shortened c.args.carried.now short.limits short.is_flow

pub returns-clause-fits : goal.returns-clause-fits
returns-clause-fits c =
    let line = c.args.line.now in
    let counts = c.args.counts.now in
    let short = c.requires in
    let whole = c.in_ok-whole.ensures in
    let heights = c.in_ok-heights.ensures in
    let size : length c.in_ok-heights.heights ≡ places_of line = heights.one_each ∙ short.cliques.one_each in
    let each = λ (v : ℕ) (h : v < places_of line). heights.each v (omega (arith, h, short.cliques.one_each)) in
    lifted_potentials line counts c.args.carried.now c.args.potentials.now c.places-places.ensures.limits short c.in_ok-whole.whole c.in_ok-heights.heights whole.flow whole.accepted whole.units each size
