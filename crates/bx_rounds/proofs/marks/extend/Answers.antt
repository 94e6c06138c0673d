use Rattle.std.proofs.Common.{◌≡◌, ◌<◌, get_or, ◌∙◌, arith}
use Rattle.std.proofs.lemmas.Grind.{get_or_default_zero}
use Rattle.bx_rounds.proofs.Marking.{marks_more, count_few}
use Rattle.bx_rounds.proofs.marks.extend.Goals as goal

pub overflow_add-marks : goal.overflow_add-marks
overflow_add-marks c =
    omega (arith, count_few c.args.line.now c.args.steps.now c.args.lengths.now c.args.marks.now.ranks.items c.args.marks.now.last.items c.args.marks.now.count c.requires.places, c.places-places.ensures.limits.few_places)

pub returns-clause-places : goal.returns-clause-places
returns-clause-places c =
    let ends = c.ends_of-from in
    let ranks = c.args.marks.now.ranks.items in
    let from_read = c.index.ensures ∙ get_or_default_zero ranks ends.result.0 c.index.result.now (omega (arith, c.requires.places.ranks_each, ends.ensures.from_within)) in
    let to_read = c.index-else-index-eq0.ensures ∙ get_or_default_zero ranks ends.result.1 c.index-else-index-eq0.result.now (omega (arith, c.requires.places.ranks_each, ends.ensures.to_within)) in
    let reached : 0 < get_or ranks ends.result.0 0 = omega (arith, from_read, c.if-index-eq0.false) in
    let fresh : get_or ranks ends.result.1 0 ≡ 0 = omega (arith, to_read, c.if-index-ne0.false) in
    marks_more c.args.line.now c.args.steps.now c.args.lengths.now ranks c.args.marks.now.last.items c.args.marks.now.count c.requires.places c.args.step ends.result.0 ends.result.1 ends.ensures.from ends.ensures.to ends.ensures.to_within c.requires.there (c.is_tight.ensures.0 c.if-not-is_tight.false) reached fresh
