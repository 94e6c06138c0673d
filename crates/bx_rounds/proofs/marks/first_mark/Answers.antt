use Rattle.bx_rounds.proofs.Marking.{first_marks}
use Rattle.bx_rounds.proofs.marks.first_mark.Goals as goal

pub returns : goal.returns
returns c =
    rw (c.in_ok-ranks.ensures.items_if_clones_equal (λ y h. h), c.in_ok-last.ensures.items_if_clones_equal (λ y h. h), c.places-places.ensures.count) (first_marks c.args.line.now c.args.steps.now c.args.lengths.now c.requires)
