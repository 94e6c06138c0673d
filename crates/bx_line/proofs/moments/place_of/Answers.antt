use Rattle.std.proofs.lemmas.List.Sorted.{searched}
use Rattle.bx_line.proofs.MomentLemmas.{never_falls, not_between}
use Rattle.bx_line.proofs.moments.place_of.Goals as goal

pub unreachable-requires : goal.unreachable-requires
unreachable-requires c =
    let found = searched c.args.moments.now c.args.moment c.binary_search.result c.binary_search.ensures.position (never_falls c.args.moments.now c.requires.rising) in
    let between = rw c.in-Err.is at found in
    not_between c.args.moments.now c.args.moment c.in-Err.field-0 c.requires.there between.1 between.2
