use Rattle.std.proofs.Common.{◌<◌, length, slice_set, arith, ap, ◌∙◌}
use Rattle.std.proofs.lemmas.List.{get_or_default}
use Rattle.bx_day.specs.Day.{no_entry}
use Rattle.bx_day.proofs.ChangedIndex.{one_put, put_size}
use Rattle.bx_day.proofs.changing.put_past.Goals as goal

pub loop-index-preserved : goal.loop-index-preserved
loop-index-preserved c =
    let k = c.loop-index.index in
    let before = c.args.before.now in
    let es = c.args.entries.now in
    let now = c.loop-index.entries in
    let lt : k < length before = c.loop-index-test.true in
    let size = put_size k before es now c.requires c.loop-index.invariant in
    let inside : k < length now = omega (arith, lt, c.requires, size) in
    ap (slice_set now k) c.changed_to.ensures
    ∙ one_put k before es now c.index-entries-index.result c.index-before-index.result lt c.requires
    (c.index-entries-index.is ∙ get_or_default now k _ no_entry inside)
    (c.index-before-index.is ∙ get_or_default before k _ no_entry lt)
    c.loop-index.invariant
