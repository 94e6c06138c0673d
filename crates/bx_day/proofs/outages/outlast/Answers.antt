use Rattle.std.proofs.Common.{◌<◌, length, slice_index_or, arith}
use Rattle.std.proofs.lemmas.List.{get_or_default}
use Rattle.bx_day.specs.Day.{no_entry}
use Rattle.bx_day.proofs.WaitingAnew.{one_outlasts}
use Rattle.bx_day.proofs.outages.outlast.Goals as goal

pub loop-index-preserved : goal.loop-index-preserved
loop-index-preserved c =
    let n = c.loop-index.index in
    let es = c.loop-index.entries in
    let lt : n < length es = omega (arith, c.loop-index-test.true, c.loop-index.invariant.size) in
    one_outlasts c.args.rules c.args.seconds c.args.moment n c.args.entries.now es (slice_index_or es n c.index-entries-index.result) _ c.outlasted-standing.result lt (get_or_default es n c.index-entries-index.result no_entry lt) (get_or_default es n _ no_entry lt) c.outlasted-standing.ensures c.loop-index.invariant
