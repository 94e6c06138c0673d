use Rattle.std.proofs.Common.{◌<◌, length, arith, rules}
use Rattle.bx_market.proofs.Eligible.{free_then, free_else}
use Rattle.bx_market.proofs.choosing.add_free.Goals.{then-eligible-index+in_ok-add, else-eligible-index}
use Rattle.bx_market.proofs.choosing.add_free.Goals as goal

pub loop-index-preserved : goal.loop-index-preserved
loop-index-preserved c =
    let l = c.loop-index in
    let lt : l.index < length c.args.batch.now = omega (arith, c.loop-index-test.true, c.len-index-end.ensures.count) in
    elim c.if-eligible-index.branch [
      | then-eligible-index+in_ok-add w ↦ free_then c.args.batch.now c.args.eligible.now l.index lt c.requires l.rows c.if-eligible-index.rows _ l.invariant (search rules) w.free.result (search rules) (search rules)
      | else-eligible-index w ↦ free_else c.args.batch.now c.args.eligible.now l.index lt c.requires l.rows c.if-eligible-index.rows _ l.invariant (search rules) (search rules)
    ]
