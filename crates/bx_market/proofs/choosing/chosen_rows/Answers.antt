use Rattle.std.proofs.Common.{◌<◌, length, arith, rules}
use Rattle.bx_market.proofs.Noted.{chosen_then, chosen_else}
use Rattle.bx_market.proofs.choosing.chosen_rows.Goals.{then-is_chosen+in_ok-add, else-is_chosen}
use Rattle.bx_market.proofs.choosing.chosen_rows.Goals as goal

pub loop-index-preserved : goal.loop-index-preserved
loop-index-preserved c =
    let l = c.loop-index in
    let b = c.args.batch.now in
    let chosen = c.args.choice.now.chosen.items in
    let lt : l.index < length b = omega (arith, c.loop-index-test.true, c.len-index-end.ensures.count) in
    elim c.if-is_chosen.branch [
      | then-is_chosen+in_ok-add w ↦ chosen_then b chosen l.index lt c.requires l.rows c.if-is_chosen.rows _ l.invariant (search rules) w.nth.result (search rules) (search rules)
      | else-is_chosen w ↦ chosen_else b chosen l.index lt c.requires l.rows c.if-is_chosen.rows _ l.invariant (search rules) (search rules)
    ]
